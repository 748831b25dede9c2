-- `init`: makes every node free and the list empty: word 0 is the number of nodes, every other word 0.
use Rattle.std.proofs.Common.{arith, ◌≡◌, Some, None, ap, ◌∙◌, ℕ, List}
use lib.ListN.{set}
use Rattle.verify.proofs.EmptyLaws.{init_done, init_refused}
use Rattle.verify.proofs.AnswerLaws.{counted, uncounted}
use Rattle.verify.proofs.init.Goals as goal

pub returns-in_err-n-clause-value : goal.returns-in_err-n-clause-value
returns-in_err-n-clause-value c =
    let e : c.nodes_in.result ≡ None = grind arith in
    let w = (init_refused (uncounted c.nodes_in.ensures e)).0 in
    grind (arith, w)

pub returns-in_err-n-clause-pool_after : goal.returns-in_err-n-clause-pool_after
returns-in_err-n-clause-pool_after c =
    let e : c.nodes_in.result ≡ None = grind arith in
    (init_refused (uncounted c.nodes_in.ensures e)).1

pub returns-clause-value : goal.returns-clause-value
returns-clause-value c =
    let e : c.nodes_in.result ≡ Some c.in_ok-n.n = grind arith in
    (init_done (counted c.nodes_in.ensures e)).0

pub returns-clause-pool_after : goal.returns-clause-pool_after
returns-clause-pool_after c =
    let e : c.nodes_in.result ≡ Some c.in_ok-n.n = grind arith in
    ap (λ (z : List ℕ). set z 0 c.in_ok-n.n) c.fill.ensures ∙
    (init_done (counted c.nodes_in.ensures e)).1
