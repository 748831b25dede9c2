use Rattle.std.proofs.Common.{arith, ◌≡◌, Some, None, ap, ◌∙◌, ℕ, List}
use lib.ListN.{set}
use Rattle.assoc_check.proofs.AnswerLaws.{counted, uncounted, clear_done, clear_refused}
use Rattle.assoc_check.proofs.clear.Goals as goal

pub returns-in_err-n-clause-value : goal.returns-in_err-n-clause-value
returns-in_err-n-clause-value c =
    let e : c.blocks_in.result ≡ None = grind arith in
    let w = (clear_refused c.args.pool.now (uncounted c.args.pool.now c.blocks_in.ensures e)).0 in
    grind (arith, w)

pub returns-in_err-n-clause-pool_after : goal.returns-in_err-n-clause-pool_after
returns-in_err-n-clause-pool_after c =
    let e : c.blocks_in.result ≡ None = grind arith in
    (clear_refused c.args.pool.now (uncounted c.args.pool.now c.blocks_in.ensures e)).1

pub returns-clause-value : goal.returns-clause-value
returns-clause-value c =
    let e : c.blocks_in.result ≡ Some c.in_ok-n.n = grind arith in
    (clear_done c.args.pool.now _ (counted c.args.pool.now c.blocks_in.ensures e)).0

pub returns-clause-pool_after : goal.returns-clause-pool_after
returns-clause-pool_after c =
    let e : c.blocks_in.result ≡ Some c.in_ok-n.n = grind arith in
    ap (λ (z : List ℕ). set z 0 c.in_ok-n.n) c.fill.ensures ∙ (clear_done c.args.pool.now _ (counted c.args.pool.now c.blocks_in.ensures e)).1
