-- `check_map`: whether some list of entries prescribes the words, with its nodes at some numbers.
use Rattle.std.proofs.Common.{arith, ◌≡◌, Some, None}
use Rattle.layout.specs.WellFormed.{Sized}
use Rattle.verify.specs.Answers.{wrong_size}
use Rattle.verify.proofs.VerdictLaws.{bad_count, bad_spare, bad_node, bad_head, all_good}
use Rattle.verify.proofs.AnswerLaws.{answered, counted, uncounted}
use Rattle.verify.proofs.check_map.Goals as goal

pub returns-in_err-n-clause-value : goal.returns-in_err-n-clause-value
returns-in_err-n-clause-value c =
    let e : c.nodes_in.result ≡ None = grind arith in
    let w = answered _ 1 (wrong_size (uncounted c.nodes_in.ensures e)) in
    grind (arith, w)

pub returns-then-pool-n-clause-value : goal.returns-then-pool-n-clause-value
returns-then-pool-n-clause-value c =
    let e : c.nodes_in.result ≡ Some c.in_ok-n.n = grind arith in
    answered _ 2 (bad_count _ _ (counted c.nodes_in.ensures e) c.if-pool-n.true)

pub returns-then-pool-ne0-clause-value : goal.returns-then-pool-ne0-clause-value
returns-then-pool-ne0-clause-value c =
    let e : c.nodes_in.result ≡ Some c.in_ok-n.n = grind arith in
    answered _ 2 (bad_spare _ _ (counted c.nodes_in.ensures e) c.if-pool-ne0.true)

pub returns-then-not-nodes_ok-clause-value : goal.returns-then-not-nodes_ok-clause-value
returns-then-not-nodes_ok-clause-value c =
    let e : c.nodes_in.result ≡ Some c.in_ok-n.n = grind arith in
    answered _ 2 (bad_node _ _ (counted c.nodes_in.ensures e) (c.nodes_ok.ensures.decides.1 c.if-not-nodes_ok.true))

pub returns-then-not-head_ok-clause-value : goal.returns-then-not-head_ok-clause-value
returns-then-not-head_ok-clause-value c =
    let e : c.nodes_in.result ≡ Some c.in_ok-n.n = grind arith in
    answered _ 2 (bad_head _ _ (counted c.nodes_in.ensures e) (c.head_ok.ensures.1 c.if-not-head_ok.true))

pub returns-clause-value : goal.returns-clause-value
returns-clause-value c =
    let e : c.nodes_in.result ≡ Some c.in_ok-n.n = grind arith in
    answered _ 0 (all_good _ _ (counted c.nodes_in.ensures e) (λ i. omega (arith, c.type_inv.pool i)) c.if-pool-n.false
    c.if-pool-ne0.false (c.nodes_ok.ensures.decides.0 c.if-not-nodes_ok.false) (c.head_ok.ensures.0 c.if-not-head_ok.false))
