-- `head_node`: whether node h is as the head must be, where each node is free or as it must be.
use mathlib.Core.Path.{refl, sym, ◌∙◌}
use native.Mathlib.Omega.{arith}
use Rattle.scan.proofs.HeadLaws.{head_yes}
use Rattle.scan.proofs.head_node.Goals as goal

pub returns : goal.returns
returns c =
    let c3 = c in
    let c5 = c3 in
    let c7 = c5 in
    let c9 = c7 in
    let c13 = c9 in
    head_yes _ c13.requires.fact_2 _ (omega arith) (λ z. c7.if-shift_of-eq0.false (c9.shift_of.ensures ∙ z))
    (sym c7.owner_of.ensures ∙ c5.if-owner_of-ne0.false) _ _ refl
    (omega (
      arith,
      c3.worth_of-a.ensures.fact_1,
      c.worth_of-b.ensures.fact_1,
      c.worth_of-c.ensures.fact_1,
    ))
    (c5.tall.ensures.0 c3.if-not-tall.false)
