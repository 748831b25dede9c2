-- `child_ok`: whether slot j may lead to node m.
use mathlib.Core.Path.{sym, ◌∙◌}
use native.Mathlib.Omega.{arith}
use Prim.Native.Nat.{◌-◌}
use Rattle.steps.proofs.ChildLaws.{child_yes}
use Rattle.steps.proofs.child_ok.Goals as goal

pub returns : goal.returns
returns c =
    let c3 = c in
    let c4 = c3 in
    let c7 = c4 in
    let c8 = c7 in
    let c9 = c8 in
    let c10 = c9 in
    let c15 = c10 in
    child_yes _ _ _ _ _ _ (c15.args.v - 1) (omega arith) (omega arith) (sym c10.shift_of.ensures ∙ c9.if-shift_of-v.false)
    (sym c8.owner_of.ensures ∙ (c7.if-owner_of-owner_word.false ∙ c7.owner_word.ensures)) (omega arith)
    (c4.agrees.ensures.0 c3.if-not-agrees.false)
    (c.agrees-2.ensures.0 c.if-not-agrees-2.false) c.agrees-3.ensures
