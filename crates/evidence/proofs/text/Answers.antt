-- `text`: the text of an index as a part of the sheet that has it.
use mathlib.Core.Path.{refl, sym, ◌∙◌}
use native.Mathlib.Omega.{arith}
use native.Mathlib.Nat.{add-sub_cancel_left, add_comm}
use Rattle.evidence.proofs.LookLaws.{base_inside, supplement_inside}
use Rattle.evidence.proofs.text.Goals as goal

pub overflow_add-result : goal.overflow_add-result
overflow_add-result c =
    let h = supplement_inside _ _ _ _ _ (sym c.look-f.ensures ∙ c.in-InSupplement.is) in omega (arith, h)

pub slice_bounds-result-end : goal.slice_bounds-result-end
slice_bounds-result-end c =
    let h = supplement_inside _ _ _ _ _ (sym c.look-f.ensures ∙ c.in-InSupplement.is) in omega (arith, h)

pub overflow_add-result-in-InBase : goal.overflow_add-result-in-InBase
overflow_add-result-in-InBase c =
    let h = base_inside _ _ _ _ _ (sym c.look-f.ensures ∙ c.in-InBase.is) in omega (arith, h)

pub slice_bounds-result-end-in-InBase : goal.slice_bounds-result-end-in-InBase
slice_bounds-result-end-in-InBase c =
    let h = base_inside _ _ _ _ _ (sym c.look-f.ensures ∙ c.in-InBase.is) in omega (arith, h)

pub returns-in-InSupplement : goal.returns-in-InSupplement
returns-in-InSupplement c =
    let e = sym c.look-f.ensures ∙ c.in-InSupplement.is in
    rw e (record { inside = supplement_inside _ _ _ _ _ e; block = refl; place = add_comm _ _; bytes = rw add-sub_cancel_left })

pub returns-in-InBase : goal.returns-in-InBase
returns-in-InBase c =
    let e = sym c.look-f.ensures ∙ c.in-InBase.is in
    rw e (record { inside = base_inside _ _ _ _ _ e; block = refl; place = add_comm _ _; bytes = rw add-sub_cancel_left })
