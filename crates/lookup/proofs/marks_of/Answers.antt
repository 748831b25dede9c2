-- `marks_of`: the marks of the entry whose first slot is slot o of node n.
use Prim.Native.Nat.{ℕ}
use mathlib.Core.Path.{ap, ◌∙◌}
use native.Mathlib.Omega.{arith}
use mathlib.Core.Bool.{Bool}
use lib.Dec.{lit<}
use Rattle.blocks.specs.Choice.{pick}
use Rattle.blocks.proofs.ListLaws.{look}
use Rattle.model.proofs.ValidLaws.{sorted_ok}
use Rattle.lookup.proofs.WordLaws.{mark_read}
use Rattle.lookup.proofs.StandLaws.{mark_is}
use Rattle.model.proofs.MarkLaws.{marks_sum}
use Rattle.lookup.proofs.marks_of.Goals as goal

pub returns : goal.returns
returns c =
    λ s v d e a q st.
    let q₀ = c.mark_bit.ensures ∙ mark_read s 0 d _ (lit< tt) a q ∙ ap (λ (t : Bool). pick {A = ℕ} t 1 0)
    (mark_is s.valid st 0) in
    let q₁ = c.mark_bit-2.ensures ∙ mark_read s 1 d _ (lit< tt) a q ∙ ap (λ (t : Bool). pick {A = ℕ} t 1 0)
    (mark_is s.valid st 1) in
    let q₂ = c.mark_bit-3.ensures ∙ mark_read s 2 d _ (lit< tt) a q ∙ ap (λ (t : Bool). pick {A = ℕ} t 1 0) (mark_is s.valid st 2) in
    omega (arith, marks_sum e (look (sorted_ok s.valid) st.inside).marks_fit)
