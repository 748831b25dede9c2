-- What the word of an entry or of a reservation can be.
use Prim.Native.Nat.{ℕ, ◌%◌, ◌^◌}
use mathlib.Core.Path.{◌≡◌, ap, subst, ◌∙◌}
use mathlib.Core.Bool.{true, false, not}
use mathlib.Core.Option.{Option, none, some}
use native.Mathlib.Omega.{arith}
use native.Mathlib.Nat.{zero-div}
use lib.Dec.{eqb, T}
use borrow.Author.Tests.{eqb-true, eqb-false}
use Rattle.blocks.specs.Choice.{both}
use Rattle.blocks.specs.Blocks.{bit}
use Rattle.blocks.proofs.BoolLaws.{by_t, both_l, both_r, either_e, not-true, T_true}
use Rattle.model.specs.declared.Entry.{Entry}
use Rattle.model.specs.Model.{storable, reserved_word, reserved, is_word_ok, present}

pub storable_kind : (w : ℕ) → storable w ≡ true → (w ≡ 0 → ⊥) × (w % 4 ≡ 2 → ⊥)
storable_kind w t = (
  eqb-false w 0 (not-true _ (both_l (not (eqb w 0)) _ t)),
  eqb-false (w % 4) 2 (not-true _ (both_r (not (eqb w 0)) _ t)),
)

module _ (e : Entry) (ok : T (is_word_ok e)) where
  -- an entry's word, or the word of a reservation of order 0 without marks
  pub by_word : {C : Type 0} → (storable e.word ≡ true → C) →
      (e.word ≡ reserved_word → e.order ≡ 0 → e.marks ≡ 0 → C) → C
  by_word f g = either_e (storable e.word) _ (T_true (is_word_ok e) ok) f
      (λ t. let r : both (eqb e.order 0) (eqb e.marks 0) ≡ true = both_r (reserved e) _ t in
      g (eqb-true _ _ (both_l (reserved e) _ t)) (eqb-true _ _ (both_l (eqb e.order 0) _ r))
      (eqb-true _ _ (both_r (eqb e.order 0) _ r)))

  pub word_kind : (e.word ≡ 0 → ⊥) × (e.word % 4 ≡ 2 → e.word ≡ reserved_word)
  word_kind = by_word (λ t. let k = storable_kind e.word t in (k.0, λ m. absurd (k.1 m)))
      (λ q o m. ((λ z. omega (arith, q, z)), λ _. q))

  pub reserved_bare : reserved e ≡ true → (e.order ≡ 0) × (e.marks ≡ 0)
  reserved_bare t = by_word
      (λ s. let q : e.word ≡ reserved_word = eqb-true _ _ t in absurd ((storable_kind e.word s).1 (omega (arith, q))))
      (λ q o m. (o, m))

  pub entry_storable : reserved e ≡ false → storable e.word ≡ true
  entry_storable f = by_word (λ s. s) (λ q o m. absurd (eqb-false _ _ f q))

  -- what has a mark is no reservation
  pub marked_kind : (m : ℕ) → bit m e.marks ≡ 1 → reserved e ≡ false
  marked_kind m b =
      by_t (reserved e)
      (λ t. let z : bit m e.marks ≡ 0 = ap (bit m) (reserved_bare t).1 ∙ ap (λ (y : ℕ). y % 2) (zero-div (2 ^ m)) in
      absurd (omega (arith, z, b)))
      (λ t. t)

-- what is present is an entry and no reservation
pub present_some : (o : Option Entry) {e : Entry} → present o ≡ some e → (o ≡ some e) × (reserved e ≡ false)
present_some none {e} q = let z : ◌≡◌ {A = ℕ} 0 1 = cc in absurd (omega arith)
present_some (some x) {e} q = by_t (reserved x)
    (λ t. absurd (let z : none ≡ some e = rw t at q in let y : ◌≡◌ {A = ℕ} 0 1 = cc in omega arith))
    (λ t. let d : some x ≡ some e = rw t at q in
    let y : x ≡ e = cc in (d, subst (λ (z : Entry). reserved z ≡ false) y t))
