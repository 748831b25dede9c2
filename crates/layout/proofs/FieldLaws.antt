-- The fields of a node: a law for each, all by their kinds, and two nodes compared.
use Prim.Native.Nat.{ℕ, suc, ◌+◌, ◌*◌, ◌-◌, ◌/◌, ◌<◌, ◌≤◌}
use mathlib.Core.Path.{◌≡◌, refl, sym, ap, subst, ◌∙◌}
use mathlib.Core.Bool.{true, false, not}
use mathlib.Core.List.{List}
use native.Mathlib.Omega.{arith}
use lib.Dec.{ltb, eqb}
use borrow.Author.Tests.{eqb-true, eqb-false, ltb-true, ltb-false, lt-ltb, le-ltb, le-leb, ne_eqb}
use Rattle.blocks.specs.Blocks.{bits_to}
use Rattle.blocks.proofs.BoolLaws.{by_t}
use Rattle.blocks.proofs.BitLaws.{bits_same}
use Rattle.blocks.proofs.CountLaws.{count_same}
use Rattle.model.specs.declared.Entry.{Entry}
use Rattle.model.specs.Model.{mark_count}
use Rattle.tree.specs.Slots.{Numbering, slot}
use Rattle.tree.specs.Tree.{slot_mark, slots}
use Rattle.layout.specs.Words.{
  IsField,
  shift_field,
  owner_field,
  filled_field,
  mark_field,
  slot_field,
  is_mark,
  filled_of,
  field_of,
  shift_word,
  owner,
  owner_under,
  mark_word,
  slot_word,
  field,
  field_under,
}

-- EACH FIELD
is_mark_lem : (m : ℕ) → m < mark_count → is_mark (mark_field + m) ≡ true
is_mark_lem m h = rw (le-leb mark_field (mark_field + m) (omega arith), lt-ltb (mark_field + m) (mark_field + mark_count) (omega arith)) refl

no_mark : (j : ℕ) → is_mark (slot_field + j) ≡ false
no_mark j = rw (
  le-leb mark_field (slot_field + j) (omega arith),
  le-ltb (slot_field + j) (mark_field + mark_count) (omega arith),
) refl

module _ (shift owner : ℕ) (mark slot : ℕ → ℕ) where
  pub at_shift : field_of shift owner mark slot shift_field ≡ shift
  unfolding field_of
  at_shift = refl

  pub at_owner : field_of shift owner mark slot owner_field ≡ owner
  unfolding field_of
  at_owner = refl

  pub at_filled : field_of shift owner mark slot filled_field ≡ filled_of slot
  unfolding field_of
  at_filled = refl

  pub at_mark : (m : ℕ) → m < mark_count → field_of shift owner mark slot (mark_field + m) ≡ mark m
  unfolding field_of
  at_mark m h =
      let e : mark_field + m - mark_field ≡ m = omega arith in
      rw (
        ne_eqb (mark_field + m) shift_field (omega arith),
        ne_eqb (mark_field + m) owner_field (omega arith),
        ne_eqb (mark_field + m) filled_field (omega arith),
        is_mark_lem m h,
        e,
      )

  pub at_slot : (o : ℕ) → field_of shift owner mark slot (slot_field + o) ≡ slot o
  unfolding field_of
  at_slot o =
      let e : slot_field + o - slot_field ≡ o = omega arith in
      rw (
        ne_eqb (slot_field + o) shift_field (omega arith),
        ne_eqb (slot_field + o) owner_field (omega arith),
        ne_eqb (slot_field + o) filled_field (omega arith),
        no_mark o,
        e,
      )

-- every field is one of these kinds
pub by_field : (Q : ℕ → Type 0) → Q shift_field → Q owner_field → Q filled_field → ((m : ℕ) → m < mark_count → Q (mark_field + m)) →
    ((o : ℕ) → o < slots → Q (slot_field + o)) → (f : ℕ) → IsField f → Q f
by_field Q a b z c d f h =
    by_t (eqb f shift_field) (λ t. subst Q (sym (eqb-true _ _ t)) a)
    (λ t₀. by_t (eqb f owner_field) (λ t. subst Q (sym (eqb-true _ _ t)) b)
    (λ t₁. by_t (eqb f filled_field) (λ t. subst Q (sym (eqb-true _ _ t)) z)
    (λ t₂. let ne₀ : f ≡ shift_field → ⊥ = eqb-false _ _ t₀ in
    let ne₁ : f ≡ owner_field → ⊥ = eqb-false _ _ t₁ in
    let ne₂ : f ≡ filled_field → ⊥ = eqb-false _ _ t₂ in
    by_t (ltb f (mark_field + mark_count))
    (λ t. let lt : f < mark_field + mark_count = ltb-true _ _ t in
    let e : mark_field + (f - mark_field) ≡ f = omega arith in
    subst Q e (c (f - mark_field) (omega arith)))
    (λ t. let ge : mark_field + mark_count ≤ f = ltb-false _ _ t in
    let e : slot_field + (f - slot_field) ≡ f = omega arith in
    subst Q e (d (f - slot_field) (omega arith))))))

pub filled_same : (slot slot' : ℕ → ℕ) → ((o : ℕ) → o < slots → slot' o ≡ slot o) → filled_of slot' ≡ filled_of slot
filled_same slot slot' d =
    count_same (λ o. not (eqb (slot' o) 0)) (λ o. not (eqb (slot o) 0)) slots
    (λ o h. ap (λ (x : ℕ). not (eqb x 0)) (d o h))

-- two nodes with the same words
pub fields_same : (s s' w w' : ℕ) (mark mark' slot slot' : ℕ → ℕ) → s' ≡ s → w' ≡ w →
    ((m : ℕ) → m < mark_count → mark' m ≡ mark m) → ((o : ℕ) → o < slots → slot' o ≡ slot o) → (f : ℕ) → IsField f →
    field_of s' w' mark' slot' f ≡ field_of s w mark slot f
fields_same s s' w w' mark mark' slot slot' a b c d =
    by_field (λ f. field_of s' w' mark' slot' f ≡ field_of s w mark slot f)
    (at_shift s' w' mark' slot' ∙ (a ∙ sym (at_shift s w mark slot)))
    (at_owner s' w' mark' slot' ∙ (b ∙ sym (at_owner s w mark slot)))
    (at_filled s' w' mark' slot' ∙ (filled_same slot slot' d ∙ sym (at_filled s w mark slot)))
    (λ m h. at_mark s' w' mark' slot' m h ∙ (c m h ∙ sym (at_mark s w mark slot m h)))
    (λ o h. at_slot s' w' mark' slot' o ∙ (d o h ∙ sym (at_slot s w mark slot o)))

-- OF THE NODE (u, b)
module _ (l : List Entry) (ν : Numbering) (u b : ℕ) where
  module _ (h : ℕ) where
    pub under_shift : field_under l ν h u b shift_field ≡ shift_word u
    under_shift = at_shift _ _ _ _

    pub under_owner : field_under l ν h u b owner_field ≡ owner_under h ν u b
    under_owner = at_owner _ _ _ _

    pub under_filled : field_under l ν h u b filled_field ≡ filled_of (slot_word l ν u b)
    under_filled = at_filled _ _ _ _

    pub under_mark : (m : ℕ) → m < mark_count → field_under l ν h u b (mark_field + m) ≡ mark_word l ν u b m
    under_mark m g = at_mark _ _ (mark_word l ν u b) _ m g

    pub under_slot : (o : ℕ) → field_under l ν h u b (slot_field + o) ≡ slot l ν (u - 1) (slots * b + o)
    under_slot o = at_slot _ _ _ (slot_word l ν u b) o

  pub field_shift : field l ν u b shift_field ≡ shift_word u
  field_shift = at_shift _ _ _ _

  pub field_owner : field l ν u b owner_field ≡ owner l ν u b
  field_owner = at_owner _ _ _ _

  pub field_filled : field l ν u b filled_field ≡ filled_of (slot_word l ν u b)
  field_filled = at_filled _ _ _ _

  pub field_mark_lem : (m : ℕ) → m < mark_count →
      field l ν u b (mark_field + m) ≡ bits_to (λ j. slot_mark l m (u - 1) (slots * b + j)) slots
  field_mark_lem m g = at_mark _ _ (mark_word l ν u b) _ m g

  pub field_slot_lem : (o : ℕ) → field l ν u b (slot_field + o) ≡ slot l ν (u - 1) (slots * b + o)
  field_slot_lem o = at_slot _ _ _ (slot_word l ν u b) o

-- by the tier of its slots
module _ (l : List Entry) (ν : Numbering) (v b : ℕ) where
  v≡ : suc v - 1 ≡ v
  v≡ = omega arith

  pub level_mark_lem : (m : ℕ) → m < mark_count →
      field l ν (suc v) b (mark_field + m) ≡ bits_to (λ j. slot_mark l m v (slots * b + j)) slots
  level_mark_lem m g = field_mark_lem l ν (suc v) b m g ∙ rw v≡

  pub level_slot_lem : (o : ℕ) → field l ν (suc v) b (slot_field + o) ≡ slot l ν v (slots * b + o)
  level_slot_lem o = field_slot_lem l ν (suc v) b o ∙ rw v≡

-- a node's words are the same where its owner, marks and slots are
module _ (l l' : List Entry) (ν ν' : Numbering) (v b : ℕ)
    (o : owner l' ν' (suc v) b ≡ owner l ν (suc v) b)
    (m : (m d : ℕ) → m < mark_count → d / slots ≡ b → slot_mark l' m v d ≡ slot_mark l m v d)
    (s : (d : ℕ) → d / slots ≡ b → slot l' ν' v d ≡ slot l ν v d) where
  pub field_same : (f : ℕ) → IsField f → field l' ν' (suc v) b f ≡ field l ν (suc v) b f
  field_same =
      let v≡ : suc v - 1 ≡ v = omega arith in
      fields_same _ _ _ _ (mark_word l ν (suc v) b) (mark_word l' ν' (suc v) b) (slot_word l ν (suc v) b)
      (slot_word l' ν' (suc v) b) refl o
      (λ x h. rw v≡ (bits_same (λ j. slot_mark l' x v (slots * b + j)) (λ j. slot_mark l x v (slots * b + j)) slots
      (λ j g. m x (slots * b + j) h (omega arith))))
      (λ j h. rw v≡ (s (slots * b + j) (omega arith)))
