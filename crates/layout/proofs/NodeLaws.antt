-- The words of a node in a pool, by name, and all of them together.
use Prim.Native.Nat.{ℕ, suc, ◌+◌, ◌*◌, ◌-◌, ◌<◌}
use mathlib.Core.Path.{◌≡◌, sym, ◌∙◌}
use mathlib.Core.List.{List}
use native.Mathlib.Omega.{arith}
use lib.ListN.{get_or}
use Rattle.blocks.specs.Blocks.{bits_to}
use Rattle.model.specs.declared.Entry.{Entry}
use Rattle.model.specs.Model.{mark_count}
use Rattle.tree.specs.Slots.{Numbering, slot}
use Rattle.tree.specs.Tree.{slot_mark, slots, tier_order}
use Rattle.layout.specs.Words.{
  IsField,
  place,
  shift_place,
  owner_place,
  filled_place,
  mark_place,
  slot_place,
  shift_field,
  owner_field,
  filled_field,
  mark_field,
  slot_field,
  filled_of,
  owner_under,
  field_under,
}
use Rattle.layout.proofs.FieldLaws.{by_field, under_shift, under_owner, under_filled, under_mark, under_slot, filled_same}

-- the node m of the words is the node (v + 1, b) of the list, under a head of tier h
module _ (ws : List ℕ) (m : ℕ) (l : List Entry) (ν : Numbering) (h v b : ℕ) where
  v≡ : suc v - 1 ≡ v
  v≡ = omega arith

  module _ (w : (f : ℕ) → IsField f → get_or ws (place m f) 0 ≡ field_under l ν h (suc v) b f) where
    pub get_shift : get_or ws (shift_place m) 0 ≡ tier_order v + 1
    get_shift = w shift_field (omega arith) ∙ (under_shift l ν (suc v) b h ∙ omega arith)

    pub get_owner : get_or ws (owner_place m) 0 ≡ owner_under h ν (suc v) b
    get_owner = w owner_field (omega arith) ∙ under_owner l ν (suc v) b h

    pub get_filled : get_or ws (filled_place m) 0 ≡ filled_of (λ o. slot l ν v (slots * b + o))
    get_filled = w filled_field (omega arith) ∙ (under_filled l ν (suc v) b h ∙ rw v≡)

    pub get_mark : (x : ℕ) → x < mark_count →
        get_or ws (mark_place m x) 0 ≡ bits_to (λ j. slot_mark l x v (slots * b + j)) slots
    get_mark x g = w (mark_field + x) (omega arith) ∙ (under_mark l ν (suc v) b h x g ∙ rw v≡)

    pub get_slot : (o : ℕ) → o < slots → get_or ws (slot_place m o) 0 ≡ slot l ν v (slots * b + o)
    get_slot o g = w (slot_field + o) (omega arith) ∙ (under_slot l ν (suc v) b h o ∙ rw v≡)

  pub all_words : get_or ws (shift_place m) 0 ≡ tier_order v + 1 → get_or ws (owner_place m) 0 ≡ owner_under h ν (suc v) b →
      get_or ws (filled_place m) 0 ≡ filled_of (λ o. get_or ws (slot_place m o) 0) →
      ((x : ℕ) → x < mark_count → get_or ws (mark_place m x) 0 ≡ bits_to (λ j. slot_mark l x v (slots * b + j)) slots) →
      ((o : ℕ) → o < slots → get_or ws (slot_place m o) 0 ≡ slot l ν v (slots * b + o)) →
      (f : ℕ) → IsField f → get_or ws (place m f) 0 ≡ field_under l ν h (suc v) b f
  all_words s w c k o =
      by_field (λ f. get_or ws (place m f) 0 ≡ field_under l ν h (suc v) b f)
      (s ∙ sym (under_shift l ν (suc v) b h ∙ omega arith))
      (w ∙ sym (under_owner l ν (suc v) b h))
      (c ∙ filled_same (λ j. slot l ν v (slots * b + j)) (λ j. get_or ws (slot_place m j) 0) o
      ∙ sym (under_filled l ν (suc v) b h ∙ rw v≡))
      (λ x g. k x g ∙ sym (under_mark l ν (suc v) b h x g ∙ rw v≡))
      (λ j g. o j g ∙ sym (under_slot l ν (suc v) b h j ∙ rw v≡))
