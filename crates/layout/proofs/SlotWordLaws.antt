-- What the word of a slot says, and the view of a block through it: empty, a reservation, an entry, a sibling, a node.
use Prim.Native.Nat.{ℕ, ◌*◌, ◌-◌, ◌/◌, ◌%◌, ◌≤◌, ◌<◌}
use mathlib.Core.Path.{◌≡◌, refl, ap, ◌∙◌}
use mathlib.Core.List.{List}
use native.Mathlib.Omega.{arith}
use native.Mathlib.Nat.{le_refl}
use lib.Dec.{ltb, eqb}
use borrow.Author.Tests.{eqb-true, eqb-false, ltb-true, lt-ltb, le-ltb, eq-eqb, ne_eqb}
use Rattle.blocks.specs.Choice.{both}
use Rattle.blocks.specs.Lists.{All}
use Rattle.blocks.specs.Blocks.{block}
use Rattle.blocks.proofs.BoolLaws.{by_t}
use Rattle.model.specs.declared.Entry.{Entry}
use Rattle.model.specs.Model.{EntryOk, reserved_word}
use Rattle.model.proofs.WordLaws.{by_word, storable_kind}
use Rattle.tree.specs.Slots.{slot, node_word, sibling_word, Numbering, node_offset}
use Rattle.tree.proofs.ReadLaws.{Seen, nothing, lower, entry, sibling, see}
use Rattle.tree.specs.Tree.{slots, tier_order}
use Rattle.layout.specs.Pool.{slot_of, sibling_bit}
use Rattle.layout.specs.declared.Slot.TheVariants.{Empty, Reserved, Held, Sibling, Child}
pub use Rattle.layout.specs.View.{View, v_empty, v_child, v_reserved, v_held, v_sibling}

pub slot_empty : slot_of 0 ≡ Empty
unfolding slot_of
slot_empty = refl

pub slot_held : (w : ℕ) → (w ≡ 0 → ⊥) → (w % 4 ≡ 2 → ⊥) → slot_of w ≡ Held
unfolding slot_of
slot_held w z m = rw (ne_eqb w 0 z, ne_eqb (w % 4) 2 m) refl

pub slot_reserved : slot_of reserved_word ≡ Reserved
unfolding slot_of
slot_reserved = refl

pub slot_sibling : (w : ℕ) → w % 4 ≡ 2 → (w ≡ reserved_word → ⊥) → w < 4096 → slot_of w ≡ Sibling (w / 4)
unfolding slot_of
slot_sibling w m n h = rw (
  ne_eqb w 0 (omega arith),
  eq-eqb (w % 4) 2 m,
  ne_eqb w reserved_word n,
  lt-ltb w (4 * node_offset) h,
) refl

pub slot_child : (w : ℕ) → w % 4 ≡ 2 → 4096 ≤ w → slot_of w ≡ Child (w / 4 - node_offset)
unfolding slot_of
slot_child w m h = rw (
  ne_eqb w 0 (omega arith),
  eq-eqb (w % 4) 2 m,
  ne_eqb w reserved_word (omega arith),
  le-ltb w (4 * node_offset) h,
) refl

-- a sibling's bit
pub sibling_bit_0 : (w : ℕ) → (w % 4 ≡ 2 → w < reserved_word → ⊥) → sibling_bit w ≡ 0
sibling_bit_0 w f = by_t (eqb (w % 4) 2)
    (λ s. by_t (ltb w reserved_word) (λ t. absurd (f (eqb-true _ _ s) (ltb-true _ _ t))) (λ t. rw (s, t) refl))
    (λ s. rw s refl)

pub sibling_bit_1 : (w : ℕ) → w % 4 ≡ 2 → w < reserved_word → sibling_bit w ≡ 1
sibling_bit_1 w e h = rw (eq-eqb (w % 4) 2 e, lt-ltb w reserved_word h) refl

pub sibling_bit_le : (w : ℕ) → sibling_bit w ≤ 1
sibling_bit_le w = by_t (both (eqb (w % 4) 2) (ltb w reserved_word)) (λ t. rw t (le_refl 1)) (λ t. rw t (omega arith))

pub view : (l : List Entry) (ν : Numbering) (u c : ℕ) → All EntryOk l → View l ν u c (slot_of (slot l ν u c))
view l ν u c ok = go (see l ν u c ok)
  where
    go : {x : ℕ} → Seen l ν u c x → View l ν u c (slot_of x)
    go (nothing t q) = rw slot_empty (v_empty t q)
    go (lower t) =
        let d : node_word (ν u c) / 4 - node_offset ≡ ν u c = omega arith in
        rw (slot_child (node_word (ν u c)) (omega arith) (omega arith), d) (v_child t)
    go (entry e t q s y) = by_word e y.word_ok
        (λ o. let k = storable_kind e.word o in rw (slot_held e.word k.0 k.1) (v_held e t q (eqb-true _ _ s)))
        (λ r o m. rw (ap slot_of r ∙ slot_reserved) (v_reserved e t q (eqb-true _ _ s) (eq-eqb _ _ r)))
    go (sibling e t q s y) =
        let d : sibling_word (block (tier_order u) e.base % slots) / 4 ≡ block (tier_order u) e.base % slots =
        omega arith in
        rw (
          slot_sibling (sibling_word (block (tier_order u) e.base % slots)) (omega arith) (omega arith) (omega arith),
          d,
        )
        (v_sibling e t q (eqb-false _ _ s))
