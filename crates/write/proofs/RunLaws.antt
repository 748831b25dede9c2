-- The slots that an entry takes in its node.
use Prim.Native.Nat.{ℕ, zero, suc, ◌+◌, ◌*◌, ◌-◌, ◌/◌, ◌%◌, ◌^◌, ◌≤◌, ◌<◌}
use mathlib.Core.Path.{◌≡◌, sym, ap, subst, ◌∙◌}
use mathlib.Core.Bool.{true}
use mathlib.Core.List.{List}
use mathlib.Core.Option.{some}
use native.Mathlib.Omega.{arith}
use native.Mathlib.Nat.{mul_assoc}
use borrow.Author.Tests.{eq-eqb, ne_eqb}
use Rattle.blocks.specs.Blocks.{block}
use Rattle.blocks.proofs.BlockLaws.{block_block, block_at, pow-add, pow_pos}
use Rattle.blocks.specs.Lists.{All}
use Rattle.model.specs.declared.Entry.{Entry}
use Rattle.model.specs.Model as M
use Rattle.model.specs.ByBlock.{new_entry, store_new}
use Rattle.model.proofs.AlignedLaws.{whole}
use Rattle.model.proofs.RangeLaws.{Room, Inside, inside_down}
use Rattle.tree.specs.Slots.{slot, entry_word, sibling_word, Numbering}
use Rattle.tree.proofs.StoreLaws.{slot_inside}
use Rattle.tree.proofs.SlotLaws.{tier_up}
use Rattle.tree.specs.Tree.{tier_order, slots, slot_bits}
use Rattle.write.specs.Writes.{width, offset}

record Aligned (x c : ℕ) : Type 0 where
  base_is : slots * (x / slots) + x % slots / c * c ≡ x / c * c
  fits_in : x % slots / c * c + c ≤ slots
  first_is : x / c * c % slots ≡ x % slots / c * c
  within_is : (t : ℕ) → t < c → (x / c * c + t) / c ≡ x / c
  some_of : 1 ≤ c
  small : c ≤ 32

aligned : (r x : ℕ) → r < slot_bits → Aligned x (2 ^ r)
aligned zero x h = record {
  base_is = omega arith;
  fits_in = omega arith;
  first_is = omega arith;
  within_is = λ t h.
      omega arith;
  some_of = omega arith;
  small = omega arith;
}
aligned (suc zero) x h = record {
  base_is = omega arith;
  fits_in = omega arith;
  first_is = omega arith;
  within_is =
      λ t h. omega arith;
  some_of = omega arith;
  small = omega arith;
}
aligned (suc (suc zero)) x h = record {
  base_is = omega arith;
  fits_in = omega arith;
  first_is = omega arith;
  within_is = λ t h. omega arith;
  some_of = omega arith;
  small = omega arith;
}
aligned (suc (suc (suc zero))) x h = record {
  base_is = omega arith;
  fits_in = omega arith;
  first_is = omega arith;
  within_is = λ t h. omega arith;
  some_of = omega arith;
  small = omega arith;
}
aligned (suc (suc (suc (suc zero)))) x h = record {
  base_is = omega arith;
  fits_in = omega arith;
  first_is = omega
      arith;
  within_is = λ t h. omega arith;
  some_of = omega arith;
  small = omega arith;
}
aligned (suc (suc (suc (suc (suc zero))))) x h = record {
  base_is = omega arith;
  fits_in = omega arith;
  first_is = omega arith;
  within_is = λ t h. omega arith;
  some_of =
      omega arith;
  small = omega arith;
}
aligned (suc (suc (suc (suc (suc (suc r)))))) x h = absurd (omega arith)

module _ (i k : ℕ) where
  x : ℕ
  x = block (tier_order (k / slot_bits)) i

  al : Aligned (block (tier_order (k / slot_bits)) i) (width k)
  al = aligned (k % slot_bits) (block (tier_order (k / slot_bits)) i) (omega arith)

  pub run_fits : offset i k + width k ≤ slots
  run_fits = al.fits_in

  pub width_small : width k ≤ 32
  width_small = al.small

  pub width_some : 1 ≤ width k
  width_some = al.some_of

  top_is : block k i ≡ block (tier_order (k / slot_bits)) i / width k
  top_is =
      let e : k - tier_order (k / slot_bits) ≡ k % slot_bits = omega arith in
      block_block {j = tier_order (k / slot_bits)} {k = k} i (omega arith) ∙ ap
      (λ (d : ℕ). block (tier_order (k / slot_bits)) i / 2 ^ d) e

  -- the slots by number
  pub first_slot : slots * block (tier_order (k / slot_bits + 1)) i + offset i k ≡ block (tier_order (k / slot_bits)) i / width k * width
      k
  first_slot =
      let e : block (tier_order (k / slot_bits + 1)) i ≡ block (tier_order (k / slot_bits)) i / slots = ap (λ (d : ℕ). block d i)
      (omega arith) ∙ tier_up (k / slot_bits) i in
      rw e al.base_is

  pub base_slot : block (tier_order (k / slot_bits)) (block k i * 2 ^ k) ≡ block (tier_order (k / slot_bits)) i / width k * width k
  base_slot =
      let e : k % slot_bits + tier_order (k / slot_bits) ≡ k = omega arith in
      let p : 2 ^ k ≡ width k * 2 ^ (tier_order (k / slot_bits)) = sym
      (pow-add (k % slot_bits) (tier_order (k / slot_bits)) ∙ ap (λ (d : ℕ). 2 ^ d) e) in
      let q : block k i * 2 ^ k ≡ block (tier_order (k / slot_bits)) i / width k * width k * 2 ^ (tier_order (k / slot_bits)) =
      ap (λ (y : ℕ). y * 2 ^ k) top_is ∙ (ap (λ (y : ℕ). block (tier_order (k / slot_bits)) i / width k * y) p ∙ sym
      (mul_assoc (block (tier_order (k / slot_bits)) i / width k) (width k) (2 ^ (tier_order (k / slot_bits))))) in
      ap (λ (y : ℕ). block (tier_order (k / slot_bits)) y) q ∙ block_at (tier_order (k / slot_bits))
      (block (tier_order (k / slot_bits)) i / width k * width k)

  -- of an aligned index the first slot is the index's own
  pub offset_own : M.aligned k i ≡ true → block (tier_order (k / slot_bits)) i % slots ≡ offset i k
  offset_own a =
      let e : block (tier_order (k / slot_bits)) i ≡ block (tier_order (k / slot_bits)) i / width k * width k =
      ap (block (tier_order (k / slot_bits))) (sym (whole i k a)) ∙ base_slot in
      ap (λ (y : ℕ). y % slots) e ∙ al.first_is

  pub slot_in_run : (t : ℕ) → t < width k → Inside i k (tier_order (k / slot_bits))
      (slots * block (tier_order (k / slot_bits + 1)) i + (offset i k + t))
  slot_in_run t h =
      let e : k - tier_order (k / slot_bits) ≡ k % slot_bits = omega arith in
      let q : slots * block (tier_order (k / slot_bits + 1)) i + (offset i k + t) ≡ block (tier_order (k / slot_bits)) i / width k * width
      k + t = omega (arith, first_slot) in
      inside_down i k (tier_order (k / slot_bits)) _ (omega arith) (rw (q, e) (al.within_is t h ∙ sym top_is))

  -- a slot of the node inside the run is one of them
  pub run_slot : (c : ℕ) → c / slots ≡ block (tier_order (k / slot_bits + 1)) i → c / 2 ^ (k - tier_order (k / slot_bits)) ≡ block k i →
      (t : ℕ) × (t < width k) × (c ≡ slots * block (tier_order (k / slot_bits + 1)) i + (offset i k + t))
  run_slot c e q =
      let d : k - tier_order (k / slot_bits) ≡ k % slot_bits = omega arith in
      let q' : c / width k ≡ block (tier_order (k / slot_bits)) i / width k = (rw d at q) ∙ top_is in
      let lo : c / width k * width k ≤ c = native.Mathlib.Nat.div-mul-le_self c (width k) in
      let hi : c < c / width k * width k + width k = native.Mathlib.Nat.lt-div-mul-add (pow_pos (k % slot_bits)) in
      let lo' : block (tier_order (k / slot_bits)) i / width k * width k ≤ c = subst (λ (y : ℕ). y * width k ≤ c) q' lo in
      let hi' : c < block (tier_order (k / slot_bits)) i / width k * width k + width k = subst
      (λ (y : ℕ). c < y * width k + width k) q' hi in
      (c - block (tier_order (k / slot_bits)) i / width k * width k, omega arith, omega (arith, first_slot))

  module _ (w : ℕ) (l : List Entry) (ν : Numbering) (room : All (Room i k) l) where
    entry_at : (t : ℕ) → t < width k → slot (store_new l i k w) ν (k / slot_bits)
        (slots * block (tier_order (k / slot_bits + 1)) i + (offset i k + t)) ≡ entry_word (k / slot_bits)
        (slots * block (tier_order (k / slot_bits + 1)) i + (offset i k + t)) (some (new_entry l i k w))
    entry_at t h = slot_inside i k w l ν (k / slot_bits) _ room (omega arith) (slot_in_run t h)

    pub entry_word_lem : slot (store_new l i k w) ν (k / slot_bits) (slots * block (tier_order (k / slot_bits + 1)) i + (offset i k + 0)) ≡
        w
    entry_word_lem = entry_at 0 width_some ∙ rw (eq-eqb (block (tier_order (k / slot_bits)) (block k i * 2 ^ k))
        (slots * block (tier_order (k / slot_bits + 1)) i + (offset i k + 0)) (omega (arith, base_slot, first_slot)))

    pub sibling_word_lem : (t : ℕ) → t + 1 < width k → slot (store_new l i k w) ν (k / slot_bits)
        (slots * block (tier_order (k / slot_bits + 1)) i + (offset i k + (t + 1))) ≡ sibling_word (offset i k)
    sibling_word_lem t h = entry_at (t + 1) h ∙ rw (
      ne_eqb (block (tier_order (k / slot_bits)) (block k i * 2 ^ k))
          (slots * block (tier_order (k / slot_bits + 1)) i + (offset i k + (t + 1)))
          (let a = base_slot in let b = first_slot in omega arith),
      base_slot,
      al.first_is,
    )
