-- Slots and marks after a store: the same apart from the target range, those of the path, and those inside the range.
use Prim.Native.Nat.{ℕ, ◌+◌, ◌*◌, ◌^◌, ◌≤◌, ◌<◌}
use mathlib.Core.Path.{◌≡◌, sym, ◌∙◌}
use mathlib.Core.Bool.{Bool, true, false}
use mathlib.Core.List.{List}
use mathlib.Core.Option.{some}
use native.Mathlib.Omega.{arith}
use lib.Dec.{ltb}
use borrow.Author.Tests.{eqb-true, lt-ltb, le-ltb, eq-eqb}
use Rattle.blocks.specs.Choice.{both}
use Rattle.blocks.specs.Lists.{any, All}
use Rattle.blocks.specs.Blocks.{block}
use Rattle.blocks.proofs.BoolLaws.{by_t, is_false, both_l, both_r, either_no}
use Rattle.blocks.proofs.ListLaws.{All-of, All-map, All-keep, any_same, any_split}
use Rattle.blocks.proofs.BlockLaws.{block_up, block_at}
use Rattle.model.specs.declared.Entry.{Entry}
use Rattle.model.specs.Model.{covers, covering, starts, within, has_mark}
use Rattle.model.specs.ByBlock.{inside, clear, new_entry, store_new}
use Rattle.model.proofs.InsertLaws.{any_insert, first_insert_not, first_insert}
use Rattle.model.proofs.RangeLaws.{
  Room,
  InRun,
  Apart,
  Inside,
  clear_apart,
  clear_inside,
  clear_uncovered,
  clear_covering_not,
}
use Rattle.tree.specs.Slots.{slot, entry_word, Numbering, node_offset}
use Rattle.tree.specs.Tree.{slot_mark, tier_order}
use Rattle.model.proofs.MarkLaws.{marks_of_lem}

pub within_only : (j c : ℕ) (x : Entry) → within j c x ≡ true → block j x.base ≡ c
within_only j c x t = eqb-true _ _ (both_r (ltb x.order j) _ t)

pub marked_only : (m j c : ℕ) (x : Entry) → both (starts j c x) (has_mark m x) ≡ true → block j x.base ≡ c
marked_only m j c x t = eqb-true _ _ (both_l (starts j c x) (has_mark m x) t)

module _ (i k w : ℕ) (l : List Entry) where
  new_run : InRun i k (new_entry l i k w).base
  new_run = block_at k (block k i)

  module _ (p : Entry → Bool) (j c : ℕ) (only : (x : Entry) → p x ≡ true → block j x.base ≡ c) where
    pub store_apart : Apart i k j c → any p (store_new l i k w) ≡ any p l
    store_apart a = rw (
      any_insert,
      is_false (λ t. a _ (only (new_entry l i k w) t) new_run),
      clear_apart i k l p j c only a,
    )

    pub store_inside : Inside i k j c → any p (store_new l i k w) ≡ p (new_entry l i k w)
    store_inside a = rw (any_insert, clear_inside i k l p j c only a) (either_no _)

  pub store_covering : All (Room i k) l → (y : ℕ) → InRun i k y →
      covering (store_new l i k w) y ≡ some (new_entry l i k w)
  store_covering a y e = first_insert (covers y) (eq-eqb _ _ (e ∙ sym new_run)) (clear_uncovered i k l a y e)

  pub store_covering_not : All (Room i k) l → (y : ℕ) → (InRun i k y → ⊥) →
      covering (store_new l i k w) y ≡ covering l y
  store_covering_not a y n =
      first_insert_not (covers y) (clear l i k) (is_false (λ t. n (eqb-true _ _ t ∙ new_run))) ∙ clear_covering_not i
      k l a y n

  new_up : (j : ℕ) → k ≤ j → block j (block k i * 2 ^ k) ≡ block j i
  new_up j h = block_up (block k i * 2 ^ k) i h new_run

  -- (2)
  pub slot_apart : (ν ν' : Numbering) (u c : ℕ) → All (Room i k) l → Apart i k (tier_order u) c →
      (any (within (tier_order u) c) l ≡ true → ν' u c ≡ ν u c) → slot (store_new l i k w) ν' u c ≡ slot l ν u c
  unfolding slot
  slot_apart ν ν' u c r a e =
      rw (
        store_apart (within (tier_order u) c) (tier_order u) c (within_only (tier_order u) c) a,
        store_covering_not r (c * 2 ^ (tier_order u)) (a _ (block_at (tier_order u) c)),
      )
      (by_t (any (within (tier_order u) c) l) (λ t. rw (t, e t)) (λ t. rw t))

  pub mark_apart : (m u c : ℕ) → Apart i k (tier_order u) c → slot_mark (store_new l i k w) m u c ≡ slot_mark l m u c
  unfolding slot_mark
  mark_apart m u c a = store_apart _ (tier_order u) c (marked_only m (tier_order u) c) a

  -- (3)
  pub within_path : (j : ℕ) → k < j → any (within j (block j i)) (store_new l i k w) ≡ true
  within_path j h = rw (any_insert, lt-ltb k j h, eq-eqb _ _ (new_up j (omega arith)))

  pub slot_path : (ν : Numbering) (u : ℕ) → k < tier_order u → slot (store_new l i k w) ν u (block (tier_order u) i) ≡
      4 * (node_offset + ν u (block (tier_order u) i)) + 2
  unfolding slot
  slot_path ν u h = rw (within_path (tier_order u) h)

  pub within_inside : (j c : ℕ) → j ≤ k → Inside i k j c → any (within j c) (store_new l i k w) ≡ false
  within_inside j c h a = store_inside (within j c) j c (within_only j c) a ∙ rw (le-ltb k j h)

  pub slot_inside : (ν : Numbering) (u c : ℕ) → All (Room i k) l → tier_order u ≤ k → Inside i k (tier_order u) c →
      slot (store_new l i k w) ν u c ≡ entry_word u c (some (new_entry l i k w))
  unfolding slot
  slot_inside ν u c r h a = rw (
    within_inside (tier_order u) c h a,
    store_covering r (c * 2 ^ (tier_order u)) (a _ (block_at (tier_order u) c)),
  )

  pub mark_inside : (m u c : ℕ) → m < 3 → Inside i k (tier_order u) c →
      slot_mark (store_new l i k w) m u c ≡ both (starts (tier_order u) c (new_entry l i k w))
      (any (has_mark m) (inside l i k))
  unfolding slot_mark
  mark_inside m u c h a = store_inside _ (tier_order u) c (marked_only m (tier_order u) c) a ∙ rw
      (marks_of_lem (inside l i k) m h)

  pub mark_path : (m u : ℕ) → m < 3 → k ≤ tier_order u → slot_mark (store_new l i k w) m u (block (tier_order u) i) ≡
      slot_mark l m u (block (tier_order u) i)
  unfolding slot_mark
  mark_path m u h g =
      let p : Entry → Bool = λ e. both (starts (tier_order u) (block (tier_order u) i) e) (has_mark m e) in
      let same : any p (inside l i k) ≡ any (has_mark m) (inside l i k) =
      any_same p (has_mark m) (All-map (λ x h. rw (eq-eqb _ _ (block_up x.base i g (eqb-true _ _ h.0))))
      (All-keep (starts k (block k i)) (All-of {P = λ x. Entry} (λ x. x) l))) in
      rw (
        any_insert,
        eq-eqb _ _ (new_up (tier_order u) g),
        marks_of_lem (inside l i k) m h,
        ← any_split p (starts k (block k i)) l,
        same,
      )
