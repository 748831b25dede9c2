-- The keys of a block are those of its sixteen parts, one after the other: what `gather` reads, level by level.
use Prim.Native.Nat.{ℕ, zero, suc, ◌+◌, ◌*◌, ◌/◌, ◌%◌, ◌≤◌, ◌<◌}
use mathlib.Core.Path.{◌≡◌, ap, ◌∙◌}
use mathlib.Core.List.{List, [], ◌++◌}
use mathlib.Core.Logic.{◌⊎◌, inl, inr}
use native.Mathlib.Omega.{arith}
use native.Mathlib.Nat.{le_refl}
use lib.Dec.{eqb, ltb}
use borrow.Author.Tests.{eqb-true, eqb-false, ltb-true, ltb-false, eq-eqb}
use Rattle.blocks.specs.Lists.{In, here, there}
use Rattle.blocks.proofs.BoolLaws.{by_t}
use Rattle.blocks.proofs.BlockLaws.{block_mono}
use Rattle.blocks.proofs.ListLaws.{in_left, in_right, in_append}
use Rattle.assoc_tree.specs.Keys.{Item, Sorted, done, more}
use Rattle.assoc_tree.specs.Parts.{tier_bits, block_of, over, in_block, slots}
use Rattle.assoc_tree.proofs.SlotLaws.{tier_up, in_keep, keep_in}
use Rattle.assoc_tree.proofs.SortedLaws.{sorted_low, sorted_ext, sorted_keep}

-- one sorted list after another, all of it above
pub sorted_append : {k o : ℕ} {l : List Item} {r : List Item} → Sorted k l → Sorted o r → k ≤ o →
    ((x y : Item) → In x l → In y r → x.key < y.key) → Sorted k (l ++ r)
sorted_append done r h f = sorted_low h r
sorted_append {r = ys} (more {x} {l} g t s) r h f = more g t (sorted_append s (raise r (λ y i. f x y here i)) (le_refl _) (λ a b i j. f a b (there i) j))
  where
    raise : {o m : ℕ} {ys : List Item} → Sorted o ys → ((y : Item) → In y ys → m < y.key) → Sorted (suc m) ys
    raise done g = done
    raise (more {x = y} h t s) g = more (g y here) t s

module _ {l : List Item} (s : Sorted 0 l) (v c : ℕ) where
  -- the keys of the first n slots' blocks
  abbrev pub slots_to : ℕ → List Item
  slots_to zero = []
  slots_to (suc j) = slots_to j ++ in_block l v (slots * c + j)

  pub slots_in : (n : ℕ) {x : Item} → In x (slots_to n) → In x l × (j : ℕ) × (j < n) × (block_of v x.key ≡ slots * c + j)
  slots_in zero i = elim i [ ]
  slots_in (suc n) {x} i = go (in_append (slots_to n) i) (λ k. slots_in n k)
    where
      go : In x (slots_to n) ⊎ In x (in_block l v (slots * c + n)) →
          (In x (slots_to n) → In x l × (j : ℕ) × (j < n) × (block_of v x.key ≡ slots * c + j)) →
          In x l × (j : ℕ) × (j < suc n) × (block_of v x.key ≡ slots * c + j)
      go (inl k) f = let (a, j, h, e) = f k in (a, j, omega arith, e)
      go (inr k) f = let (a, b) = keep_in (over v (slots * c + n)) l k in (a, n, omega arith, eqb-true _ _ b)

  pub in_slots : (n j : ℕ) {x : Item} → j < n → In x l → block_of v x.key ≡ slots * c + j → In x (slots_to n)
  in_slots zero j h i e = absurd (omega arith)
  in_slots (suc n) j {x} h i e =
      by_t (eqb j n)
      (λ d. in_right (slots_to n) (in_keep (over v (slots * c + n)) i (eq-eqb _ _ (e ∙ ap (λ (k : ℕ). slots * c + k) (eqb-true _ _ d)))))
      (λ d. let ne : j ≡ n → ⊥ = eqb-false _ _ d in in_left (in_block l v (slots * c + n)) (in_slots n j (omega arith) i e))

  sorted_slots : (n : ℕ) → Sorted 0 (slots_to n)
  sorted_slots zero = done
  sorted_slots (suc n) = sorted_append (sorted_slots n) (sorted_keep (over v (slots * c + n)) s) (le_refl _) below
    where
      below : (x y : Item) → In x (slots_to n) → In y (in_block l v (slots * c + n)) → x.key < y.key
      below x y i j =
          let (a, o, h, e) = slots_in n i in
          let (b, d) = keep_in (over v (slots * c + n)) l j in
          by_t (ltb x.key y.key) (λ t. ltb-true _ _ t)
          (λ t. let m : block_of v y.key ≤ block_of v x.key = block_mono (tier_bits v) (ltb-false _ _ t) in
          let d' : block_of v y.key ≡ slots * c + n = eqb-true _ _ d in absurd (omega arith))

  pub block_slots : in_block l (suc v) c ≡ slots_to slots
  block_slots = sorted_ext (sorted_keep (over (suc v) c) s) (sorted_slots slots)
      (λ x i. let (a, b) = keep_in (over (suc v) c) l i in
      let e : block_of (suc v) x.key ≡ c = eqb-true _ _ b in
      let d : block_of (suc v) x.key ≡ block_of v x.key / slots = tier_up v x.key in
      in_slots slots (block_of v x.key % slots) (omega arith) a (omega arith))
      (λ x i. let (a, j, h, e) = slots_in slots i in
      let d : block_of (suc v) x.key ≡ block_of v x.key / slots = tier_up v x.key in
      in_keep (over (suc v) c) a (eq-eqb (block_of (suc v) x.key) c (omega arith)))
