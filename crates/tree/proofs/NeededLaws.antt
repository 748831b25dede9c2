-- How many nodes a store needs, tier by tier, as the code counts them.
use Prim.Native.Nat.{ℕ, zero, suc, ◌+◌, ◌*◌, ◌^◌, ◌≤◌, ◌<◌, max}
use mathlib.Core.Path.{◌≡◌, refl, sym, ◌∙◌}
use mathlib.Core.Bool.{Bool, true, false, not}
use mathlib.Core.List.{List, [], ◌∷◌}
use native.Mathlib.Omega.{arith}
use native.Mathlib.Nat.{le_refl, zero-mul, zero-div}
use lib.Dec.{leb, ltb, eqb}
use lib.ListN.{length}
use borrow.Author.Tests.{leb-true, leb-false, eqb-true, eqb-false, ltb-true, ltb-false, lt-ltb, lt-leb, eq-eqb}
use Rattle.blocks.specs.Choice.{both}
use Rattle.blocks.specs.Lists.{any, All, nonempty}
use Rattle.blocks.specs.Blocks.{block}
use Rattle.blocks.proofs.BoolLaws.{clash, by_t, is_false, both_no, both_yes}
use Rattle.blocks.proofs.ListLaws.{All-map, without_all, without_none}
use Rattle.blocks.proofs.BlockLaws.{block_up, block_at}
use Rattle.model.specs.declared.Entry.{Entry}
use Rattle.model.specs.Model.{starts, within}
use Rattle.model.specs.ByBlock.{clear, new_entry}
use Rattle.model.proofs.RangeLaws.{InRun}
use Rattle.tree.specs.Tree.{fits, tall, height, has, add_if, tier_order}
use Rattle.tree.proofs.HeightLaws.{
  Low,
  height_fits,
  fits_i,
  fits_tall,
  tall_fits,
  fits_order,
  fits_base,
  zero_up,
}
use Rattle.tree.proofs.NewNodeLaws.{chained, fresh_at}
use Rattle.tree.proofs.NodeListLaws.{finer}
use Rattle.blocks.proofs.TierLaws.{lies_above}

-- a node on the path has a node above it on the path
pub path_up : (i : ℕ) {j k : ℕ} (l : List Entry) → j ≤ k → any (within j (block j i)) l ≡ true →
    any (within k (block k i)) l ≡ true
path_up i {j} {k} l h t = lies_above (λ e. e.base) finer i l h
    (λ x s. let o : x.order < j = ltb-true _ _ s in lt-ltb x.order k (omega arith)) t

module _ (i k w : ℕ) (l : List Entry) (low : All Low l) (grows : height l < tall (new_entry l i k w)) where
  not_fits : fits (height l) (new_entry l i k w) ≡ false
  not_fits = is_false (λ t. omega (arith, fits_tall (height l) (new_entry l i k w) t))

  -- where the head grows, the run holds everything or nothing
  grow_all : block k i ≡ 0 → clear l i k ≡ []
  grow_all e =
      let o : max 1 (tier_order (height l)) ≤ k = by_t (ltb k (max 1 (tier_order (height l))))
      (λ t. absurd (clash (fits_i _ (new_entry l i k w) (ltb-true _ _ t) (rw (e, zero-mul, zero-div))) not_fits))
      (ltb-false _ _) in
      without_all (starts k (block k i)) (All-map (λ x f. eq-eqb _ _
      (zero_up {j = tier_order (height l)} {k = k} x.base (omega arith) (fits_base (height l) x f) ∙ sym e))
      (height_fits low (le_refl _)))

  pub off : (x : Entry) → fits (height l) x ≡ true → InRun i k x.base → block k i ≡ 0
  off x f q =
      by_t (leb (tier_order (height l)) k) (λ t. sym q ∙ zero_up x.base (leb-true _ _ t) (fits_base (height l) x f))
      (λ t. absurd (clash (fits_i (height l) (new_entry l i k w) (omega (arith, leb-false))
      (block_up {j = k} (block k i * 2 ^ k) x.base (omega (arith, leb-false)) (block_at k (block k i) ∙ sym q) ∙
      fits_base (height l) x f)) not_fits))

  grow_none : (block k i ≡ 0 → ⊥) → clear l i k ≡ l
  grow_none n = without_none (starts k (block k i)) (All-map (λ x f. is_false (λ t. n (off x f (eqb-true _ _ t))))
      (height_fits low (le_refl _)))

  pub grown : nonempty (clear l i k) ≡ both (nonempty l) (not (eqb (block k i) 0))
  grown =
      by_t (eqb (block k i) 0) (λ t. rw (t, grow_all (eqb-true _ _ t)) (sym (both_no (nonempty l))))
      (λ t. rw (t, grow_none (eqb-false _ _ t)) (sym (both_yes (nonempty l))))

-- THE COUNT, tier by tier: u up to the old head, between the heads, and at the new head
module _ (i k w : ℕ) (l : List Entry) (low : All Low l) where
  pub path_off : (u : ℕ) → u < tall (new_entry l i k w) → k < tier_order u → block (tier_order u) i ≡ 0 → ⊥
  path_off u h g e =
      omega (
        arith,
        fits_tall u (new_entry l i k w) (fits_i u (new_entry l i k w) (omega arith)
            (block_up {j = k} {k = tier_order u} (block k i * 2 ^ k) i (omega arith) (block_at k (block k i)) ∙ e)),
      )

  pub count_top : (u : ℕ) → Low (new_entry l i k w) → height l < u → u ≡ tall (new_entry l i k w) →
      fresh_at l i k u ≡ 0 ∷ []
  unfolding has
  count_top u new h q =
      let f : fits u (new_entry l i k w) ≡ true = tall_fits u (new_entry l i k w) new (omega arith) in
      let g : k < tier_order u = omega (arith, fits_order u (new_entry l i k w) f) in
      let e : block (tier_order u) i ≡ 0 = sym (block_up {j = k} {k = tier_order u} (block k i * 2 ^ k) i (omega arith)
      (block_at k (block k i))) ∙ fits_base u (new_entry l i k w) f in
      rw (lt-ltb k (tier_order u) g, lt-leb u (height l) h, e) (top (chained l i k u))
    where
      top : (t : Bool) → add_if t 0 (0 ∷ []) ≡ 0 ∷ []
      top true = refl
      top false = refl

  -- needed, by the count of each tier
  unfoldable pub count_to : ℕ → ℕ
  count_to zero = 0
  count_to (suc u) = length (fresh_at l i k (suc u)) + count_to u
