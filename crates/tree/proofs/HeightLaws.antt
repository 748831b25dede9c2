-- The tier of the head, before and after a store.
use Prim.Native.Nat.{ℕ, ◌*◌, ◌^◌, ◌≤◌, ◌<◌, max}
use mathlib.Core.Path.{◌≡◌, refl, sym, ◌∙◌}
use mathlib.Core.Bool.{Bool, true}
use mathlib.Core.List.{List, [], ◌∷◌}
use native.Mathlib.Omega.{arith}
use native.Mathlib.Nat.{zero-div, div-eq_of_lt, lt_of_le_of_lt, le_refl}
use lib.Dec.{ltb}
use borrow.Author.Tests.{eqb-true, ltb-true, lt-ltb, eq-eqb}
use Rattle.blocks.specs.Lists.{without, All, end, also}
use Rattle.blocks.specs.Blocks.{block}
use Rattle.blocks.proofs.BoolLaws.{by_t, both_l, both_r}
use Rattle.blocks.proofs.ListLaws.{All-map}
use Rattle.blocks.proofs.BlockLaws.{block_up, block_at, block_lo}
use Rattle.blocks.proofs.LeastLaws.{least_fits, least_min, least_most}
use Rattle.model.specs.declared.Entry.{Entry}
use Rattle.model.specs.Model.{insert, starts, max_order}
use Rattle.model.specs.ByBlock.{new_entry, store_new}
use Rattle.model.proofs.RangeLaws.{Room, InRun, starts_order}
use Rattle.tree.specs.Tree.{fits, tall, height, tier_order, top_tier}

pub fits_i : (h : ℕ) (x : Entry) → x.order < max 1 (tier_order h) → block (tier_order h) x.base ≡ 0 →
    fits h x ≡ true
fits_i h x o e = rw (lt-ltb _ _ o, eq-eqb _ _ e)

pub fits_order : (h : ℕ) (x : Entry) → fits h x ≡ true → x.order < max 1 (tier_order h)
fits_order h x t = ltb-true _ _ (both_l (ltb x.order (max 1 (tier_order h))) _ t)

pub fits_base : (h : ℕ) (x : Entry) → fits h x ≡ true → block (tier_order h) x.base ≡ 0
fits_base h x t = eqb-true _ _ (both_r (ltb x.order (max 1 (tier_order h))) _ t)

-- a block of a higher order is 0 too
pub zero_up : {j k : ℕ} (x : ℕ) → j ≤ k → block j x ≡ 0 → block k x ≡ 0
zero_up {j} {k} x h e = block_up x 0 h (e ∙ sym (zero-div (2 ^ j))) ∙ zero-div (2 ^ k)

pub fits_up : {h g : ℕ} (x : Entry) → h ≤ g → fits h x ≡ true → fits g x ≡ true
fits_up {h} {g} x le t = fits_i g x (omega (arith, fits_order h x t))
    (zero_up x.base (omega arith) (fits_base h x t))

-- what an entry has that fits under the widest head
abbrev pub Low : Entry → Type 0
Low x = (x.order ≤ max_order) × (x.base < 2 ^ 64)

pub fits_most : (x : Entry) → Low x → fits top_tier x ≡ true
fits_most x ok = fits_i top_tier x (omega arith) (div-eq_of_lt (omega arith))

pub tall_fits : (h : ℕ) (x : Entry) → Low x → tall x ≤ h → fits h x ≡ true
unfolding tall
tall_fits h x ok le = fits_up x le (least_fits (λ h. fits h x) top_tier 0 (fits_most x ok))

pub fits_tall : (h : ℕ) (x : Entry) → fits h x ≡ true → tall x ≤ h
unfolding tall
fits_tall h x t = least_min (λ h. fits h x) top_tier 0 h (omega arith) t

-- the least head under which all fit, and the widest there is
pub height_le : {h : ℕ} {l : List Entry} → All (λ x. fits h x ≡ true) l → height l ≤ h
height_le end = omega arith
height_le {h} (also {x} f a) = omega (arith, fits_tall h x f, height_le a)

pub height_most : (l : List Entry) → height l ≤ top_tier
unfolding tall
height_most [] = omega arith
height_most (x ∷ l) = omega (arith, least_most (λ h. fits h x) top_tier 0, height_most l)

pub height_fits : {h : ℕ} {l : List Entry} → All Low l → height l ≤ h → All (λ x. fits h x ≡ true) l
height_fits end le = end
height_fits {h} (also {x} ok a) le = also (tall_fits h x ok (omega arith)) (height_fits a (omega arith))

height_insert : (e : Entry) (l : List Entry) → height (insert e l) ≡ max (tall e) (height l)
height_insert e [] = refl
height_insert e (x ∷ l) = by_t (ltb e.base x.base) (λ t. rw t) (λ t. rw (t, height_insert e l) (omega arith))

height_without : (q : Entry → Bool) (t : ℕ) {l : List Entry} → All (λ x. q x ≡ true → tall x ≤ t) l →
    max t (height (without q l)) ≡ max t (height l)
height_without q t end = refl
height_without q t (also {x} h a) =
    by_t (q x) (λ e. rw (e, height_without q t a) (omega (arith, h e)))
    (λ e. rw e (omega (arith, height_without q t a)))

module _ (i k w : ℕ) (l : List Entry) (i< : i < 2 ^ 64) (k≤ : k ≤ max_order) (room : All (Room i k) l) where
  -- what starts in the run fits where the run fits
  run_fits : (h : ℕ) (x : Entry) → x.order ≤ k → InRun i k x.base → fits h (new_entry l i k w) ≡ true →
      fits h x ≡ true
  run_fits h x o e t =
      let n : k < max 1 (tier_order h) = fits_order h (new_entry l i k w) t in
      fits_i h x (omega arith) (block_up x.base (block k i * 2 ^ k) (omega arith)
      (e ∙ sym (block_at k (block k i))) ∙ fits_base h (new_entry l i k w) t)

  pub new_low : Low (new_entry l i k w)
  new_low = (k≤, lt_of_le_of_lt (block_lo k i) i<)

  pub height_store : height (store_new l i k w) ≡ max (tall (new_entry l i k w)) (height l)
  height_store =
      rw height_insert (height_without (starts k (block k i)) (tall (new_entry l i k w))
      (All-map (λ x r t. fits_tall _ x (run_fits _ x (starts_order i k x r (eqb-true _ _ t)) (eqb-true _ _ t)
      (tall_fits _ _ new_low (le_refl _)))) room))
