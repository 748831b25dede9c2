-- Runs of nodes with one filled slot, their ends, and blocks with few keys.
use Prim.Native.Nat.{ℕ, zero, suc, ◌+◌, ◌*◌, ◌-◌, ◌^◌, ◌≤◌, ◌<◌}
use mathlib.Core.Path.{◌≡◌, refl, sym, ap, ◌∙◌}
use mathlib.Core.Bool.{Bool, true, false}
use mathlib.Core.List.{List, [], ◌∷◌}
use mathlib.Core.Logic.{◌⊎◌, inl, inr}
use native.Mathlib.Omega.{arith}
use native.Mathlib.Nat.{sub_self, le_refl}
use lib.Dec.{leb, ltb, eqb}
use lib.ListN.{length}
use borrow.Author.Tests.{eqb-true, eqb-false, ltb-true, leb-true, eq-eqb, ne_eqb, lt-ltb, le-ltb, le-leb}
use Rattle.blocks.specs.Choice.{both}
use Rattle.blocks.specs.Lists.{keep, In, here, there}
use Rattle.blocks.proofs.BoolLaws.{clash, by_t, both_l, both_r, both_no}
use Rattle.assoc_tree.specs.Keys.{Item}
use Rattle.assoc_tree.specs.Parts.{part, tier_bits, block_of, over, size, size_over, skipped, low_from, branch, is_deep, is_upper, full, top_tier}
use Rattle.assoc_tree.proofs.SizeLaws.{up, size_step}

-- two tests that exclude each other, within a third
keep_two : {A : Type 0} (p q r : A → Bool) (l : List A) → ((x : A) → p x ≡ true → q x ≡ true → ⊥) →
    ((x : A) → p x ≡ true → r x ≡ true) → ((x : A) → q x ≡ true → r x ≡ true) →
    length (keep p l) + length (keep q l) ≤ length (keep r l)
keep_two p q r [] n f g = le_refl _
keep_two p q r (x ∷ l) n f g =
    let h : length (keep p l) + length (keep q l) ≤ length (keep r l) = keep_two p q r l n f g in
    by_t (p x) (λ a. by_t (q x) (λ b. absurd (n x a b)) (λ b. rw (a, b, f x a) (omega arith)))
    (λ a. by_t (q x) (λ b. rw (a, b, g x b) (omega arith)) (λ b. by_t (r x) (λ c. rw (a, b, c) (omega arith)) (λ c. rw (a, b, c) h)))

module _ (l : List Item) where
  -- two blocks of tier v in one of tier v + 1
  pub two_in : (v x y : ℕ) → (block_of v x ≡ block_of v y → ⊥) → block_of (suc v) x ≡ block_of (suc v) y →
      size_over l v x + size_over l v y ≤ size_over l (suc v) y
  unfolding size
  two_in v x y n q = keep_two (over v (block_of v x)) (over v (block_of v y)) (over (suc v) (block_of (suc v) y)) l
      (λ z a b. n (sym (eqb-true _ _ a) ∙ eqb-true _ _ b))
      (λ z a. eq-eqb _ _ (up {v = v} {w = suc v} z.key x (omega arith) (eqb-true _ _ a) ∙ q))
      (λ z a. eq-eqb _ _ (up {v = v} {w = suc v} z.key y (omega arith) (eqb-true _ _ a)))

  pub size_mono : (v u x : ℕ) → v ≤ u → size_over l v x ≤ size_over l u x
  size_mono v zero x h = let z : v ≡ 0 = omega arith in rw z (le_refl _)
  size_mono v (suc u) x h =
      by_t (eqb v (suc u)) (λ c. rw (eqb-true v (suc u) c) (le_refl _))
      (λ c. let n : v ≡ suc u → ⊥ = eqb-false _ _ c in
      let r : size_over l v x ≤ size_over l u x = size_mono v u x (omega arith) in omega (arith, size_step l u x))

-- LISTS
pub keep_some : {A : Type 0} (p : A → Bool) (l : List A) → 1 ≤ length (keep p l) → (y : A) × In y l × (p y ≡ true)
keep_some p [] h = absurd (omega arith)
keep_some p (x ∷ l) h = by_t (p x) (λ t. (x, here, t)) (λ t. let (y, i, u) = keep_some p l (rw t at h) in (y, there i, u))

-- a deep block of a tier below the root
pub deep_two : (l : List Item) (v x : ℕ) → is_upper l v x ≡ true → 1 ≤ v → v < top_tier → (2 ≤ size_over l v x) × (full < size_over l (suc v) x)
unfolding is_upper
deep_two l zero x t h g = absurd (omega arith)
deep_two l (suc v) x t h g =
    let d : both (leb 2 (size_over l (suc v) x)) (ltb full (size_over l (suc (suc v)) x)) ≡ true =
    (rw (ne_eqb (suc v) top_tier (omega arith)) at (both_l (is_deep l (suc v) x) _ t)) in
    (leb-true _ _ (both_l (leb 2 (size_over l (suc v) x)) _ d), ltb-true _ _ (both_r (leb 2 (size_over l (suc v) x)) _ d))

pub few_open : (l : List Item) (v x : ℕ) → size_over l v x ≤ full → skipped l v x ≡ false
unfolding skipped
few_open l zero x h = refl
few_open l (suc v) x h = rw (le-ltb full (size_over l (suc v) x) h)

pub few_low : (l : List Item) (v x : ℕ) → size_over l v x ≤ full → low_from l x v ≡ v
unfolding low_from
few_low l zero x h = refl
few_low l (suc v) x h = rw (few_open l (suc v) x h)

pub nd_of : (l : List Item) (v x : ℕ) → low_from l x v ≡ v → branch l v x ≡ part v 0 (block_of v x * 2 ^ tier_bits v)
nd_of l v x e =
    ap (λ (u : ℕ). part u (v - u) (block_of u x * 2 ^ tier_bits u)) e ∙
    ap (λ (r : ℕ). part v r (block_of v x * 2 ^ tier_bits v)) (sub_self v)

pub few_upper : (l : List Item) (v x : ℕ) → 1 ≤ v → v < top_tier → 2 ≤ size_over l v x → size_over l v x ≤ full →
    full < size_over l (suc v) x → is_upper l v x ≡ true
unfolding is_upper
few_upper l zero x p g a b c = absurd (omega arith)
few_upper l (suc v) x p g a b c =
    rw (
      ne_eqb (suc v) top_tier (omega arith),
      le-leb 2 (size_over l (suc v) x) a,
      lt-ltb full (size_over l (suc (suc v)) x) c,
      few_open l (suc v) x b,
    )

-- RUNS
-- between its ends a run is skipped
pub run_skipped : (l : List Item) (x v u : ℕ) → low_from l x v < u → u ≤ v → skipped l u x ≡ true
unfolding low_from
run_skipped l x zero u h g = absurd (omega arith)
run_skipped l x (suc v) u h g =
    by_t (skipped l (suc v) x)
    (λ t. by_t (eqb u (suc v)) (λ c. ap (λ (j : ℕ). skipped l j x) (eqb-true u (suc v) c) ∙ t)
    (λ c. let n : u ≡ suc v → ⊥ = eqb-false _ _ c in run_skipped l x v u (rw t at h) (omega arith)))
    (λ t. let h' : suc v < u = (rw t at h) in absurd (omega arith))

-- the way down ends where the first tier is not skipped
pub low_stops : (l : List Item) (x v u : ℕ) → u ≤ v → skipped l u x ≡ false → ((j : ℕ) → u < j → j ≤ v → skipped l j x ≡ true) → low_from l x v ≡ u
unfolding low_from
low_stops l x zero u h c f = omega arith
low_stops l x (suc v) u h c f =
    by_t (eqb u (suc v)) (λ d. let q : u ≡ suc v = eqb-true _ _ d in rw (ap (λ (j : ℕ). skipped l j x) (sym q) ∙ c) (sym q))
    (λ d. let n : u ≡ suc v → ⊥ = eqb-false _ _ d in
    rw (f (suc v) (omega arith) (le_refl _)) (low_stops l x v u (omega arith) c (λ j a b. f j a (omega arith))))

-- no upper end inside a run
pub inside_run : (l : List Item) (v x : ℕ) → 1 ≤ v → (v ≡ top_tier → ⊥) → skipped l v x ≡ true → skipped l (suc v) x ≡ true →
    is_upper l v x ≡ true → ⊥
unfolding is_upper
inside_run l zero x p n a b t = omega arith
inside_run l (suc v) x p n a b t =
    clash t (rw (a, b, ne_eqb (suc v) top_tier n) (both_no (both (leb 2 (size_over l (suc v) x)) (ltb full (size_over l (suc (suc v)) x)))))

-- an upper end in a run is its top
pub upper_top : (l : List Item) (v x : ℕ) → 1 ≤ v → is_upper l v x ≡ true → skipped l v x ≡ true → (v ≡ top_tier) ⊎ (skipped l (suc v) x ≡ false)
upper_top l v x p t a =
    by_t (eqb v top_tier) (λ c. inl (eqb-true _ _ c))
    (λ c. by_t (skipped l (suc v) x) (λ d. absurd (inside_run l v x p (eqb-false _ _ c) a d t)) (λ d. inr d))

pub in_size : (l : List Item) (v x : ℕ) → 1 ≤ size_over l v x → (y : Item) × In y l × (block_of v y.key ≡ block_of v x)
unfolding size
in_size l v x h = let (y, i, t) = keep_some (over v (block_of v x)) l h in (y, i, eqb-true _ _ t)

pub open_upper : (l : List Item) (v x : ℕ) → 1 ≤ v → is_deep l v x ≡ true → skipped l v x ≡ false → is_upper l v x ≡ true
unfolding is_upper
open_upper l zero x p d t = refl
open_upper l (suc v) x p d t = rw (d, t)
