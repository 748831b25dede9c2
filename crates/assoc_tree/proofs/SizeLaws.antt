-- Keys in blocks: how many, and the way down through skipped nodes.
use Prim.Native.Nat.{ℕ, zero, suc, ◌≤◌, ◌<◌}
use mathlib.Core.Path.{◌≡◌, refl, sym, ap, ap₂, ◌∙◌}
use mathlib.Core.Bool.{Bool, true, false}
use mathlib.Core.List.{List, [], ◌∷◌}
use mathlib.Core.Option.{some}
use native.Mathlib.Omega.{arith}
use native.Mathlib.Nat.{le_refl}
use lib.Dec.{ltb, eqb}
use lib.ListN.{length}
use borrow.Author.Tests.{eqb-true, ltb-true, ltb-false, eq-eqb}
use Rattle.blocks.specs.Choice.{pick}
use Rattle.blocks.specs.Lists.{keep, first, In, here, there}
use Rattle.blocks.proofs.BoolLaws.{clash, by_t, iff, both_l, both_r}
use Rattle.blocks.proofs.BlockLaws.{block_up, block_at}
use Rattle.assoc_tree.specs.Keys.{Item}
use Rattle.assoc_tree.specs.Parts.{tier_bits, block_of, over, size, size_over, full, skipped, low_from, branch, is_deep, is_upper, part_at, has, Part, part, top, same, is_part}

-- LISTS: who passes the narrower of two tests
module _ {A : Type 0} (p q : A → Bool) where
  pub keep_le : (l : List A) → ((x : A) → q x ≡ true → p x ≡ true) → length (keep q l) ≤ length (keep p l)
  keep_le [] f = le_refl _
  keep_le (x ∷ l) f =
      by_t (q x) (λ e. rw (e, f x e) (let h : length (keep q l) ≤ length (keep p l) = keep_le l f in omega arith))
      (λ e. by_t (p x) (λ d. rw (e, d) (let h : length (keep q l) ≤ length (keep p l) = keep_le l f in omega arith))
      (λ d. rw (e, d) (keep_le l f)))

  -- as many pass the one as the other: the same do
  pub keep_all : (l : List A) → ((x : A) → q x ≡ true → p x ≡ true) → length (keep q l) ≡ length (keep p l) →
      {x : A} → In x l → p x ≡ true → q x ≡ true
  keep_all [] f e x6 t = elim x6 [ ]
  keep_all (x ∷ l) f e here t = by_t (q x) (λ d. d)
      (λ d. let h : length (keep q l) ≤ length (keep p l) = keep_le l f in
      let e' : length (keep q l) ≡ suc (length (keep p l)) = (rw (d, t) at e) in absurd (omega arith))
  keep_all (x ∷ l) f e (there m) t = keep_all l f (less (q x) (p x) (f x) e) m t
    where
      less : (a b : Bool) → (a ≡ true → b ≡ true) →
          length (pick a (x ∷ keep q l) (keep q l)) ≡ length (pick b (x ∷ keep p l) (keep p l)) →
          length (keep q l) ≡ length (keep p l)
      less true true g d = omega arith
      less true false g d = absurd (clash (g refl) refl)
      less false true g d =
          let h : length (keep q l) ≤ length (keep p l) = keep_le l f in
          let d' : length (keep q l) ≡ suc (length (keep p l)) = d in absurd (omega arith)
      less false false g d = d

pub first_found : {A : Type 0} (p : A → Bool) {l : List A} {x : A} → In x l → p x ≡ true →
    (y : A) × (first p l ≡ some y) × In y l × (p y ≡ true)
first_found p {x} here t = (x, rw t, here, t)
first_found p (there {y = z} m) t =
    by_t (p z) (λ e. (z, rw e, here, e))
    (λ e. let (y, f, i, s) = first_found p m t in (y, rw e f, there i, s))

-- BLOCKS
pub up : {v w : ℕ} (x y : ℕ) → v ≤ w → block_of v x ≡ block_of v y → block_of w x ≡ block_of w y
up {v} {w} x y h e = block_up {j = tier_bits v} {k = tier_bits w} x y (omega arith) e

-- a key is in its own block
pub in_own : (v : ℕ) (x : Item) → over v (block_of v x.key) x ≡ true
in_own v x = eq-eqb (block_of v x.key) _ refl

module _ (l : List Item) where
  pub size_step : (v x : ℕ) → size_over l v x ≤ size_over l (suc v) x
  unfolding size
  size_step v x = keep_le (over (suc v) (block_of (suc v) x)) (over v (block_of v x)) l
      (λ y e. eq-eqb _ _ (up {v = v} {w = suc v} y.key x (omega arith) (eqb-true _ _ e)))

  -- all keys in the block of tier v + 1 are in that of tier v
  pub skip_inside : (v x : ℕ) → skipped l (suc v) x ≡ true → {y : Item} → In y l →
      block_of (suc v) y.key ≡ block_of (suc v) x → block_of v y.key ≡ block_of v x
  unfolding skipped size
  skip_inside v x t m e = eqb-true _ _ (keep_all (over (suc v) (block_of (suc v) x)) (over v (block_of v x)) l
      (λ y d. eq-eqb _ _ (up {v = v} {w = suc v} y.key x (omega arith) (eqb-true _ _ d)))
      (eqb-true _ _ (both_r (ltb full (size_over l (suc v) x)) _ t)) m (eq-eqb _ _ e))

  skipped_to : (v : ℕ) (x : ℕ) {y : Item} → In y l → block_of v x ≡ block_of v y.key → skipped l v x ≡ true →
      skipped l v y.key ≡ true
  unfolding skipped
  skipped_to zero x m e t = t
  skipped_to (suc v) x {y} m e t = rw (← e, skip_inside v x t m (sym e)) t

  pub skipped_same : (v : ℕ) {x y : Item} → In x l → In y l → block_of v x.key ≡ block_of v y.key →
      skipped l v x.key ≡ skipped l v y.key
  skipped_same v {x} {y} m k e = iff _ _ (skipped_to v x.key k e) (skipped_to v y.key m (sym e))

  -- THE WAY DOWN through skipped nodes
  pub low_le : (x v : ℕ) → low_from l x v ≤ v
  unfolding low_from
  low_le x zero = le_refl _
  low_le x (suc v) = by_t (skipped l (suc v) x) (λ e. rw e (omega (arith, low_le x v))) (λ e. rw e (le_refl _))

  pub low_ends : (x v : ℕ) → skipped l (low_from l x v) x ≡ false
  unfolding low_from skipped
  low_ends x zero = refl
  low_ends x (suc v) = by_t (skipped l (suc v) x) (λ e. rw e (low_ends x v)) (λ e. rw e e)

  pub low_same : (v : ℕ) {x y : Item} → In x l → In y l → block_of v x.key ≡ block_of v y.key →
      (low_from l x.key v ≡ low_from l y.key v) ×
      (block_of (low_from l x.key v) x.key ≡ block_of (low_from l x.key v) y.key)
  unfolding low_from
  low_same zero m k e = (refl, e)
  low_same (suc v) {x} {y} m k e =
      by_t (skipped l (suc v) x.key)
      (λ t. rw (t, sym (skipped_same (suc v) m k e) ∙ t)
      (low_same v m k (sym (skip_inside v x.key t k (sym e)))))
      (λ t. rw (t, sym (skipped_same (suc v) m k e) ∙ t) (refl, e))

  pub branch_same : (v : ℕ) {x y : Item} → In x l → In y l → block_of v x.key ≡ block_of v y.key →
      branch l v x.key ≡ branch l v y.key
  branch_same v {x} {y} m k e =
      let (a, b) = low_same v m k e in
      rw (← a, b)

  -- a run: the block below has all of its keys, more than 16
  pub low_size : (x v : ℕ) → low_from l x v < v →
      (size_over l (low_from l x v) x ≡ size_over l v x) × (full < size_over l v x)
  unfolding low_from skipped
  low_size x zero h = absurd (omega arith)
  low_size x (suc v) h =
      by_t (skipped l (suc v) x)
      (λ t. rw t (let a : full < size_over l (suc v) x = ltb-true _ _ (both_l _ _ t) in
      let b : size_over l v x ≡ size_over l (suc v) x = eqb-true _ _ (both_r (ltb full (size_over l (suc v) x)) _ t) in
      by_t (ltb (low_from l x v) v) (λ d. let (p, q) = low_size x v (ltb-true _ _ d) in (p ∙ b, a))
      (λ d. let g : v ≤ low_from l x v = ltb-false _ _ d in
      let z : low_from l x v ≡ v = omega (arith, low_le x v) in (ap (λ (u : ℕ). size_over l u x) z ∙ b, a))))
      (λ t. let h' : suc v < suc v = (rw t at h) in absurd (omega arith))

  -- A PART STANDS WHERE ITS UPPER END IS
  deep_same : (v x y : ℕ) → block_of v x ≡ block_of v y → is_deep l v x ≡ is_deep l v y
  deep_same v x y e = rw (e, up {v = v} {w = suc v} x y (omega arith) e)

  pub upper_same : (v : ℕ) {x y : Item} → In x l → In y l → block_of v x.key ≡ block_of v y.key →
      is_upper l v x.key ≡ is_upper l v y.key
  unfolding is_upper
  upper_same zero m k e = refl
  upper_same (suc v) {x} {y} m k e =
      rw (
        deep_same (suc v) x.key y.key e,
        skipped_same (suc v) m k e,
        skipped_same (suc (suc v)) m k (up {v = suc v} {w = suc (suc v)} x.key y.key (omega arith) e),
      )

  pub top_branch : (v x : ℕ) → top (branch l v x) ≡ v
  top_branch v x = omega (arith, low_le x v)

  pub over_branch : (v w x : ℕ) → low_from l x v ≤ w → block_of w (branch l v x).base ≡ block_of w x
  over_branch v w x h = up {v = low_from l x v} {w = w} _ x h (block_at (tier_bits (low_from l x v)) _)

  pub same_refl : (p : Part) → same p p ≡ true
  same_refl p = rw (eq-eqb p.tier _ refl, eq-eqb p.skip _ refl, eq-eqb p.base _ refl)

  part_at_lem : (v : ℕ) {x : Item} → In x l → is_upper l v x.key ≡ true →
      part_at l v (block_of v x.key) ≡ some (branch l v x.key)
  part_at_lem v {x} m t =
      let (y, f, k, s) = first_found (over v (block_of v x.key)) m (in_own v x) in
      let e : block_of v y.key ≡ block_of v x.key = eqb-true _ _ s in
      rw (f, upper_same v k m e, t) (ap some (branch_same v k m e))

  pub has_branch : (v : ℕ) {x : Item} → In x l → is_upper l v x.key ≡ true → has l (branch l v x.key) ≡ true
  unfolding has
  has_branch v {x} m t =
      let p : Part = branch l v x.key in
      ap₂ (λ (w c : ℕ). is_part p (part_at l w c)) (top_branch v x.key)
      (ap (λ (w : ℕ). block_of w p.base) (top_branch v x.key) ∙ over_branch v v x.key (low_le x.key v)) ∙
      ap (is_part p) (part_at_lem v m t) ∙ same_refl p

pub same_is : (p q : Part) → same p q ≡ true → p ≡ q
same_is p q t =
    let a : p.tier ≡ q.tier = eqb-true _ _ (both_l _ _ t) in
    let b : p.skip ≡ q.skip = eqb-true _ _ (both_l _ _ (both_r (eqb p.tier q.tier) _ t)) in
    let c : p.base ≡ q.base = eqb-true _ _ (both_r (eqb p.skip q.skip) _ (both_r (eqb p.tier q.tier) _ t)) in
    ap₂ (λ (u : ℕ) (r : ℕ × ℕ). part u r.0 r.1) a (ap₂ (λ (x y : ℕ). (x, y)) b c)
