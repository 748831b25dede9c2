-- How many numbers have a property: bounds, none, all, and a change in a run of them.
use Prim.Native.Nat.{ℕ, zero, suc, ◌+◌, ◌-◌, ◌≤◌, ◌<◌}
use mathlib.Core.Path.{◌≡◌, refl, sym, ap, ◌∙◌}
use mathlib.Core.Bool.{Bool, true, false}
use native.Mathlib.Omega.{arith}
use native.Mathlib.Nat.{le_refl, add-zero}
use lib.Dec.{eqb}
use borrow.Author.Tests.{eqb-true, eqb-false}
use Rattle.blocks.specs.Choice.{pick}
use Rattle.blocks.specs.Blocks.{count_to}
use Rattle.blocks.proofs.BoolLaws.{by_t, is_false}

pub count_le : (f : ℕ → Bool) (n : ℕ) → count_to f n ≤ n
count_le f zero = le_refl 0
count_le f (suc n) = by_t (f n) (λ t. rw t (omega (arith, count_le f n))) (λ t. rw t (omega (arith, count_le f n)))

pub count_same : (f g : ℕ → Bool) (n : ℕ) → ((j : ℕ) → j < n → f j ≡ g j) → count_to f n ≡ count_to g n
count_same f g zero h = refl
count_same f g (suc n) h = rw (count_same f g n (λ j lt. h j (omega arith)), h n (le_refl _))

pub count_none : (f : ℕ → Bool) (n : ℕ) → ((j : ℕ) → j < n → f j ≡ false) → count_to f n ≡ 0
count_none f zero h = refl
count_none f (suc n) h = rw (h n (le_refl _), add-zero) (count_none f n (λ j lt. h j (omega arith)))

pub count_all : (f : ℕ → Bool) (n : ℕ) → ((j : ℕ) → j < n → f j ≡ true) → count_to f n ≡ n
count_all f zero h = refl
count_all f (suc n) h = rw (h n (le_refl _)) (omega (arith, count_all f n (λ j lt. h j (omega arith))))

-- a change of one
pub count_change : (f g : ℕ → Bool) (i n : ℕ) → i < n → ((j : ℕ) → j < n → (j ≡ i → ⊥) → f j ≡ g j) →
    count_to g n + pick (f i) 1 0 ≡ count_to f n + pick (g i) 1 0
count_change f g i zero h s = absurd (omega arith)
count_change f g i (suc n) h s =
    by_t (eqb i n)
    (λ e. let q : i ≡ n = eqb-true _ _ e in rw (q, count_same f g n (λ j lt. s j (omega arith) (omega arith)))
    (omega arith))
    (λ e. let ne : i ≡ n → ⊥ = eqb-false _ _ e in
    rw (s n (le_refl _) (omega arith)) (omega (arith, count_change f g i n (omega arith) (λ j lt. s j (omega arith)))))

-- the first of them and the rest
pub count_split : (f : ℕ → Bool) (a c : ℕ) → count_to f (a + c) ≡ count_to f a + count_to (λ j. f (a + j)) c
count_split f a zero = let e : a + 0 ≡ a = omega arith in rw e (omega arith)
count_split f a (suc c) =
    let e : a + suc c ≡ suc (a + c) = omega arith in rw e (omega (arith, count_split f a c))

-- a change in the run of c numbers from a on
pub count_run : (f g : ℕ → Bool) (a c n : ℕ) → a + c ≤ n → ((j : ℕ) → j < n → (a ≤ j → j < a + c → ⊥) → f j ≡ g j) →
    count_to g n + count_to (λ j. f (a + j)) c ≡ count_to f n + count_to (λ j. g (a + j)) c
count_run f g a c n h s =
    let e : n ≡ a + c + (n - (a + c)) = omega arith in
    let p : count_to f n ≡ count_to f a + count_to (λ j. f (a + j)) c + count_to (λ j. f (a + c + j)) (n - (a + c)) =
    ap (count_to f) e ∙ count_split f (a + c) (n - (a + c))
    ∙ ap (λ (x : ℕ). x + count_to (λ j. f (a + c + j)) (n - (a + c))) (count_split f a c) in
    let q : count_to g n ≡ count_to g a + count_to (λ j. g (a + j)) c + count_to (λ j. g (a + c + j)) (n - (a + c)) =
    ap (count_to g) e ∙ count_split g (a + c) (n - (a + c))
    ∙ ap (λ (x : ℕ). x + count_to (λ j. g (a + c + j)) (n - (a + c))) (count_split g a c) in
    let lo : count_to f a ≡ count_to g a = count_same f g a (λ j lt. s j (omega arith) (λ x y. omega arith)) in
    let hi : count_to (λ j. f (a + c + j)) (n - (a + c)) ≡ count_to (λ j. g (a + c + j)) (n - (a + c)) =
    count_same (λ j. f (a + c + j)) (λ j. g (a + c + j)) (n - (a + c))
    (λ j lt. s (a + c + j) (omega arith) (λ x y. omega arith)) in
    omega (arith, p, q, lo, hi)

-- 0 exactly if there is none; 1 exactly if there is no other
pub count_zero : (f : ℕ → Bool) (n : ℕ) → count_to f n ≡ 0 → (j : ℕ) → j < n → f j ≡ false
count_zero f zero z j h = absurd (omega arith)
count_zero f (suc n) z j h =
    by_t (eqb j n)
    (λ e. rw (eqb-true j n e) (is_false (λ t. let y : count_to f n + 1 ≡ 0 = rw t at z in omega arith)))
    (λ e. let ne : j ≡ n → ⊥ = eqb-false _ _ e in count_zero f n (omega arith) j (omega arith))

pub count_only : (f : ℕ → Bool) (i n : ℕ) → i < n → f i ≡ true → count_to f n ≡ 1 →
    (j : ℕ) → j < n → (j ≡ i → ⊥) → f j ≡ false
count_only f i zero h t z j g ne = absurd (omega arith)
count_only f i (suc n) h t z j g ne =
    by_t (eqb i n)
    (λ e. let q : i ≡ n = eqb-true _ _ e in
    let y : f n ≡ true = rw (← q) t in
    let x : count_to f n + 1 ≡ 1 = rw y at z in
    count_zero f n (omega arith) j (omega arith))
    (λ e. let q : i ≡ n → ⊥ = eqb-false _ _ e in
    by_t (f n)
    (λ y. let x : count_to f n + 1 ≡ 1 = rw y at z in
    absurd (let w : f i ≡ false = count_zero f n (omega arith) i (omega arith) in
    let v : ◌≡◌ {A = Bool} true false = sym t ∙ w in no_clash v))
    (λ y. let x : count_to f n + 0 ≡ 1 = rw y at z in
    by_t (eqb j n) (λ d. rw (eqb-true j n d) y)
    (λ d. let r : j ≡ n → ⊥ = eqb-false _ _ d in count_only f i n (omega arith) t (omega arith) j (omega arith) ne)))
  where
    no_clash : ◌≡◌ {A = Bool} true false → ⊥
    no_clash v = let k : ◌≡◌ {A = ℕ} 1 0 = ap (λ (b : Bool). pick b 1 0) v in omega arith
