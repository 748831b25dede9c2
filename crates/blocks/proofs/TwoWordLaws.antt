-- Two words: OR and AND bit by bit, and what ends in binary 10.
use Prim.Native.Nat.{ℕ, ◌+◌, ◌-◌, ◌/◌, ◌%◌, ◌^◌, ◌≤◌, ◌<◌, min, max}
use mathlib.Core.Path.{◌≡◌, refl, ap, ◌∙◌}
use mathlib.Core.Logic.{◌≢◌}
use native.Mathlib.Omega.{arith}
use native.Mathlib.Nat.{mod-lt}
use lib.Dec.{eqb, lit<}
use lib.Arith.{digits_mod}
use lib.Bits.{bit_and, bit_or, or_shr, or_step, and_step, or_add_and, and_le_l, and_le_r}
use borrow.Author.Tests.{eqb-true, eqb-false}
use Rattle.blocks.specs.Blocks.{bit}
use Rattle.blocks.proofs.BoolLaws.{by_t}

pub or_none : (a b : ℕ) → bit_or a b ≡ 0 → (a ≡ 0) × (b ≡ 0)
or_none a b e =
    let s : bit_or a b + bit_and a b ≡ a + b = or_add_and a b in
    let l : bit_and a b ≤ a = and_le_l a b in
    let r : bit_and a b ≤ b = and_le_r a b in (omega arith, omega arith)

pub none_or : (a b : ℕ) → a ≡ 0 → b ≡ 0 → bit_or a b ≡ 0
none_or a b x y = let s : bit_or a b + bit_and a b ≡ a + b = or_add_and a b in omega arith

digit : (x : ℕ) → x % 2 < 2
digit x = mod-lt x (lit< tt)

max_two : (x y : ℕ) → x < 2 → y < 2 → max x y < 2
max_two x y h g = omega arith

min_two : (x y : ℕ) → x < 2 → y < 2 → min x y < 2
min_two x y h g = omega arith

pub or_odd : (a b : ℕ) → bit_or a b % 2 ≡ max (a % 2) (b % 2)
or_odd a b = ap (λ (n : ℕ). n % 2) (or_step a b)
    ∙ digits_mod (bit_or (a / 2) (b / 2)) (max_two (a % 2) (b % 2) (digit a) (digit b))

pub and_odd : (a b : ℕ) → bit_and a b % 2 ≡ min (a % 2) (b % 2)
and_odd a b = ap (λ (n : ℕ). n % 2) (and_step a b)
    ∙ digits_mod (bit_and (a / 2) (b / 2)) (min_two (a % 2) (b % 2) (digit a) (digit b))

pub or_bit : (a b j : ℕ) → bit j (bit_or a b) ≡ max (bit j a) (bit j b)
or_bit a b j = ap (λ (n : ℕ). n % 2) (or_shr a b j) ∙ or_odd (a / 2 ^ j) (b / 2 ^ j)

-- the lowest bit of (w >> 1) & !w is 1 exactly if w ends in binary 10
pub not_inner : (w : ℕ) → w < 2 ^ 64 → bit_and (w / 2 ^ 1) (2 ^ 64 - 1 - w) % 2 ≡ 0 → w % 4 ≢ 2
not_inner w f e z =
    let d : bit_and (w / 2 ^ 1) (2 ^ 64 - 1 - w) % 2 ≡ min (w / 2 ^ 1 % 2) ((2 ^ 64 - 1 - w) % 2) =
    and_odd (w / 2 ^ 1) (2 ^ 64 - 1 - w) in
    let h : w / 2 ^ 1 % 2 ≡ 1 = ap (λ (x : ℕ). w / x % 2) two ∙ second w z in
    let g : (2 ^ 64 - 1 - w) % 2 ≡ 1 = omega arith in omega arith
  where
    two : 2 ^ 1 ≡ 2
    two = refl

    second : (x : ℕ) → x % 4 ≡ 2 → x / 2 % 2 ≡ 1
    second x h = omega arith

pub inner_not : (w : ℕ) → w < 2 ^ 64 → w % 4 ≢ 2 → bit_and (w / 2 ^ 1) (2 ^ 64 - 1 - w) % 2 ≡ 0
inner_not w f z =
    let d : bit_and (w / 2 ^ 1) (2 ^ 64 - 1 - w) % 2 ≡ min (w / 2 ^ 1 % 2) ((2 ^ 64 - 1 - w) % 2) =
    and_odd (w / 2 ^ 1) (2 ^ 64 - 1 - w) in
    by_t (eqb (w % 2) 0)
    (λ t. let h : w / 2 ^ 1 % 2 ≡ 0 = first w z (eqb-true (w % 2) 0 t) in omega arith)
    (λ t. let q : w % 2 ≢ 0 = eqb-false (w % 2) 0 t in
    let g : (2 ^ 64 - 1 - w) % 2 ≡ 0 = omega arith in omega arith)
  where
    first : (x : ℕ) → x % 4 ≢ 2 → x % 2 ≡ 0 → x / 2 % 2 ≡ 0
    first x h e = omega arith

-- a union is even exactly if both are
pub or_even : (a b : ℕ) → bit_or a b % 2 ≡ 0 → (a % 2 ≡ 0) × (b % 2 ≡ 0)
or_even a b z = (omega (arith, or_odd a b), omega (arith, or_odd a b))
