-- One bit of a word set by adding its power, or cleared by taking it away.
use Prim.Native.Nat.{ℕ, zero, suc, ◌+◌, ◌-◌, ◌*◌, ◌/◌, ◌%◌, ◌^◌, ◌≤◌, ◌<◌}
use mathlib.Core.Path.{◌≡◌, sym, ap, ◌∙◌, subst}
use mathlib.Core.Bool.{Bool, true, false, not}
use native.Mathlib.Nat.{add-div_right, add-mul-div_left, le-div_iff_mul-le, zero-div, div-one, pow-suc}
use native.Mathlib.Omega.{arith}
use lib.Dec.{eqb, ltb}
use lib.Pow.{pow_pos, pow-add, shr-shr}
use borrow.Author.Tests.{eqb-true, eqb-false, ltb-true, ltb-false}
use Rattle.blocks.specs.Blocks.{bit, set_bit}
use Rattle.freemap.specs.FreeMap.{one_if}
use Rattle.blocks.specs.Choice.{pick}
use Rattle.blocks.proofs.BoolLaws.{by_t}

-- a word that is 0 has no bit
pub bit_zero : (w j : ℕ) → w ≡ 0 → bit j w ≡ 0
bit_zero w j z = ap (bit j) z ∙ ap (λ (x : ℕ). x % 2) (zero-div (2 ^ j))

-- a word none of whose bits is set is 0
half_bit : (w i : ℕ) → bit i (w / 2) ≡ bit (1 + i) w
half_bit w i = ap (λ (x : ℕ). x % 2) (shr-shr w 1 i)

pub bits_zero : (n w : ℕ) → w < 2 ^ n → ((i : ℕ) → i < n → bit i w ≡ 0) → w ≡ 0
bits_zero zero w h z = omega arith
bits_zero (suc n) w h z =
    let two : 2 ^ suc n ≡ 2 ^ n * 2 = pow-suc 2 n in
    let e : w / 2 ≡ 0 = bits_zero n (w / 2) (omega arith) (λ i l. half_bit w i ∙ z (1 + i) (omega arith)) in
    let b : w % 2 ≡ 0 = ap (λ (x : ℕ). x % 2) (sym (div-one w)) ∙ z 0 (omega arith) in
    omega arith

above : (w j d : ℕ) → w / 2 ^ (j + (1 + d)) ≡ w / 2 ^ j / 2 / 2 ^ d
above w j d = sym (shr-shr (w / 2 ^ j) 1 d ∙ shr-shr w j (1 + d))

up_here : (w j : ℕ) → (w + 2 ^ j) / 2 ^ j ≡ w / 2 ^ j + 1
up_here w j = add-div_right w (pow_pos j)

half_same : (x : ℕ) → x % 2 ≡ 0 → (x + 1) / 2 ≡ x / 2
half_same x h = omega arith

set_above : (w j d : ℕ) → bit j w ≡ 0 → (w + 2 ^ j) / 2 ^ (j + (1 + d)) ≡ w / 2 ^ (j + (1 + d))
set_above w j d h = above (w + 2 ^ j) j d ∙ ap (λ (x : ℕ). x / 2 / 2 ^ d) (up_here w j) ∙ ap (λ (x : ℕ). x / 2 ^ d)
    (half_same (w / 2 ^ j) h) ∙ sym (above w j d)

set_below : (w i d : ℕ) → bit i (w + 2 ^ (i + (1 + d))) ≡ bit i w
set_below w i d =
    let split : 2 ^ (i + (1 + d)) ≡ 2 ^ i * 2 ^ (1 + d) = pow-add 2 i (1 + d) in
    let two : 2 ^ (1 + d) ≡ 2 * 2 ^ d = pow-add 2 1 d in
    let sum : (w + 2 ^ (i + (1 + d))) / 2 ^ i ≡ w / 2 ^ i + 2 ^ (1 + d) = ap (λ (x : ℕ). (w + x) / 2 ^ i) split
    ∙ add-mul-div_left w (2 ^ (1 + d)) (pow_pos i) in
    omega arith

-- a bit that is clear is set by adding its power
set_on : (w j : ℕ) → bit j w ≡ 0 → bit j (w + 2 ^ j) ≡ 1
set_on w j h = omega (arith, up_here w j)

set_rest : (w j i : ℕ) → bit j w ≡ 0 → (i ≡ j → ⊥) → bit i (w + 2 ^ j) ≡ bit i w
set_rest w j i h ne =
    by_t (ltb i j)
    (λ t. let l : i < j = ltb-true _ _ t in
    let e : i + (1 + (j - i - 1)) ≡ j = omega arith in
    subst (λ (x : ℕ). bit i (w + 2 ^ x) ≡ bit i w) e (set_below w i (j - i - 1)))
    (λ t. let g : j ≤ i = ltb-false _ _ t in
    let e : j + (1 + (i - j - 1)) ≡ i = omega arith in
    ap (λ (x : ℕ). x % 2) (subst (λ (x : ℕ). (w + 2 ^ j) / 2 ^ x ≡ w / 2 ^ x) e (set_above w j (i - j - 1) h)))

-- a bit that is set is cleared by taking its power away
clear_le : (w j : ℕ) → bit j w ≡ 1 → 2 ^ j ≤ w
clear_le w j h = let one : 1 ≤ w / 2 ^ j = omega arith in omega (arith, (le-div_iff_mul-le {x = 1} (pow_pos j)).0 one)

module _ (w j : ℕ) (h : bit j w ≡ 1) where
  back : w - 2 ^ j + 2 ^ j ≡ w
  back = omega (arith, clear_le w j h)

  clear_off : bit j (w - 2 ^ j) ≡ 0
  clear_off = let e : w / 2 ^ j ≡ (w - 2 ^ j) / 2 ^ j + 1 = ap (λ (x : ℕ). x / 2 ^ j) (sym back) ∙ up_here
      (w - 2 ^ j) j in omega arith

  clear_rest : (i : ℕ) → (i ≡ j → ⊥) → bit i (w - 2 ^ j) ≡ bit i w
  clear_rest i ne = sym (set_rest (w - 2 ^ j) j i clear_off ne) ∙ ap (bit i) back

-- a bit set or cleared, whatever it was, and the other bits
module _ (w j : ℕ) where
  value : (b : Bool) (x y : ℕ) → bit j w ≡ x → y ≡ w - x * 2 ^ j + pick b (2 ^ j) 0 → set_bit j b w ≡ y
  value b x y h e = ap (λ (n : ℕ). w - n * 2 ^ j + pick b (2 ^ j) 0) h ∙ sym e

  kept : (b : Bool) → bit j w ≡ one_if b → set_bit j b w ≡ w
  kept true h = value true 1 w h (omega (arith, clear_le w j h))
  kept false h = value false 0 w h (omega arith)

  changed : (b : Bool) → bit j w ≡ one_if (not b) → set_bit j b w ≡ pick b (w + 2 ^ j) (w - 2 ^ j)
  changed true h = value true 0 (w + 2 ^ j) h (omega arith)
  changed false h = value false 1 (w - 2 ^ j) h (omega arith)

  was : (b : Bool) → (bit j w ≡ one_if b → ⊥) → bit j w ≡ one_if (not b)
  was true ne = omega arith
  was false ne = omega arith

  pub bit_put : (b : Bool) → bit j (set_bit j b w) ≡ one_if b
  bit_put b = by_t (eqb (bit j w) (one_if b))
      (λ t. let h = eqb-true (bit j w) (one_if b) t in ap (bit j) (kept b h) ∙ h)
      (λ t. let h = was b (eqb-false (bit j w) (one_if b) t) in ap (bit j) (changed b h) ∙ here b h)
    where
      here : (b : Bool) → bit j w ≡ one_if (not b) → bit j (pick b (w + 2 ^ j) (w - 2 ^ j)) ≡ one_if b
      here true h = set_on w j h
      here false h = clear_off w j h

  pub bit_rest : (b : Bool) (i : ℕ) → (i ≡ j → ⊥) → bit i (set_bit j b w) ≡ bit i w
  bit_rest b i ne = by_t (eqb (bit j w) (one_if b))
      (λ t. ap (bit i) (kept b (eqb-true (bit j w) (one_if b) t)))
      (λ t. let h = was b (eqb-false (bit j w) (one_if b) t) in ap (bit i) (changed b h) ∙ there b h)
    where
      there : (b : Bool) → bit j w ≡ one_if (not b) → bit i (pick b (w + 2 ^ j) (w - 2 ^ j)) ≡ bit i w
      there true h = set_rest w j i h ne
      there false h = clear_rest w j h i ne
