-- Words made of bits: each bit read back, and a change of one bit.
use Prim.Native.Nat.{ℕ, zero, suc, ◌+◌, ◌*◌, ◌-◌, ◌/◌, ◌^◌, ◌<◌, ◌%◌}
use mathlib.Core.Path.{◌≡◌, refl, sym, ap, ◌∙◌}
use mathlib.Core.Bool.{Bool, true, false}
use native.Mathlib.Omega.{arith}
use native.Mathlib.Nat.{le_refl, div-eq_of_lt, add-mul-div_right, pow-suc, add-zero, add-mul-mod_self_right, zero-div}
use lib.Dec.{eqb}
use borrow.Author.Tests.{eqb-true, eqb-false}
use Rattle.blocks.specs.Choice.{pick}
use Rattle.blocks.specs.Blocks.{bit, bits_to}
use Rattle.blocks.proofs.BoolLaws.{by_t, is_false}
use Rattle.blocks.proofs.BlockLaws.{pow_pos, pow-add}

pub bits_lt : (f : ℕ → Bool) (n : ℕ) → bits_to f n < 2 ^ n
bits_lt f zero = le_refl 1
bits_lt f (suc n) = by_t (f n) (λ t. rw (t, pow-suc) (omega (arith, bits_lt f n)))
    (λ t. rw (t, pow-suc) (omega (arith, bits_lt f n)))

-- a higher bit more does not change bit j
bit_high : (j n b : ℕ) → j < n → bit j (b + 2 ^ n) ≡ bit j b
bit_high j n b h =
    let d : n ≡ suc (n - suc j) + j = omega arith in
    let e : 2 ^ n ≡ 2 ^ (n - suc j) * 2 * 2 ^ j = ap (λ (m : ℕ). 2 ^ m) d ∙ sym (pow-add (suc (n - suc j)) j) ∙ ap
    (λ (m : ℕ). m * 2 ^ j) (pow-suc 2 (n - suc j)) in
    rw (e, add-mul-div_right b (2 ^ (n - suc j) * 2) (pow_pos j), add-mul-mod_self_right)

pub bits_read : (f : ℕ → Bool) (n j : ℕ) → j < n → bit j (bits_to f n) ≡ pick (f j) 1 0
bits_read f zero j h = absurd (omega arith)
bits_read f (suc n) j h =
    by_t (eqb j n)
    (λ e. rw (eqb-true j n e) (by_t (f n) (λ t. rw t (top t)) (λ t. rw (t, add-zero, div-eq_of_lt (bits_lt f n)))))
    (λ e. let ne : j ≡ n → ⊥ = eqb-false _ _ e in
    by_t (f n) (λ t. rw (t, bit_high j n (bits_to f n) (omega arith)) (bits_read f n j (omega arith)))
    (λ t. rw (t, add-zero) (bits_read f n j (omega arith))))
  where
    top : f n ≡ true → bit n (bits_to f n + 2 ^ n) ≡ 1
    top t =
        let e : (bits_to f n + 2 ^ n) / 2 ^ n ≡ 1 = ap (λ (m : ℕ). (bits_to f n + m) / 2 ^ n) (omega arith) ∙
        add-mul-div_right (bits_to f n) 1 (pow_pos n) ∙ ap (λ (m : ℕ). m + 1) (div-eq_of_lt (bits_lt f n)) in
        rw e

pub bits_same : (f g : ℕ → Bool) (n : ℕ) → ((j : ℕ) → j < n → f j ≡ g j) → bits_to f n ≡ bits_to g n
bits_same f g zero h = refl
bits_same f g (suc n) h = rw (bits_same f g n (λ j lt. h j (omega arith)), h n (le_refl _))

-- a change of one bit
pub bits_change : (f g : ℕ → Bool) (i n : ℕ) → i < n → ((j : ℕ) → j < n → (j ≡ i → ⊥) → f j ≡ g j) →
    bits_to g n + pick (f i) (2 ^ i) 0 ≡ bits_to f n + pick (g i) (2 ^ i) 0
bits_change f g i zero h s = absurd (omega arith)
bits_change f g i (suc n) h s =
    by_t (eqb i n)
    (λ e. let q : i ≡ n = eqb-true _ _ e in rw (q, bits_same f g n (λ j lt. s j (omega arith) (omega arith)))
    (omega arith))
    (λ e. let ne : i ≡ n → ⊥ = eqb-false _ _ e in
    rw (s n (le_refl _) (omega arith)) (omega (arith, bits_change f g i n (omega arith) (λ j lt. s j (omega arith)))))

-- no bit is set exactly if the word is 0
pub bits_none : (f : ℕ → Bool) (n : ℕ) → ((j : ℕ) → j < n → f j ≡ false) → bits_to f n ≡ 0
bits_none f zero h = refl
bits_none f (suc n) h = rw (h n (omega arith), add-zero) (bits_none f n (λ j lt. h j (omega arith)))

pub bits_zero : (f : ℕ → Bool) (n : ℕ) → bits_to f n ≡ 0 → (j : ℕ) → j < n → f j ≡ false
bits_zero f n z j h =
    is_false (λ t. let e : 1 ≡ bit j (bits_to f n) = sym (bits_read f n j h ∙ rw t) in
    let d : bit j (bits_to f n) ≡ 0 = ap (bit j) z ∙ ap (λ (y : ℕ). y % 2) (zero-div (2 ^ j)) in omega arith)
