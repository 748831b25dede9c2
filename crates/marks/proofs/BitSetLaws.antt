-- One bit of a word set or cleared, and the words whose bits are the marks.
use Prim.Native.Nat.{ℕ, ◌+◌, ◌*◌, ◌-◌, ◌/◌, ◌^◌, ◌≤◌, ◌<◌}
use mathlib.Core.Path.{◌≡◌, refl, sym, ◌∙◌}
use mathlib.Core.Bool.{Bool, true, false}
use native.Mathlib.Omega.{arith}
use native.Mathlib.Nat.{div-eq_of_lt}
use lib.Dec.{ltb, eqb}
use borrow.Author.Tests.{eqb-true, eqb-false, ltb-true, ltb-false, eq-eqb, ne_eqb}
use Rattle.blocks.specs.Choice.{pick}
use Rattle.blocks.specs.Blocks.{bit, bits_to, set_bit}
use Rattle.blocks.proofs.BoolLaws.{by_t}
use Rattle.blocks.proofs.BlockLaws.{pow_pos}
use Rattle.blocks.proofs.BitLaws.{bits_read, bits_change}

pub bit_kept : (j w : ℕ) (b : Bool) → set_bit j b w ≡ w → bit j w ≡ pick b 1 0
bit_kept j w true h = by_t (eqb (bit j w) 1) (λ t. eqb-true _ _ t)
    (λ t. let ne : bit j w ≡ 1 → ⊥ = eqb-false _ _ t in let z : bit j w ≡ 0 = omega arith in
    let h' : w - 0 * 2 ^ j + 2 ^ j ≡ w = rw z at h in absurd (omega (arith, pow_pos j)))
bit_kept j w false h = by_t (eqb (bit j w) 0) (λ t. eqb-true _ _ t)
    (λ t. let ne : bit j w ≡ 0 → ⊥ = eqb-false _ _ t in let z : bit j w ≡ 1 = omega arith in
    let h' : w - 1 * 2 ^ j + 0 ≡ w = rw z at h in let le : 2 ^ j ≤ w =
    (by_t (ltb w (2 ^ j)) (λ t. let z : w / 2 ^ j ≡ 0 = div-eq_of_lt (ltb-true _ _ t) in absurd (omega arith))
    (λ t. ltb-false _ _ t)) in absurd (omega (arith, pow_pos j)))

pub set_at : (j w : ℕ) (t b : Bool) → bit j w ≡ pick t 1 0 → set_bit j b w ≡ w - pick t (2 ^ j) 0 + pick b (2 ^ j) 0
set_at j w true b h = rw h (omega arith)
set_at j w false b h = rw h (omega arith)

pub set_bits : (f g : ℕ → Bool) (o n : ℕ) → o < n → ((j : ℕ) → j < n → (j ≡ o → ⊥) → f j ≡ g j) →
    set_bit o (g o) (bits_to f n) ≡ bits_to g n
set_bits f g o n h s =
    let r : bit o (bits_to f n) ≡ pick (f o) 1 0 = bits_read f n o h in
    let c : bits_to g n + pick (f o) (2 ^ o) 0 ≡ bits_to f n + pick (g o) (2 ^ o) 0 = bits_change f g o n h s in
    by_t (f o)
    (λ t. let r₁ : bit o (bits_to f n) ≡ 1 = r ∙ rw t in
    let c₁ : bits_to g n + 2 ^ o ≡ bits_to f n + pick (g o) (2 ^ o) 0 = rw t at c in
    let le : 2 ^ o ≤ bits_to f n = big t in
    rw r₁ (omega arith))
    (λ t. let r₁ : bit o (bits_to f n) ≡ 0 = r ∙ rw t in
    let c₁ : bits_to g n + 0 ≡ bits_to f n + pick (g o) (2 ^ o) 0 = rw t at c in
    rw r₁ (omega arith))
  where
    big : f o ≡ true → 2 ^ o ≤ bits_to f n
    big t =
        let d : bits_to (λ j. pick (eqb j o) false (f j)) n + 2 ^ o ≡ bits_to f n =
        (let e : bits_to (λ j. pick (eqb j o) false (f j)) n + pick (f o) (2 ^ o) 0 ≡ bits_to f n + pick
        (pick (eqb o o) false (f o)) (2 ^ o) 0 =
        bits_change f (λ j. pick (eqb j o) false (f j)) o n h (λ j lt ne. sym (rw (ne_eqb j o ne))) in
        let e₁ : bits_to (λ j. pick (eqb j o) false (f j)) n + 2 ^ o ≡ bits_to f n + 0 = rw (t, eq-eqb o o refl) at
        e in
        omega arith) in
        omega arith
