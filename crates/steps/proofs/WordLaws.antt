-- The bits of words: OR, AND and NOT, and words beside each other.
use Prim.Native.Nat.{ℕ, zero, suc, ◌+◌, ◌*◌, ◌-◌, ◌/◌, ◌%◌, ◌^◌, ◌<◌, min}
use mathlib.Core.Path.{◌≡◌, sym, ap, ◌∙◌, subst}
use mathlib.Core.Logic.{◌≢◌}
use native.Mathlib.Omega.{arith}
use native.Mathlib.Nat.{div-one, pow-suc, mod-one, zero-div, mod-eq_of_lt}
use lib.Pow.{pow_pos, shr-shr}
use lib.Dec.{eqb, lit<}
use lib.Arith.{digits_div, mod-mul}
use lib.Bits.{bit_and, and_shr, and_lt, and_mask, block_half, block_odd}
use borrow.Author.Tests.{eqb-true, eqb-false}
use Rattle.blocks.specs.Blocks.{bit}
use Rattle.blocks.proofs.BoolLaws.{by_t, decide_eqb}
use Rattle.tree.specs.Tree.{slots}
use Rattle.decode.proofs.ChainLaws.{bit_lt}
use Rattle.decode.proofs.CoverLaws.{bit_suc}
use Rattle.layout.specs.Reading.{Decides}
use Rattle.blocks.proofs.TwoWordLaws.{and_odd}

-- ONE WORD
low_step : (x k : ℕ) → x % 2 ^ suc k ≡ x / 2 % 2 ^ k * 2 + x % 2
low_step x k = ap (λ (y : ℕ). x % y) (pow-suc 2 k) ∙ mod-mul x {m = 2 ^ k} {c = 2} (pow_pos k) (lit< tt)

pub low_clear : (k x : ℕ) → x % 2 ^ k ≡ 0 → (i : ℕ) → i < k → bit i x ≡ 0
low_clear zero x e i h = absurd (omega arith)
low_clear (suc k) x e zero h = let s : x % 2 ^ suc k ≡ x / 2 % 2 ^ k * 2 + x % 2 = low_step x k in
    ap (λ (y : ℕ). y % 2) (div-one x) ∙ omega arith
low_clear (suc k) x e (suc i) h = let s : x % 2 ^ suc k ≡ x / 2 % 2 ^ k * 2 + x % 2 = low_step x k in
    bit_suc i x ∙ low_clear k (x / 2) (omega arith) i (omega arith)

pub clear_low : (k x : ℕ) → ((i : ℕ) → i < k → bit i x ≡ 0) → x % 2 ^ k ≡ 0
clear_low zero x h = mod-one x
clear_low (suc k) x h =
    let s : x % 2 ^ suc k ≡ x / 2 % 2 ^ k * 2 + x % 2 = low_step x k in
    let a : x / 2 % 2 ^ k ≡ 0 = clear_low k (x / 2) (λ i lt. sym (bit_suc i x) ∙ h (suc i) (omega arith)) in
    let b : x % 2 ≡ 0 = ap (λ (y : ℕ). y % 2) (sym (div-one x)) ∙ h 0 (omega arith) in omega arith

-- the bits of m after bit j
after : (m j i : ℕ) → j < i → bit i m ≡ bit (i - (j + 1)) (m / 2 ^ j / 2 ^ 1)
after m j i h =
    let e : j + 1 + (i - (j + 1)) ≡ i = omega arith in
    ap (λ (y : ℕ). y % 2) (ap (λ (y : ℕ). m / 2 ^ y) (sym e) ∙ sym (shr-shr m (j + 1) (i - (j + 1)))
    ∙ ap (λ (y : ℕ). y / 2 ^ (i - (j + 1))) (sym (shr-shr m j 1)))

pub rest_decides : (m j p q : ℕ) → 0 < p → q ≡ 2 ^ (p - 1) →
    Decides (eqb (m / 2 ^ j / 2 ^ 1 % q) 0) ((i : ℕ) → j < i → i < j + p → bit i m ≡ 0)
rest_decides m j p q h e =
    decide_eqb (m / 2 ^ j / 2 ^ 1 % q) 0
    (λ z i a b. after m j i a ∙ low_clear (p - 1) (m / 2 ^ j / 2 ^ 1)
    (ap (λ (y : ℕ). m / 2 ^ j / 2 ^ 1 % y) (sym e) ∙ z) (i - (j + 1)) (omega arith))
    (λ f. ap (λ (y : ℕ). m / 2 ^ j / 2 ^ 1 % y) e ∙ clear_low (p - 1) (m / 2 ^ j / 2 ^ 1)
    (λ i lt. let d : j + 1 + i - (j + 1) ≡ i = omega arith in
    ap (λ (y : ℕ). bit y (m / 2 ^ j / 2 ^ 1)) (sym d) ∙ sym (after m j (j + 1 + i) (omega arith))
    ∙ f (j + 1 + i) (omega arith) (omega arith)))

-- the remainder by a power of two
pub mask_mod : (j p r : ℕ) → p ≡ 2 ^ r → bit_and j (p - 1) ≡ j % p
mask_mod j p r e = subst (λ (y : ℕ). bit_and j (y - 1) ≡ j % y) (sym e) (and_mask j r)

and_bit : (a b j : ℕ) → bit j (bit_and a b) ≡ min (bit j a) (bit j b)
and_bit a b j = ap (λ (n : ℕ). n % 2) (and_shr a b j) ∙ and_odd (a / 2 ^ j) (b / 2 ^ j)

-- the bits of a word beside another of p bits
pub join_low : (p x r i : ℕ) → i < p → bit i (x * 2 ^ p + r) ≡ bit i r
join_low zero x r i h = absurd (omega arith)
join_low (suc p) x r zero h =
    ap (λ (y : ℕ). y % 2) (div-one (x * 2 ^ suc p + r)) ∙ block_odd x p r ∙ sym (ap (λ (y : ℕ). y % 2) (div-one r))
join_low (suc p) x r (suc i) h =
    bit_suc i (x * 2 ^ suc p + r) ∙ ap (bit i) (block_half x p r) ∙ join_low p x (r / 2) i (omega arith)
    ∙ sym (bit_suc i r)

pub join_high : (p x r i : ℕ) → r < 2 ^ p → bit (p + i) (x * 2 ^ p + r) ≡ bit i x
join_high p x r i h =
    ap (λ (y : ℕ). y % 2) (sym (shr-shr (x * 2 ^ p + r) p i) ∙ ap (λ (y : ℕ). y / 2 ^ i) (digits_div x h))

-- the bits of the other word of k bits
flip : (q x : ℕ) → x < q * 2 → (q * 2 - 1 - x) % 2 + x % 2 ≡ 1
flip q x h = omega arith

flip_half : (q x : ℕ) → x < q * 2 → (q * 2 - 1 - x) / 2 ≡ q - 1 - x / 2
flip_half q x h = omega arith

not_bit : (k x i : ℕ) → x < 2 ^ k → i < k → bit i (2 ^ k - 1 - x) + bit i x ≡ 1
not_bit zero x i h l = absurd (omega arith)
not_bit (suc k) x i h l = go i l (pow-suc 2 k) (λ j. not_bit k (x / 2) j)
  where
    go : (i : ℕ) → i < suc k → 2 ^ suc k ≡ 2 ^ k * 2 →
        ((j : ℕ) → x / 2 < 2 ^ k → j < k → bit j (2 ^ k - 1 - x / 2) + bit j (x / 2) ≡ 1) →
        bit i (2 ^ suc k - 1 - x) + bit i x ≡ 1
    go zero l e rest =
        ap (λ (y : ℕ). y / 2 ^ 0 % 2 + bit 0 x) (ap (λ (y : ℕ). y - 1 - x) e)
        ∙ ap (λ (y : ℕ). y % 2 + bit 0 x) (div-one (2 ^ k * 2 - 1 - x)) ∙ ap (λ (y : ℕ). (2 ^ k * 2 - 1 - x) % 2 + y % 2) (div-one x)
        ∙ flip (2 ^ k) x (omega arith)
    go (suc i) l e rest =
        ap (λ (y : ℕ). bit (suc i) (y - 1 - x) + bit (suc i) x) e
        ∙ ap (λ (y : ℕ). y + bit (suc i) x) (bit_suc i (2 ^ k * 2 - 1 - x) ∙ ap (bit i) (flip_half (2 ^ k) x (omega arith)))
        ∙ ap (λ (y : ℕ). bit i (2 ^ k - 1 - x / 2) + y) (bit_suc i x) ∙ rest i (omega arith) (omega arith)

-- the bits of m are among those of f
pub among_clear : (f m : ℕ) → f < 2 ^ 64 → bit_and (2 ^ 64 - 1 - f) m ≡ 0 → (j : ℕ) → j < slots → bit j f ≡ 0 → bit j m ≡ 0
among_clear f m h e j lt b =
    let a : bit j (bit_and (2 ^ 64 - 1 - f) m) ≡ min (bit j (2 ^ 64 - 1 - f)) (bit j m) = and_bit (2 ^ 64 - 1 - f) m j in
    let z : bit j (bit_and (2 ^ 64 - 1 - f) m) ≡ 0 = ap (bit j) e ∙ ap (λ (x : ℕ). x % 2) (zero-div (2 ^ j)) in
    let s : bit j (2 ^ 64 - 1 - f) + bit j f ≡ 1 = not_bit 64 f j h lt in
    let d : bit j m < 2 = bit_lt j m in omega arith

pub clear_among : (f m : ℕ) → f < 2 ^ 64 → m < 2 ^ 64 → ((j : ℕ) → j < slots → bit j f ≡ 0 → bit j m ≡ 0) →
    bit_and (2 ^ 64 - 1 - f) m ≡ 0
clear_among f m h fm g =
    sym (mod-eq_of_lt (and_lt 64 (2 ^ 64 - 1 - f) m (omega arith) fm)) ∙ clear_low 64 (bit_and (2 ^ 64 - 1 - f) m) (λ j lt.
    let a : bit j (bit_and (2 ^ 64 - 1 - f) m) ≡ min (bit j (2 ^ 64 - 1 - f)) (bit j m) = and_bit (2 ^ 64 - 1 - f) m j in
    let s : bit j (2 ^ 64 - 1 - f) + bit j f ≡ 1 = not_bit 64 f j h lt in
    by_t (eqb (bit j f) 0)
    (λ t. let z : bit j m ≡ 0 = g j lt (eqb-true (bit j f) 0 t) in omega arith)
    (λ t. let z : bit j f ≢ 0 = eqb-false (bit j f) 0 t in omega arith))
