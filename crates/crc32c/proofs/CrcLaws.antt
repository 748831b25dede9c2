-- The register's steps are linear in the register and the bytes, so the steps of many bytes are the sum of the steps of each, which
-- a table can hold; and a digest goes on from a digest. Assumes nothing.
use mathlib.Core.Path.{◌≡◌, refl, sym, ap, ap₂, ◌∙◌}
use mathlib.Core.List.{List, [], ◌∷◌, ◌++◌}
use Prim.Native.Nat.{ℕ, zero, suc, ◌+◌, ◌*◌, ◌/◌, ◌%◌, ◌^◌, ◌<◌}
use native.Mathlib.Nat.{mul-one, zero-add, suc-add}
use native.Mathlib.Omega.{arith}
use lib.Bits.{bit_xor, differ, xor_self, xor_zero_r, shifted_half, shifted_even}
use Rattle.crc32c.specs.Crc.{polynomial, bit_step, bit_steps, byte_step, register, complement, crc32c, fed, joined}
use Rattle.crc32c.proofs.XorLaws.{digit, xor_half, xor_odd, xor_swap, xor_twice}

-- ---- linear

times_linear : (x y : ℕ) → x < 2 → y < 2 → differ x y * polynomial ≡ bit_xor (x * polynomial) (y * polynomial)
times_linear zero y h g = refl
times_linear (suc zero) zero h g = sym (xor_zero_r polynomial)
times_linear (suc zero) (suc zero) h g = sym (xor_self polynomial)
times_linear (suc zero) (suc (suc y)) h g = absurd (omega arith)
times_linear (suc (suc x)) y h g = absurd (omega arith)

bit_linear : (a b : ℕ) → bit_step (bit_xor a b) ≡ bit_xor (bit_step a) (bit_step b)
unfolding bit_step
bit_linear a b =
    ap₂ (λ (x y : ℕ). bit_xor x (y * polynomial)) (xor_half a b) (xor_odd a b)
    ∙ ap (bit_xor (bit_xor (a / 2) (b / 2))) (times_linear (a % 2) (b % 2) (digit a) (digit b))
    ∙ xor_swap (a / 2) (b / 2) (a % 2 * polynomial) (b % 2 * polynomial)

pub steps_linear : (n a b : ℕ) → bit_steps n (bit_xor a b) ≡ bit_xor (bit_steps n a) (bit_steps n b)
unfolding bit_steps
steps_linear zero a b = refl
steps_linear (suc n) a b = ap (bit_steps n) (bit_linear a b) ∙ steps_linear n (bit_step a) (bit_step b)

-- bits that are zero do nothing but leave
pub steps_high : (n h : ℕ) → bit_steps n (h * 2 ^ n) ≡ h
unfolding bit_step bit_steps
steps_high zero h = mul-one h
steps_high (suc n) h =
    ap (bit_steps n)
    (ap₂ (λ (x y : ℕ). bit_xor x (y * polynomial)) (shifted_half h n) (shifted_even h n) ∙ xor_zero_r (h * 2 ^ n))
    ∙ steps_high n h

pub steps_more : (m n c : ℕ) → bit_steps (m + n) c ≡ bit_steps n (bit_steps m c)
unfolding bit_steps
steps_more zero n c = ap (λ (k : ℕ). bit_steps k c) (zero-add n)
steps_more (suc m) n c = ap (λ (k : ℕ). bit_steps k c) (suc-add m n) ∙ steps_more m n (bit_step c)

pub steps_none : (c : ℕ) → bit_steps 0 c ≡ c
unfolding bit_steps
steps_none c = refl

-- ---- pieces

pub register_append : (c : ℕ) (xs ys : List ℕ) → register c (xs ++ ys) ≡ register (register c xs) ys
register_append c [] ys = refl
register_append c (x ∷ xs) ys = register_append (byte_step c x) xs ys

-- R163: what a digest goes on from is the digest of what went before
pub pieces_two : (crc : ℕ) (xs ys : List ℕ) → crc32c (crc32c crc xs) ys ≡ crc32c crc (xs ++ ys)
unfolding crc32c
pieces_two crc xs ys =
    ap (λ (c : ℕ). complement (register c ys)) (xor_twice (register (complement crc) xs) 0xFFFFFFFF)
    ∙ ap complement (sym (register_append (complement crc) xs ys))

crc_empty : (crc : ℕ) → crc32c crc [] ≡ crc
unfolding crc32c
crc_empty crc = xor_twice crc 0xFFFFFFFF

-- R163: pieces, cut anywhere and any number of them
pub pieces : (crc : ℕ) (ps : List (List ℕ)) → fed crc ps ≡ crc32c crc (joined ps)
pieces crc [] = sym (crc_empty crc)
pieces crc (p ∷ ps) = pieces (crc32c crc p) ps ∙ pieces_two crc p (joined ps)
