-- The share is the exact quotient of the counts, rounded once (R271), and rises with the part. Assumes nothing.
use Prim.Native.Nat.{ℕ, ◌*◌, ◌≤◌, ◌<◌}
use mathlib.Core.Path.{◌≡◌, refl, sym, ◌∙◌}
use mathlib.Core.Bool.{true, false}
use native.Mathlib.Omega.{arith}
use native.Mathlib.Nat.{mul_assoc, mul_comm, mul_left_comm, mul-pos, mul-one, zero-mul}
use lib.IntN.{pos}
use lib.Ieee.{Float, nan, inf, fin, Format, binary64, up, down, round, div, of_int, le}
use lib.Ieee.Exact.{HasValue}
use lib.Ieee.Back.{round_whole}
use lib.Ieee.Scale.{round_same}
use lib.Ieee.Order.{round_mono}
use lib.Ieee.Fits.{up_pos, down_pos}
use borrow.Author.Tests.{ne_eqb}
use Rattle.blocks.proofs.BoolLaws.{T_true}
use Rattle.gate.specs.Gate.{share, nought_f, one_f}
use Rattle.gate.specs.Claims.{Small}

positive : (n u b d : ℕ) → n * u * 1 ≡ b * d → 0 < b → 0 < d → n ≡ 0 → ⊥
positive n u b d h hb hd z = let p : 0 < b * d = mul-pos hb hd in let q : n * u * 1 ≡ 0 = rw (z, zero-mul) in omega arith

-- the quotient of two whole floats
div_at : (f : Format) (x y : Float) (a b : ℕ) → HasValue x false a 1 → HasValue y false b 1 → 0 < b →
    div f x y ≡ round f false a b
unfolding div
div_at f nan y a b p q h = absurd p
div_at f (inf s) y a b p q h = absurd p
div_at f (fin s m e) nan a b p q h = absurd q
div_at f (fin s m e) (inf t) a b p q h = absurd q
div_at f (fin s m e) (fin t n d) a b p q h =
    let nz : n ≡ 0 → ⊥ = positive n (up d) b (down d) q.1 h (down_pos d) in
    let np : 0 < n = omega (arith, nz) in
    let x : m * up e ≡ a * down e = sym (mul-one (m * up e)) ∙ p.1 in
    let y : n * up d ≡ b * down d = sym (mul-one (n * up d)) ∙ q.1 in
    rw (p.0, q.0, ne_eqb n 0 nz)
    (round_same f false (m * up e * down d) (n * up d * down e) a b (mul-pos (mul-pos np (up_pos d)) (down_pos e)) h
    (rw (x, y) (simp (mul_assoc, mul_comm, mul_left_comm))))

-- a 32-bit count is a float exactly
whole : (n : ℕ) → Small n → HasValue (of_int binary64 (pos n)) false n 1
unfolding of_int
whole n h = round_whole binary64 false n (omega arith)

-- one division, rounded once: the exact quotient, to the nearest float, ties to even
pub share_rounded : (p t : ℕ) → Small p → Small t → 0 < t → share p t ≡ round binary64 false p t
unfolding share
share_rounded p t hp ht h = div_at binary64 (of_int binary64 (pos p)) (of_int binary64 (pos t)) p t (whole p hp) (whole t ht) h

-- a larger quotient has no smaller share
pub share_mono : (p t p' t' : ℕ) → Small p → Small t → Small p' → Small t' → 0 < t → 0 < t' → p * t' ≤ p' * t →
    le (share p t) (share p' t') ≡ true
share_mono p t p' t' hp ht hp' ht' h h' g =
    rw (share_rounded p t hp ht h, share_rounded p' t' hp' ht' h') (T_true _ (round_mono binary64 p t p' t' h h' g))

round_one : round binary64 false 1 1 ≡ one_f
unfolding round
round_one = refl

round_nought : round binary64 false 0 1 ≡ nought_f
unfolding round
round_nought = refl

-- all of any total is 1.0
pub share_all : (t : ℕ) → Small t → 0 < t → share t t ≡ one_f
share_all t ht h =
    share_rounded t t ht ht h ∙ round_same binary64 false t t 1 1 h (omega arith) (omega arith) ∙ round_one

-- none of any total is 0.0
pub share_none : (t : ℕ) → Small t → 0 < t → share 0 t ≡ nought_f
share_none t ht h =
    share_rounded 0 t (omega arith) ht h ∙ round_same binary64 false 0 t 0 1 h (omega arith) (omega arith) ∙ round_nought
