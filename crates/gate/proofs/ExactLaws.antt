-- A gate never fails a share that is exactly at its limit or beyond, as a fraction: rounding the quotient once crosses no float. Assumes
-- nothing.
use Rattle.std.specs.Prelude.{Result, Ok, Err}
use Rattle.answers.specs.declared.Answer.{Answer}
use Prim.Native.Nat.{ℕ, zero, suc, ◌+◌, ◌-◌, ◌*◌, ◌%◌, ◌^◌, ◌≤◌, ◌<◌}
use mathlib.Core.Path.{◌≡◌, refl, sym, subst}
use mathlib.Core.Bool.{Bool, true, false, ◌&&◌}
use native.Mathlib.Omega.{arith}
use native.Mathlib.Nat.{mul-one, zero-mul, mul_comm, mul_assoc, mul-lt-mul_of_pos_right, lt_of_lt_of_le, le_refl}
use lib.Dec.{T, leb, ltb, eqb, ltb→lt, leb→le}
use lib.Pow.{pow-add, pow_pos, pow_mono, pow-lt}
use lib.IntN.{ℤ, pos, negsuc}
use lib.Ieee.{Float, fin, binary64, up, down, round, fits, le}
use lib.Ieee.Exact.{HasValue, round_exact}
use lib.Ieee.Order.{round_mono, le_of_values}
use lib.Ieee.Fits.{down_pos, and_l, and_r}
use borrow.Author.Tests.{ltb-true, ltb-false}
use Rattle.blocks.proofs.BoolLaws.{T_true, by_t}
use Rattle.gate.specs.Gate.{MatchedAtLeast, UnreadAtMost, MatchedBetween, Pass, share, bad_limit, judge}
use Rattle.gate.specs.Claims.{Small, AtLeast, AtMost}
use Rattle.gate.proofs.ShareLaws.{share_rounded, share_none}
use Rattle.gate.proofs.LimitLaws.{
  Plain,
  plain,
  has_plain,
  cross_le,
  share_plain,
  Limit,
  minus_nought,
  number,
  good,
  limit_up,
  limit_down,
  limit_low,
  low_nought,
  product_nought,
}
use Rattle.gate.proofs.GateLaws.{pass_if, halves_between}

-- powers of two that move
up_fine : (q k L M : ℕ) → q * 2 ^ k < 2 ^ M * 1 → q * 2 ^ (k + L) < 2 ^ (L + M)
up_fine q k L M h =
    rw (pow-add 2 k L, pow-add 2 L M, ← mul_assoc q (2 ^ k) (2 ^ L), mul_comm (2 ^ L) (2 ^ M))
    (mul-lt-mul_of_pos_right (subst (λ (x : ℕ). q * 2 ^ k < x) (mul-one (2 ^ M)) h) (pow_pos L))

up_value : (q k L : ℕ) → q * 2 ^ k * 2 ^ L ≡ q * 2 ^ (k + L) * 1
up_value q k L = rw (pow-add 2 k L, mul-one) (mul_assoc q (2 ^ k) (2 ^ L))

down_fine : (q j P L M : ℕ) → q < 2 ^ P → P + j ≤ L + M → q * 2 ^ j < 2 ^ (L + M)
down_fine q j P L M h g =
    lt_of_lt_of_le (subst (λ (x : ℕ). q * 2 ^ j < x) (sym (pow-add 2 P j)) (mul-lt-mul_of_pos_right h (pow_pos j))) (pow_mono g)

down_value : (q j k L : ℕ) → j + k ≡ L → q * 1 * 2 ^ L ≡ q * 2 ^ j * 2 ^ k
down_value q j k L e = rw (mul-one, ← e, pow-add 2 j k) (sym (mul_assoc q (2 ^ j) (2 ^ k)))

exponent : (i j : ℕ) → 2 ^ i ≤ 2 ^ j → i ≤ j
exponent i j h = by_t (ltb j i) (λ t. let p : 2 ^ j < 2 ^ i = pow-lt (ltb-true _ _ t) in absurd (omega arith)) (λ t. ltb-false _ _ t)

-- a float of the format is its own rounding
own : (m : ℕ) (e : ℤ) → T (fits binary64 (fin false (suc m) e)) →
    HasValue (round binary64 false (suc m * up e) (down e)) false (suc m * up e) (down e)
unfolding fits
own m (pos k) h =
    let A : Bool = eqb (suc m % 2) 1 in
    let B : Bool = ltb (suc m) (2 ^ 53) in
    let C : Bool = leb 1 (2 ^ 1074) in
    let D : Bool = ltb (suc m * 2 ^ k) (2 ^ 1024 * 1) in
    round_exact binary64 false (suc m * 2 ^ k) 1 (suc m) (k + 1074) (omega arith)
    (ltb→lt (suc m) (2 ^ 53) (and_r A B (and_l (A && B) C (and_l (A && B && C) D h))))
    (up_fine (suc m) k 1074 1024 (ltb→lt (suc m * 2 ^ k) (2 ^ 1024 * 1) (and_r (A && B && C) D h)))
    (up_value (suc m) k 1074)
own m (negsuc k) h =
    let A : Bool = eqb (suc m % 2) 1 in
    let B : Bool = ltb (suc m) (2 ^ 53) in
    let C : Bool = leb (2 ^ suc k) (2 ^ 1074) in
    let D : Bool = ltb (suc m * 1) (2 ^ 1024 * 2 ^ suc k) in
    let small : suc m < 2 ^ 53 = ltb→lt (suc m) (2 ^ 53) (and_r A B (and_l (A && B) C (and_l (A && B && C) D h))) in
    let deep : suc k ≤ 1074 = exponent (suc k) 1074 (leb→le (2 ^ suc k) (2 ^ 1074) (and_r (A && B) C (and_l (A && B && C) D h))) in
    round_exact binary64 false (suc m * 1) (2 ^ suc k) (suc m) (1074 - suc k) (pow_pos (suc k)) small
    (down_fine (suc m) (1074 - suc k) 53 1074 1024 small (omega arith))
    (down_value (suc m) (1074 - suc k) (suc k) 1074 (omega arith))

module _ (p t : ℕ) (ht : Small t) (h : p ≤ t) (t+ : 0 < t) where
  hp : Small p
  hp = omega arith

  -- a share that is exactly at least a float
  least_at : (m : ℕ) (e : ℤ) → T (fits binary64 (fin false m e)) → m * up e * t ≤ p * down e →
      le (fin false m e) (share p t) ≡ true
  least_at zero e f g = go (share p t) (share_plain p t ht h t+)
    where
      go : (x : Float) → Plain x → le (fin false 0 e) x ≡ true
      go x (plain n d) = cross_le 0 n e d (let z : 0 * up e * down d ≡ 0 = rw (zero-mul, zero-mul) in omega arith)
  least_at (suc m) e f g =
      let r : Float = round binary64 false (suc m * up e) (down e) in
      let v = own m e f in
      let below-r : le (fin false (suc m) e) (round binary64 false (suc m * up e) (down e)) ≡ true = T_true _
      (le_of_values (fin false (suc m) e) (round binary64 false (suc m * up e) (down e)) (suc m * up e) (down e) (suc m * up e) (down e)
      (down_pos e) (down_pos e) (refl, refl) v (le_refl _)) in
      let over-r : le (round binary64 false (suc m * up e) (down e)) (share p t) ≡ true =
      rw (share_rounded p t hp ht t+) (T_true _ (round_mono binary64 (suc m * up e) (down e) p t (down_pos e) t+ g)) in
      limit_up (fin false (suc m) e) (round binary64 false (suc m * up e) (down e)) (share p t) (number (suc m) e)
      (has_plain (round binary64 false (suc m * up e) (down e)) (suc m * up e) (down e) v) (share_plain p t ht h t+) below-r over-r

  -- and one that is exactly at most a float
  most_at : (m : ℕ) (e : ℤ) → T (fits binary64 (fin false (suc m) e)) → p * down e ≤ suc m * up e * t →
      le (share p t) (fin false (suc m) e) ≡ true
  most_at m e f g =
      let v = own m e f in
      let above-r : le (round binary64 false (suc m * up e) (down e)) (fin false (suc m) e) ≡ true = T_true _
      (le_of_values (round binary64 false (suc m * up e) (down e)) (fin false (suc m) e) (suc m * up e) (down e) (suc m * up e) (down e)
      (down_pos e) (down_pos e) v (refl, refl) (le_refl _)) in
      let under-r : le (share p t) (round binary64 false (suc m * up e) (down e)) ≡ true =
      rw (share_rounded p t hp ht t+) (T_true _ (round_mono binary64 p t (suc m * up e) (down e) t+ (down_pos e) g)) in
      limit_down (fin false (suc m) e) (round binary64 false (suc m * up e) (down e)) (share p t) (number (suc m) e)
      (has_plain (round binary64 false (suc m * up e) (down e)) (suc m * up e) (down e) v) (share_plain p t ht h t+) above-r under-r

  -- -0.0 and 0.0 are at most every share
  minus_least : (e : ℤ) → le (fin true 0 e) (share p t) ≡ true
  minus_least e = go (share p t) (share_plain p t ht h t+)
    where
      go : (x : Float) → Plain x → le (fin true 0 e) x ≡ true
      go x (plain n d) = low_nought e d n

  -- a share that is exactly at most either is 0
  none_at : (b : Float) → bad_limit b ≡ false → p ≡ 0 → le (share p t) b ≡ true
  none_at b g z = subst (λ (q : ℕ). le (share q t) b ≡ true) (sym z) (rw (share_none t ht t+) (limit_low b g))

  no_part : (e : ℤ) (n : ℕ) → n ≡ 0 → p * down e ≤ n → p ≡ 0
  no_part e n z g = product_nought p (down e) (down_pos e) (omega arith)

  reaches : (a : Float) → Limit a → T (fits binary64 a) → AtLeast a p t → le a (share p t) ≡ true
  reaches a (minus_nought e) f g = minus_least e
  reaches a (number m e) f g = least_at m e f g

  within : (b : Float) → bad_limit b ≡ false → Limit b → T (fits binary64 b) → AtMost b p t → le (share p t) b ≡ true
  within b n (minus_nought e) f g = none_at (fin true 0 e) n (no_part e (0 * up e * t) (rw (zero-mul, zero-mul)) g)
  within b n (number zero e) f g = none_at (fin false 0 e) n (no_part e (0 * up e * t) (rw (zero-mul, zero-mul)) g)
  within b n (number (suc m) e) f g = most_at m e f g

  pub at_least_exact : (a : Float) → T (fits binary64 a) → bad_limit a ≡ false → AtLeast a p t → judge (MatchedAtLeast a) p t ≡ Ok Pass
  at_least_exact a f n g = pass_if (MatchedAtLeast a) p t (record {
    limits = n;
    some = λ z. omega arith;
    part = h;
    meets = reaches a (good a n) f g;
  })

  pub at_most_exact : (b : Float) → T (fits binary64 b) → bad_limit b ≡ false → AtMost b p t → judge (UnreadAtMost b) p t ≡ Ok Pass
  at_most_exact b f n g = pass_if (UnreadAtMost b) p t (record {
    limits = n;
    some = λ z. omega arith;
    part = h;
    meets = within b n (good b n) f g;
  })

  pub between_exact : (a b : Float) → T (fits binary64 a) → T (fits binary64 b) → bad_limit a ≡ false → bad_limit b ≡ false →
      AtLeast a p t → AtMost b p t → judge (MatchedBetween a b) p t ≡ Ok Pass
  between_exact a b fa fb na nb ga gb =
      halves_between a b p t ht (at_least_exact a fa na ga) (at_most_exact b fb nb gb)
