-- Limits and shares in their order: those that no gate refuses are -0.0 or not negative, and a share is from 0 to 1. Assumes nothing.
use Prim.Native.Nat.{ℕ, zero, suc, ◌+◌, ◌*◌, ◌≤◌, ◌<◌}
use mathlib.Core.Path.{◌≡◌, refl, sym, subst}
use mathlib.Core.Bool.{Bool, true, false, ◌&&◌, ◌||◌}
use native.Mathlib.Omega.{arith}
use native.Mathlib.Nat.{mul-pos, zero-mul, mul-le-mul_right}
use lib.Dec.{T, ltb, eqb}
use lib.IntN.{ℤ, pos}
use lib.Ieee.{Float, nan, inf, fin, binary64, up, down, round, is_nan, le, lt}
use lib.Ieee.Exact.{HasValue}
use lib.Ieee.Scale.{finite, round_under, round_val, grid}
use lib.Ieee.Positive.{through}
use lib.Ieee.Fits.{up_pos, down_pos}
use borrow.Author.Tests.{ltb-true, ltb-false, eqb-true, eq-eqb, le-ltb, lt-ltb}
use Rattle.blocks.specs.Choice.{either}
use Rattle.blocks.proofs.BoolLaws.{clash, by_t}
use Rattle.gate.specs.Gate.{share, nought_f, one_f, bad_limit}
use Rattle.gate.specs.Claims.{Small}
use Rattle.gate.proofs.ShareLaws.{share_rounded, share_mono, share_all, share_none}

-- ---- the order

or_le : (a b : ℕ) → (ltb a b || (eqb a b && true)) ≡ true → a ≤ b
or_le a b t =
    by_t (ltb a b) (λ l. omega (arith, ltb-true a b l))
    (λ l. by_t (eqb a b) (λ e. omega (arith, eqb-true a b e)) (λ e. absurd (clash t (rw (l, e)))))

le_or : (a b : ℕ) → a ≤ b → (ltb a b || (eqb a b && true)) ≡ true
le_or a b h = by_t (ltb a b) (λ l. rw l) (λ l. rw (l, eq-eqb a b (omega (arith, ltb-false a b l))))

le_cross : (m n : ℕ) (e d : ℤ) → le (fin false m e) (fin false n d) ≡ true → m * up e * down d ≤ n * up d * down e
unfolding le
le_cross m n e d t = or_le _ _ t

pub cross_le : (m n : ℕ) (e d : ℤ) → m * up e * down d ≤ n * up d * down e → le (fin false m e) (fin false n d) ≡ true
unfolding le
cross_le m n e d h = le_or _ _ h

le_trans₊ : (m n k : ℕ) (e d c : ℤ) → le (fin false m e) (fin false n d) ≡ true → le (fin false n d) (fin false k c) ≡ true →
    le (fin false m e) (fin false k c) ≡ true
le_trans₊ m n k e d c a b =
    cross_le m k e c (through (m * up e) (n * up d) (k * up c) (down e) (down d) (down c) (down_pos d) (le_cross m n e d a)
    (le_cross n k d c b))

-- a float that is finite and not negative
pub data Plain : Float → Type 0 where
  plain : (m : ℕ) (e : ℤ) → Plain (fin false m e)

pub has_plain : (x : Float) (a c : ℕ) → HasValue x false a c → Plain x
has_plain nan a c h = absurd h
has_plain (inf s) a c h = absurd h
has_plain (fin s m e) a c h = subst (λ (t : Bool). Plain (fin t m e)) (sym h.0) (plain m e)

between_finite : (x : Float) → le nought_f x ≡ true → le x one_f ≡ true → T (finite x)
unfolding le
between_finite nan a b = absurd (clash b refl)
between_finite (inf true) a b = absurd (clash a refl)
between_finite (inf false) a b = absurd (clash b refl)
between_finite (fin s m e) a b = tt

-- a share is from 0 to 1
module _ (p t : ℕ) (ht : Small t) (h : p ≤ t) (t+ : 0 < t) where
  hp : Small p
  hp = omega arith

  pub share_low : le nought_f (share p t) ≡ true
  share_low = subst (λ (x : Float). le x (share p t) ≡ true) (share_none t ht t+)
      (share_mono 0 t p t (omega arith) ht hp ht t+ t+ (omega arith))

  pub share_high : le (share p t) one_f ≡ true
  share_high = subst (λ (x : Float). le (share p t) x ≡ true) (share_all t ht t+)
      (share_mono p t t t hp ht ht ht t+ t+ (mul-le-mul_right t h))

  pub share_plain : Plain (share p t)
  share_plain =
      let e = share_rounded p t hp ht t+ in
      let f : T (finite (round binary64 false p t)) = subst (λ (x : Float). T (finite x)) e
      (between_finite (share p t) share_low share_high) in
      subst Plain (sym e) (has_plain (round binary64 false p t) (grid binary64 p t) _ (round_val binary64 p t (round_under binary64 p t f)))

-- ---- limits

-- a limit that no gate refuses is -0.0, or finite and not negative
pub data Limit : Float → Type 0 where
  minus_nought : (e : ℤ) → Limit (fin true 0 e)
  number : (m : ℕ) (e : ℤ) → Limit (fin false m e)

pub good : (x : Float) → bad_limit x ≡ false → Limit x
unfolding is_nan lt
good nan b = absurd (clash refl b)
good (inf true) b = absurd (clash refl b)
good (inf false) b = absurd (clash refl b)
good (fin false m e) b = number m e
good (fin true zero e) b = minus_nought e
good (fin true (suc m) e) b =
    let s : 0 < suc m = omega arith in
    let u : 0 < suc m * up e = mul-pos s (up_pos e) in
    let p : 0 < suc m * up e * 1 + 0 * 1 * down e = omega arith in
    absurd (clash {b = either (ltb 0 (suc m * up e * 1 + 0 * 1 * down e)) (lt one_f (fin true (suc m) e))}
    (rw (lt-ltb 0 (suc m * up e * 1 + 0 * 1 * down e) p)) b)

pub nan_bad : bad_limit nan ≡ true
unfolding is_nan
nan_bad = refl

pub low_nought : (e d : ℤ) (n : ℕ) → le (fin true 0 e) (fin false n d) ≡ true
unfolding le
low_nought e d n =
    let z : 0 * up e * down d ≡ 0 = rw (zero-mul, zero-mul) in
    rw z (by_t (ltb 0 (0 + n * up d * down e)) (λ t. rw t)
    (λ t. let q : n * up d * down e ≡ 0 = omega (arith, ltb-false 0 (0 + n * up d * down e) t) in rw q))

-- a limit at most a share is at most each larger share
pub limit_up : (a x y : Float) → Limit a → Plain x → Plain y → le a x ≡ true → le x y ≡ true → le a y ≡ true
limit_up a x y (minus_nought e) (plain m d) (plain n c) h g = low_nought e c n
limit_up a x y (number k e) (plain m d) (plain n c) h g = le_trans₊ k m n e d c h g

-- only 0 is at most -0.0
under_nought : (e d : ℤ) (n : ℕ) → le (fin false n d) (fin true 0 e) ≡ true → n * up d * down e ≡ 0
unfolding le
under_nought e d n t =
    let z : 0 * up e * down d ≡ 0 = rw (zero-mul, zero-mul) in
    let w : (eqb (n * up d * down e) 0 && eqb (n * up d * down e) 0) ≡ true = rw z at t in
    by_t (eqb (n * up d * down e) 0) (λ q. eqb-true _ _ q) (λ q. absurd (clash w (rw q)))

nought_under : (e d : ℤ) (n : ℕ) → n * up d * down e ≡ 0 → le (fin false n d) (fin true 0 e) ≡ true
unfolding le
nought_under e d n q = let z : 0 * up e * down d ≡ 0 = rw (zero-mul, zero-mul) in rw (q, z)

pub product_nought : (a b : ℕ) → 0 < b → a * b ≡ 0 → a ≡ 0
product_nought zero b h e = refl
product_nought (suc a) b h e = let s : 0 < suc a = omega arith in let p : 0 < suc a * b = mul-pos s h in absurd (omega arith)

pub limit_down : (b x y : Float) → Limit b → Plain x → Plain y → le x b ≡ true → le y x ≡ true → le y b ≡ true
limit_down b x y (number k e) (plain m d) (plain n c) h g = le_trans₊ n m k c d e g h
limit_down b x y (minus_nought e) (plain m d) (plain n c) h g =
    let z : m * up d ≡ 0 = product_nought (m * up d) (down e) (down_pos e) (under_nought e d m h) in
    let w : n * up c * down d ≤ m * up d * down c = le_cross n m c d g in
    let v : m * up d * down c ≡ 0 = rw (z, zero-mul) in
    let u : n * up c ≡ 0 = product_nought (n * up c) (down d) (down_pos d) (omega arith) in
    nought_under e c n (rw (u, zero-mul))

-- ---- from 0 to 1

no_third : (a b c : Bool) → either a (either b c) ≡ false → c ≡ false
no_third false false false h = refl
no_third false false true h = absurd (clash refl h)
no_third false true c h = absurd (clash refl h)
no_third true b c h = absurd (clash refl h)

not_above : (m : ℕ) (e : ℤ) → lt one_f (fin false m e) ≡ false → le (fin false m e) one_f ≡ true
unfolding lt
not_above m e h =
    let u : m * up e * 1 ≤ 1 * 1 * down e = ltb-false (1 * 1 * down e) (m * up e * 1) h in cross_le m 1 e (pos 0) u

under_one : (a : Float) → Limit a → lt one_f a ≡ false → le a one_f ≡ true
under_one a (minus_nought e) h = low_nought e (pos 0) 1
under_one a (number m e) h = not_above m e h

-- a limit that no gate refuses is at most 1.0
pub limit_high : (a : Float) → bad_limit a ≡ false → le a one_f ≡ true
limit_high a b = under_one a (good a b) (no_third (is_nan a) (lt a nought_f) (lt one_f a) b)

-- and at least 0.0
over_nought : (b : Float) → Limit b → le nought_f b ≡ true
over_nought b (minus_nought e) = nought_under e (pos 0) 0 (rw zero-mul)
over_nought b (number m e) = cross_le 0 m (pos 0) e (let z : 0 * 1 * down e ≡ 0 = rw zero-mul in omega arith)

pub limit_low : (b : Float) → bad_limit b ≡ false → le nought_f b ≡ true
limit_low b h = over_nought b (good b h)

-- ---- two limits with a share between them

not_under : (m n : ℕ) (e d : ℤ) → m * up e * down d ≤ n * up d * down e → lt (fin false n d) (fin false m e) ≡ false
unfolding lt
not_under m n e d h = le-ltb (n * up d * down e) (m * up e * down d) h

not_both : (e d : ℤ) → lt (fin true 0 d) (fin true 0 e) ≡ false
unfolding lt
not_both e d =
    let y : 0 * up e * down d ≡ 0 = rw (zero-mul, zero-mul) in
    let z : 0 * up d * down e ≡ 0 = rw (zero-mul, zero-mul) in
    le-ltb (0 * up e * down d) (0 * up d * down e) (omega arith)

not_minus : (m : ℕ) (e d : ℤ) → lt (fin false m d) (fin true 0 e) ≡ false
unfolding lt
not_minus m e d = refl

minus_not : (m : ℕ) (e d : ℤ) → m * up e ≡ 0 → lt (fin true 0 d) (fin false m e) ≡ false
unfolding lt
minus_not m e d h =
    let y : 0 * up d * down e ≡ 0 = rw (zero-mul, zero-mul) in
    let z : m * up e * down d ≡ 0 = rw (h, zero-mul) in
    le-ltb 0 (0 * up d * down e + m * up e * down d) (omega arith)

-- are in their order
pub limits_apart : (a x b : Float) → Limit a → Plain x → Limit b → le a x ≡ true → le x b ≡ true → lt b a ≡ false
limits_apart a x b (minus_nought e) (plain n c) (minus_nought d) h g = not_both e d
limits_apart a x b (minus_nought e) (plain n c) (number m d) h g = not_minus m e d
limits_apart a x b (number k e) (plain n c) (number m d) h g =
    not_under k m e d (le_cross k m e d (le_trans₊ k n m e c d h g))
limits_apart a x b (number k e) (plain n c) (minus_nought d) h g =
    let z : n * up c ≡ 0 = product_nought (n * up c) (down d) (down_pos d) (under_nought d c n g) in
    let w : k * up e * down c ≤ n * up c * down e = le_cross k n e c h in
    let v : n * up c * down e ≡ 0 = rw (z, zero-mul) in
    minus_not k e d (product_nought (k * up e) (down c) (down_pos c) (omega arith))
