-- What a gate's answer means, in the request's words. Assumes nothing.
use Rattle.std.specs.Prelude.{Result, Ok, Err}
use Rattle.answers.specs.declared.Answer.{Answer}
use Prim.Native.Nat.{ℕ, ◌*◌, ◌≤◌, ◌<◌}
use mathlib.Core.Path.{◌≡◌, refl, sym, ap, subst}
use mathlib.Core.Logic.{◌≢◌}
use mathlib.Core.Bool.{Bool, true, false}
use native.Mathlib.Omega.{arith}
use native.Mathlib.Nat.{mul-le-mul_right}
use lib.Dec.{ltb, eqb}
use lib.IntN.{pos}
use lib.Ieee.{Float, nan, binary64, round, is_nan, le, lt}
use borrow.Author.Tests.{ltb-true, ltb-false, eqb-true, eqb-false, ne_eqb, le-ltb, lt-ltb}
use Rattle.answers.specs.Answers.{result_of, bad_gate}
use Rattle.blocks.specs.Choice.{either}
use Rattle.blocks.proofs.BoolLaws.{clash, by_t, both_i, both_l, both_r}
use Rattle.gate.specs.Gate.{
  Gate,
  MatchedAtLeast,
  UnreadAtMost,
  MatchedBetween,
  Verdict,
  Fail,
  Pass,
  BadGate,
  NoTotal,
  PartAboveTotal,
  share,
  nought_f,
  one_f,
  bad_limit,
  bad_limits,
  holds,
  judge,
  reported,
  gate_result,
}
use Rattle.gate.specs.Claims.{Small, Passes, Judged, is_bad, is_nothing, is_above, is_fail, is_pass}
use Rattle.gate.proofs.ShareLaws.{share_rounded, share_mono, share_all, share_none}
use Rattle.gate.proofs.LimitLaws.{good, nan_bad, number, limit_up, limit_down, limit_low, limit_high, limits_apart, share_plain}

-- ---- the five verdicts, and that they are all

module _ (g : Gate) (p t : ℕ) where
  -- R272 before all, whatever the counts are
  pub bad_first : bad_limits g ≡ true → judge g p t ≡ Err BadGate
  unfolding judge
  bad_first b = rw b

  -- R273 before R274, whatever the part is
  pub nothing_second : bad_limits g ≡ false → t ≡ 0 → judge g p t ≡ Err NoTotal
  unfolding judge
  nothing_second b z = rw (b, z)

  pub above_third : bad_limits g ≡ false → t ≢ 0 → t < p → judge g p t ≡ Err PartAboveTotal
  unfolding judge
  above_third b z l = rw (b, ne_eqb t 0 z, lt-ltb t p l)

  pub pass_if : Passes g p t → judge g p t ≡ Ok Pass
  unfolding judge
  pass_if r = rw (r.limits, ne_eqb t 0 r.some, le-ltb t p r.part, r.meets)

  pub else_fail : bad_limits g ≡ false → t ≢ 0 → p ≤ t → holds g (share p t) ≡ false → judge g p t ≡ Ok Fail
  unfolding judge
  else_fail b z l m = rw (b, ne_eqb t 0 z, le-ltb t p l, m)

  -- one of the five, each with what it means
  pub judged : Judged g p t (judge g p t)
  judged =
      by_t (bad_limits g) (λ b. subst (Judged g p t) (sym (bad_first b)) (is_bad b))
      (λ b. by_t (eqb t 0) (λ z. subst (Judged g p t) (sym (nothing_second b (eqb-true t 0 z))) (is_nothing b (eqb-true t 0 z)))
      (λ z. let some : t ≢ 0 = eqb-false t 0 z in
      by_t (ltb t p)
      (λ l. subst (Judged g p t) (sym (above_third b some (ltb-true t p l))) (is_above b some (ltb-true t p l)))
      (λ l. let part : p ≤ t = ltb-false t p l in
      by_t (holds g (share p t))
      (λ m. let r : Passes g p t = record { limits = b; some = some; part = part; meets = m } in
      subst (Judged g p t) (sym (pass_if r)) (is_pass r))
      (λ m. subst (Judged g p t) (sym (else_fail b some part m)) (is_fail b some part m)))))

row_passes : (g : Gate) (p t : ℕ) (v : Result Verdict Answer) → Judged g p t v → (reported v).number ≡ 1 → Passes g p t
row_passes g p t v (is_bad b) e = absurd (omega arith)
row_passes g p t v (is_nothing b z) e = absurd (omega arith)
row_passes g p t v (is_above b z l) e = absurd (omega arith)
row_passes g p t v (is_fail b z l m) e = absurd (omega arith)
row_passes g p t v (is_pass r) e = r

-- the number 1 is a pass, and with `pass-if`: exactly when no limit is bad, the total is not 0, the part at most the total and the comparison holds
pub one_only : (g : Gate) (p t : ℕ) → (reported (judge g p t)).number ≡ 1 → Passes g p t
one_only g p t e = row_passes g p t (judge g p t) (judged g p t) e

pub pass_only : (g : Gate) (p t : ℕ) → judge g p t ≡ Ok Pass → Passes g p t
pass_only g p t e = one_only g p t (ap (λ (v : Result Verdict Answer). (reported v).number) e)

-- a total of 0 never passes
pub nothing_never_passes : (g : Gate) (p : ℕ) → judge g p 0 ≡ Ok Pass → ⊥
nothing_never_passes g p e = (pass_only g p 0 e).some refl

-- ---- as the call has it, by kind

pub by_kind_1 : (a b : Float) (p t : ℕ) → gate_result 1 a b p t ≡ reported (judge (MatchedAtLeast a) p t)
by_kind_1 a b p t = refl

pub by_kind_2 : (a b : Float) (p t : ℕ) → gate_result 2 a b p t ≡ reported (judge (UnreadAtMost b) p t)
by_kind_2 a b p t = refl

pub by_kind_3 : (a b : Float) (p t : ℕ) → gate_result 3 a b p t ≡ reported (judge (MatchedBetween a b) p t)
by_kind_3 a b p t = refl

pub other_kind : (k : ℕ) (a b : Float) (p t : ℕ) → k ≢ 1 → k ≢ 2 → k ≢ 3 → gate_result k a b p t ≡ result_of bad_gate 0
other_kind k a b p t h₁ h₂ h₃ = rw (ne_eqb k 1 h₁, ne_eqb k 2 h₂, ne_eqb k 3 h₃)

nothing_row : (g : Gate) (p : ℕ) (v : Result Verdict Answer) → Judged g p 0 v → (reported v).number ≡ 0
nothing_row g p v (is_bad b) = refl
nothing_row g p v (is_nothing b z) = refl
nothing_row g p v (is_above b z l) = refl
nothing_row g p v (is_fail b z l m) = refl
nothing_row g p v (is_pass r) = absurd (r.some refl)

-- whatever the kind, its limits and the part: of a total of 0 the number is 0
pub call_on_nothing : (k : ℕ) (a b : Float) (p : ℕ) → (gate_result k a b p 0).number ≡ 0
call_on_nothing k a b p =
    by_t (eqb k 1) (λ e. rw e (of (MatchedAtLeast a)))
    (λ n₁. by_t (eqb k 2) (λ e. rw (n₁, e) (of (UnreadAtMost b)))
    (λ n₂. by_t (eqb k 3) (λ e. rw (n₁, n₂, e) (of (MatchedBetween a b))) (λ n₃. rw (n₁, n₂, n₃))))
  where
    of : (g : Gate) → (reported (judge g p 0)).number ≡ 0
    of g = nothing_row g p (judge g p 0) (judged g p 0)

-- ---- a limit that is NaN is answer 18, whatever the counts are

pub nan_least : (p t : ℕ) → judge (MatchedAtLeast nan) p t ≡ Err BadGate
nan_least p t = bad_first (MatchedAtLeast nan) p t nan_bad

pub nan_most : (p t : ℕ) → judge (UnreadAtMost nan) p t ≡ Err BadGate
nan_most p t = bad_first (UnreadAtMost nan) p t nan_bad

pub nan_low : (b : Float) (p t : ℕ) → judge (MatchedBetween nan b) p t ≡ Err BadGate
nan_low b p t = bad_first (MatchedBetween nan b) p t (rw nan_bad)

pub nan_high : (a : Float) (p t : ℕ) → judge (MatchedBetween a nan) p t ≡ Err BadGate
nan_high a p t = bad_first (MatchedBetween a nan) p t (rw nan_bad (by_t (bad_limit a) (λ e. rw e) (λ e. rw e)))

-- ---- more and fewer

-- more matched passes where less did
pub more_passes : (a : Float) (p q t : ℕ) → Small t → p ≤ q → q ≤ t → judge (MatchedAtLeast a) p t ≡ Ok Pass →
    judge (MatchedAtLeast a) q t ≡ Ok Pass
more_passes a p q t ht h g e =
    let r = pass_only (MatchedAtLeast a) p t e in
    let t+ : 0 < t = omega (arith, r.some) in
    pass_if (MatchedAtLeast a) q t (record {
      limits = r.limits;
      some = r.some;
      part = g;
      meets = limit_up a (share p t) (share q t) (good a r.limits) (share_plain p t ht (omega arith) t+)
          (share_plain q t ht g t+) r.meets
          (share_mono p t q t (omega arith) ht (omega arith) ht t+ t+ (mul-le-mul_right t h));
    })

-- fewer unread passes where more did
pub fewer_passes : (b : Float) (p q t : ℕ) → Small t → q ≤ p → judge (UnreadAtMost b) p t ≡ Ok Pass →
    judge (UnreadAtMost b) q t ≡ Ok Pass
fewer_passes b p q t ht h e =
    let r = pass_only (UnreadAtMost b) p t e in
    let t+ : 0 < t = omega (arith, r.some) in
    let g : p ≤ t = r.part in
    pass_if (UnreadAtMost b) q t (record {
      limits = r.limits;
      some = r.some;
      part = omega arith;
      meets = limit_down b (share p t) (share q t) (good b r.limits) (share_plain p t ht r.part t+)
          (share_plain q t ht (omega arith) t+) r.meets
          (share_mono q t p t (omega arith) ht (omega arith) ht t+ t+ (mul-le-mul_right t h));
    })

-- ---- all and nothing

-- all matched passes every limit that is not refused, and none unread too
pub all_passes : (a : Float) (t : ℕ) → Small t → 0 < t → bad_limit a ≡ false → judge (MatchedAtLeast a) t t ≡ Ok Pass
all_passes a t ht t+ b = pass_if (MatchedAtLeast a) t t (record {
  limits = b;
  some = λ z. omega arith;
  part = omega arith;
  meets = rw (share_all t ht t+) (limit_high a b);
})

pub none_passes : (b : Float) (t : ℕ) → Small t → 0 < t → bad_limit b ≡ false → judge (UnreadAtMost b) 0 t ≡ Ok Pass
none_passes b t ht t+ h = pass_if (UnreadAtMost b) 0 t (record {
  limits = h;
  some = λ z. omega arith;
  part = omega arith;
  meets = rw (share_none t ht t+) (limit_low b h);
})

-- the largest share below all: (2^32 - 2) / (2^32 - 1) is not 1.0
abbrev most : ℕ
most = 4294967295

below_one : le one_f (round binary64 false 4294967294 most) ≡ false
unfolding le round
below_one = refl

-- a limit of 1.0 passes only if all is matched, and then it does, up to totals of 2^32 - 1
pub one_is_all : (p t : ℕ) → Small t → judge (MatchedAtLeast one_f) p t ≡ Ok Pass → p ≡ t
one_is_all p t ht e =
    let r = pass_only (MatchedAtLeast one_f) p t e in
    let t+ : 0 < t = omega (arith, r.some) in
    let le1 : p ≤ t = r.part in
    by_t (ltb p t)
    (λ l. let lt : p < t = ltb-true _ _ l in
    let k : 0 < most = omega arith in
    let g : p * most ≤ 4294967294 * t = omega arith in
    let m : le (share p t) (share 4294967294 most) ≡ true = share_mono p t 4294967294 most (omega arith) ht (omega arith)
    (omega arith) t+ k g in
    absurd (clash (limit_up one_f (share p t) (share 4294967294 most) (number 1 (pos 0)) (share_plain p t ht le1 t+)
    (share_plain 4294967294 most (omega arith) (omega arith) k) r.meets m)
    (rw (share_rounded 4294967294 most (omega arith) (omega arith) k) below_one)))
    (λ l. omega (arith, ltb-false p t l))

good_one : bad_limit one_f ≡ false
unfolding lt is_nan
good_one = refl

pub all_is_one : (t : ℕ) → Small t → 0 < t → judge (MatchedAtLeast one_f) t t ≡ Ok Pass
all_is_one t ht t+ = all_passes one_f t ht t+ good_one

-- the smallest share above none: 1 / (2^32 - 1) is above 0.0
above_nought : le (round binary64 false 1 most) nought_f ≡ false
unfolding le round
above_nought = refl

-- a limit of 0.0 for unread passes only if none is unread, and then it does
pub nought_is_none : (p t : ℕ) → Small t → judge (UnreadAtMost nought_f) p t ≡ Ok Pass → p ≡ 0
nought_is_none p t ht e =
    let r = pass_only (UnreadAtMost nought_f) p t e in
    let t+ : 0 < t = omega (arith, r.some) in
    let le1 : p ≤ t = r.part in
    by_t (ltb 0 p)
    (λ l. let lt : 0 < p = ltb-true _ _ l in
    let k : 0 < most = omega arith in
    let g : 1 * t ≤ p * most = omega arith in
    let m : le (share 1 most) (share p t) ≡ true = share_mono 1 most p t (omega arith) (omega arith) (omega arith) ht k t+ g in
    absurd (clash (limit_down nought_f (share p t) (share 1 most) (number 0 (pos 0)) (share_plain p t ht le1 t+)
    (share_plain 1 most (omega arith) (omega arith) k) r.meets m)
    (rw (share_rounded 1 most (omega arith) (omega arith) k) above_nought)))
    (λ l. omega (arith, ltb-false 0 p l))

good_nought : bad_limit nought_f ≡ false
unfolding lt is_nan
good_nought = refl

pub none_is_nought : (t : ℕ) → Small t → 0 < t → judge (UnreadAtMost nought_f) 0 t ≡ Ok Pass
none_is_nought t ht t+ = none_passes nought_f t ht t+ good_nought

-- ---- between goes with its two halves

-- where it passes, both do
pub between_least : (a b : Float) (p t : ℕ) → judge (MatchedBetween a b) p t ≡ Ok Pass → judge (MatchedAtLeast a) p t ≡ Ok Pass
between_least a b p t e =
    let r = pass_only (MatchedBetween a b) p t e in
    pass_if (MatchedAtLeast a) p t (record {
      limits = no_first (bad_limit a) (either (bad_limit b) (lt b a)) r.limits;
      some = r.some;
      part = r.part;
      meets = both_l (le a (share p t)) (le (share p t) b) r.meets;
    })
  where
    no_first : (x y : Bool) → either x y ≡ false → x ≡ false
    no_first false y h = refl
    no_first true y h = absurd (clash refl h)

pub between_most : (a b : Float) (p t : ℕ) → judge (MatchedBetween a b) p t ≡ Ok Pass → judge (UnreadAtMost b) p t ≡ Ok Pass
between_most a b p t e =
    let r = pass_only (MatchedBetween a b) p t e in
    pass_if (UnreadAtMost b) p t (record {
      limits = no_second (bad_limit a) (bad_limit b) (lt b a) r.limits;
      some = r.some;
      part = r.part;
      meets = both_r (le a (share p t)) (le (share p t) b) r.meets;
    })
  where
    no_second : (x y z : Bool) → either x (either y z) ≡ false → y ≡ false
    no_second false false z h = refl
    no_second false true z h = absurd (clash refl h)
    no_second true y z h = absurd (clash refl h)

-- and where both do, it does: then a is not above b
pub halves_between : (a b : Float) (p t : ℕ) → Small t → judge (MatchedAtLeast a) p t ≡ Ok Pass → judge (UnreadAtMost b) p t ≡ Ok Pass →
    judge (MatchedBetween a b) p t ≡ Ok Pass
halves_between a b p t ht e d =
    let l = pass_only (MatchedAtLeast a) p t e in
    let m = pass_only (UnreadAtMost b) p t d in
    let t+ : 0 < t = omega (arith, l.some) in
    let ab : lt b a ≡ false = limits_apart a (share p t) b (good a l.limits) (share_plain p t ht l.part t+) (good b m.limits)
    l.meets m.meets in
    pass_if (MatchedBetween a b) p t (record {
      limits = rw (l.limits, m.limits, ab);
      some = l.some;
      part = l.part;
      meets = both_i l.meets m.meets;
    })
