-- Gates in numbers alone: a third and the next float, -0.0, just below 0, just above 1, and every NaN. Assumes nothing.
use Rattle.std.specs.Prelude.{Result, Ok, Err}
use Rattle.answers.specs.declared.Answer.{Answer}
use mathlib.Core.Path.{◌≡◌, refl}
use lib.Ieee.{binary64, of_bits, is_nan, le, lt, div, of_int}
use Rattle.gate.specs.Gate.{MatchedAtLeast, UnreadAtMost, MatchedBetween, Fail, Pass, BadGate, share, judge}

pub third : share 1 3 ≡ of_bits binary64 0x3fd5_5555_5555_5555
unfolding share of_bits div of_int
third = refl

pub third_passes : judge (MatchedAtLeast (of_bits binary64 0x3fd5_5555_5555_5555)) 1 3 ≡ Ok Pass
unfolding judge of_bits share is_nan lt le div of_int
third_passes = refl

pub third_next_fails : judge (MatchedAtLeast (of_bits binary64 0x3fd5_5555_5555_5556)) 1 3 ≡ Ok Fail
unfolding judge of_bits share is_nan lt le div of_int
third_next_fails = refl

pub third_between : judge (MatchedBetween (of_bits binary64 0x3fd5_5555_5555_5555) (of_bits binary64 0x3fd5_5555_5555_5555)) 1 3 ≡ Ok Pass
unfolding judge of_bits share is_nan lt le div of_int
third_between = refl

pub minus_nought_passes : judge (UnreadAtMost (of_bits binary64 0x8000_0000_0000_0000)) 0 1 ≡ Ok Pass
unfolding judge of_bits share is_nan lt le div of_int
minus_nought_passes = refl

-- the least subnormal is above no share but 0
pub least_subnormal_fails : judge (MatchedAtLeast (of_bits binary64 1)) 0 1 ≡ Ok Fail
unfolding judge of_bits share is_nan lt le div of_int
least_subnormal_fails = refl

pub just_below_nought : judge (MatchedAtLeast (of_bits binary64 0x8000_0000_0000_0001)) 1 1 ≡ Err BadGate
unfolding judge of_bits is_nan lt
just_below_nought = refl

pub just_above_one : judge (MatchedAtLeast (of_bits binary64 0x3ff0_0000_0000_0001)) 1 1 ≡ Err BadGate
unfolding judge of_bits is_nan lt
just_above_one = refl

pub signalling : judge (UnreadAtMost (of_bits binary64 0x7ff0_0000_0000_0001)) 0 0 ≡ Err BadGate
unfolding judge of_bits is_nan
signalling = refl
