-- Gates: the share that a part has of a total, held to limits (R270 to R275). Floats are `lib.Ieee`'s: IEEE 754 binary64, of which there
-- is one NaN, and -0.0 is equal to 0.0; a quotient is the exact fraction, rounded once to the nearest float, ties to even.
use Rattle.std.specs.Prelude.{ℕ, Bool, false, ltb, eqb, pos, Float, Option, Some, None, Result, Ok, Err, ok_or}
use Rattle.std.specs.Float.{fin, binary64}
use Rattle.std.specs.Float.Ieee.{is_nan, of_int, div, lt, le}
use Rattle.answers.specs.declared.Answer.{Answer}
use Rattle.answers.specs.declared.Report.{Report}
pub use Rattle.answers.specs.declared.Answer.TheVariants.{BadGate, NoTotal, PartAboveTotal}
use Rattle.answers.specs.Answers.{result_of, done, number_of, bad_gate}
use Rattle.blocks.specs.Choice.{pick, both, either}
pub use Rattle.gate.specs.declared.Gate.{Gate}
pub use Rattle.gate.specs.declared.Gate.TheVariants.{MatchedAtLeast, UnreadAtMost, MatchedBetween}
pub use Rattle.gate.specs.declared.Verdict.{Verdict}
pub use Rattle.gate.specs.declared.Verdict.TheVariants.{Fail, Pass}

-- 0.0 and 1.0
abbrev pub nought_f : Float
nought_f = fin false 0 (pos 0)

abbrev pub one_f : Float
one_f = fin false 1 (pos 0)

-- R271: one division as floats
unfoldable pub share : (part total : ℕ) → Float
share p t = div binary64 (of_int binary64 (pos p)) (of_int binary64 (pos t))

-- R272: no number from 0 to 1; -0.0 is one
abbrev pub bad_limit : Float → Bool
bad_limit x = either (is_nan x) (either (lt x nought_f) (lt one_f x))

abbrev pub bad_limits : Gate → Bool
bad_limits (MatchedAtLeast a) = bad_limit a
bad_limits (UnreadAtMost b) = bad_limit b
bad_limits (MatchedBetween a b) = either (bad_limit a) (either (bad_limit b) (lt b a))

-- R270
abbrev pub holds : Gate → Float → Bool
holds (MatchedAtLeast a) x = le a x
holds (UnreadAtMost b) x = le x b
holds (MatchedBetween a b) x = both (le a x) (le x b)

-- R272, R273, R274 in this order, then R275
unfoldable pub judge : Gate → (part total : ℕ) → Result Verdict Answer
judge g p t =
    pick (bad_limits g) (Err BadGate)
    (pick (eqb t 0) (Err NoTotal)
    (pick (ltb t p) (Err PartAboveTotal)
    (pick (holds g (share p t)) (Ok Pass) (Ok Fail))))

-- the answer, and the number: 1 is a pass, and nothing else is
abbrev pub reported : Result Verdict Answer → Report
reported (Ok Fail) = result_of done 0
reported (Ok Pass) = result_of done 1
reported (Err a) = result_of (number_of a) 0

-- a gate by its kind; of any other kind there is none
abbrev pub gate_of : (kind : ℕ) → (a b : Float) → Option Gate
gate_of k a b =
    pick (eqb k 1) (Some (MatchedAtLeast a))
    (pick (eqb k 2) (Some (UnreadAtMost b))
    (pick (eqb k 3) (Some (MatchedBetween a b)) None))

abbrev pub gate_result : (kind : ℕ) → (a b : Float) → (part total : ℕ) → Report
gate_result k a b p t =
    pick (eqb k 1) (reported (judge (MatchedAtLeast a) p t))
    (pick (eqb k 2) (reported (judge (UnreadAtMost b) p t))
    (pick (eqb k 3) (reported (judge (MatchedBetween a b) p t)) (result_of bad_gate 0)))
