-- What R270 to R275 say of a gate, one by one. Assumes nothing: these are definitions.
use Rattle.std.specs.Prelude.{ℕ, ◌*◌, ◌^◌, ◌≤◌, ◌<◌, ◌≡◌, ◌≢◌, true, false, Float, Result, Ok, Err}
use Rattle.std.specs.Float.Ieee.Positive.{num, den}
use Rattle.answers.specs.declared.Answer.{Answer}
use Rattle.gate.specs.Gate.{Gate, Verdict, Fail, Pass, BadGate, NoTotal, PartAboveTotal, share, bad_limits, holds}

-- a 32-bit count
abbrev pub Small : ℕ → Type 0
Small n = n < 2 ^ 32

-- when a gate passes
pub record Passes (g : Gate) (p t : ℕ) : Type 0 where
  pub limits : bad_limits g ≡ false
  pub some : t ≢ 0
  pub part : p ≤ t
  pub meets : holds g (share p t) ≡ true

-- a row for each verdict and each refusal
pub data Judged (g : Gate) (p t : ℕ) : Result Verdict Answer → Type 0 where
  is_bad : bad_limits g ≡ true → Judged g p t (Err BadGate)
  is_nothing : bad_limits g ≡ false → t ≡ 0 → Judged g p t (Err NoTotal)
  is_above : bad_limits g ≡ false → t ≢ 0 → t < p → Judged g p t (Err PartAboveTotal)
  is_fail : bad_limits g ≡ false → t ≢ 0 → p ≤ t → holds g (share p t) ≡ false → Judged g p t (Ok Fail)
  is_pass : Passes g p t → Judged g p t (Ok Pass)

-- p / t is at least x, and at most x, as fractions; x is a limit that no gate refuses, num x / den x exactly
abbrev pub AtLeast : (x : Float) → (p t : ℕ) → Type 0
AtLeast x p t = num x * t ≤ p * den x

abbrev pub AtMost : (x : Float) → (p t : ℕ) → Type 0
AtMost x p t = p * den x ≤ num x * t
