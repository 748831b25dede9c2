use mathlib.Core.Path.{sym, ◌∙◌}
use native.Mathlib.Omega.{arith}
use Rattle.std.proofs.Common.{below_more}
use Rattle.steps.proofs.DecideLaws.{yes! }
use Rattle.scan.proofs.NodeLaws.{free_of}
use Rattle.scan.proofs.none_used.Goals as goal

pub loop-n-preserved : goal.loop-n-preserved
loop-n-preserved c =
    below_more _ _ c.loop-n.invariant (free_of _ _ (c.requires.fact_2 c.loop-n.n (omega arith))
    (sym c.shift_of.ensures ∙ c.if-shift_of-ne0.false))

pub returns : goal.returns
returns c =
    yes! (λ k lt. c.loop-n.invariant k (omega arith))
