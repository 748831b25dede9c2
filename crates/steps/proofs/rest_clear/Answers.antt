-- `rest_clear`: whether the p - 1 bits of m after bit j are 0.
use native.Mathlib.Omega.{arith}
use Rattle.steps.proofs.WordLaws.{rest_decides}
use Rattle.steps.proofs.rest_clear.Goals as goal

pub returns : goal.returns
returns c =
    rest_decides _ _ c.args.p _ (omega arith) c.pow2-q.ensures
