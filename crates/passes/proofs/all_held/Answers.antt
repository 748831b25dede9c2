use native.Mathlib.Omega.{arith}
use borrow.Author.Tests.{eqb-true}
use Rattle.passes.proofs.ByteLaws.{off_down, off_all}
use Rattle.passes.proofs.all_held.Goals as goal

pub loop-j-preserved : goal.loop-j-preserved
loop-j-preserved c = off_down _ _ _ _ c.loop-j.invariant (omega arith) (omega arith) c.from.ensures

pub returns : goal.returns
returns c =
    λ e. off_all _ _ _ _ c.loop-j.invariant (omega arith) (eqb-true _ 0 e)
