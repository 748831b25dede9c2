use native.Mathlib.Omega.{arith}
use Rattle.script_erase.proofs.WriteLaws.{swept_step}
use Rattle.script_erase.proofs.sweep.Goals as goal

pub loop-u-preserved : goal.loop-u-preserved
loop-u-preserved c = swept_step c.loop-u.invariant (omega arith) (omega arith) c.sweep_row.ensures
