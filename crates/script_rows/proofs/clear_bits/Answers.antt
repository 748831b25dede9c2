use Rattle.script_rows.proofs.RowWriteLaws.{bits_start, bits_step}
use native.Mathlib.Omega.{arith}
use mathlib.Core.Path.{◌∙◌}
use Rattle.script_rows.proofs.clear_bits.Goals as goal

pub loop-t-init : goal.loop-t-init
loop-t-init c = λ f e. e ∙ bits_start f c.args.o

pub loop-t-preserved : goal.loop-t-preserved
loop-t-preserved c = λ f e. bits_step f c.args.o c.loop-t.t (omega arith) (c.loop-t.invariant f e) c.with_bit-y.ensures
