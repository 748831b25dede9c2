use mathlib.Core.Path.{refl}
use native.Mathlib.Omega.{arith}
use Rattle.words.proofs.OrLaws.{ored_next}
use Rattle.assoc_layout.proofs.blank.Goals as goal

pub loop-f-preserved : goal.loop-f-preserved
loop-f-preserved c = ored_next _ _ _ _ _ c.loop-f.invariant (omega arith) refl
