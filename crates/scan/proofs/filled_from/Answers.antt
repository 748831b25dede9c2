use Prim.Native.Nat.{ℕ}
use mathlib.Core.Path.{◌∙◌, ap}
use native.Mathlib.Omega.{arith}
use lib.Dec.{eqb}
use Rattle.std.specs.Int.{from_bool}
use Rattle.scan.proofs.FilledLaws.{told_down}
use Rattle.scan.proofs.filled_from.Goals as goal

pub loop-j-preserved : goal.loop-j-preserved
loop-j-preserved c =
    told_down _ _ _ _ _ _ c.loop-j.invariant (omega arith) (omega arith)
    (c.from.ensures ∙ ap (λ (w : ℕ). from_bool (eqb w 0)) c.slot_word.ensures)
