use Prim.Native.Nat.{ℕ}
use mathlib.Core.Path.{◌≡◌}
use mathlib.Core.Bool.{Bool, false}
use Rattle.blocks.specs.Choice.{pick}
use Rattle.blocks.specs.Blocks.{bits_to}
use Rattle.tree.specs.Tree.{slots}
use Rattle.script_rows.specs.Row.{in_run}
use Rattle.script_rows.proofs.clear_bits.Given as goal

abbrev pub invariant-loop-t : goal.invariant-loop-t
invariant-loop-t l = (f : ℕ → Bool) → l.w ≡ bits_to f slots → l.y ≡ bits_to (λ j. pick (in_run l.o l.t j) false (f j)) slots
