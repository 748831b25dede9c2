-- `run_all`: the commands of a batch in order, each on the pool that the last one left.
use Prim.Native.Nat.{◌-◌}
use mathlib.Core.Path.{◌≡◌}
use lib.ListN.{length}
use Rattle.calls.specs.Running.{Running}
use Rattle.calls.proofs.run_all.Given as goal

abbrev pub invariant-loop-at : goal.invariant-loop-at
invariant-loop-at l = (length l.pool ≡ length l.initial.pool) × (length l.map ≡ length l.initial.map) × Running l.initial.pool l.initial.reply l.batch l.pool l.map l.reply l.at l.out

abbrev pub decreases-loop-at : goal.decreases-loop-at
decreases-loop-at l = length l.batch - l.at
