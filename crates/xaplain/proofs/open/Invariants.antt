use Prim.Native.Nat.{◌≤◌}
use Rattle.xaplain.specs.Moves.{Opened}
use Rattle.xaplain.proofs.open.Given as goal

abbrev pub invariant-loop-k : goal.invariant-loop-k
invariant-loop-k l = (l.p ≤ l.k) × (l.k ≤ l.n) × Opened l.initial.xs l.xs l.k l.n

abbrev pub decreases-loop-k : goal.decreases-loop-k
decreases-loop-k l = l.k
