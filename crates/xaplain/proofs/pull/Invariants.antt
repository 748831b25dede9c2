use Prim.Native.Nat.{◌+◌, ◌-◌, ◌≤◌}
use Rattle.xaplain.specs.Moves.{Pulled}
use Rattle.xaplain.proofs.pull.Given as goal

abbrev pub invariant-loop-k : goal.invariant-loop-k
invariant-loop-k l = (l.k ≤ l.n - l.q) × Pulled l.initial.xs l.xs l.a l.q (l.q + l.k)

abbrev pub decreases-loop-k : goal.decreases-loop-k
decreases-loop-k l = l.n - l.q - l.k
