-- `filled_ok`: whether the slots of node n are as they must be and k of them filled, from one filled slot to the next.
use Prim.Native.Nat.{◌-◌}
use Rattle.tree.specs.Tree.{slots}
use Rattle.layout.specs.Pool.{pool_of}
use Rattle.scan.proofs.TallyLaws.{Tallied}
use Rattle.scan.proofs.filled_ok.Given as goal

abbrev pub invariant-loop-j : goal.invariant-loop-j
invariant-loop-j l = Tallied (pool_of l.pool) l.n l.v l.j l.c

abbrev pub decreases-loop-j : goal.decreases-loop-j
decreases-loop-j l = slots - l.j
