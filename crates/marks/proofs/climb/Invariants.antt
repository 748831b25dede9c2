-- `climb`: mark m of the entry that stands at a spot, and of each slot that leads to it, by owner words as long as
use Prim.Native.Nat.{◌-◌}
use Rattle.tree.specs.Tree.{top_tier}
use Rattle.layout.specs.WellFormed.{WellFormed, num}
use Rattle.lookup.specs.Views.{Holds}
use Rattle.marks.proofs.HybridLaws.{Climbing, Bounds}
use Rattle.marks.proofs.climb.Given as goal

abbrev pub invariant-loop-i : goal.invariant-loop-i
invariant-loop-i l = Bounds l.initial.pool l.pool l.n l.v l.o ×
    ((s : WellFormed l.initial.pool) → Holds s.list (num s) l.i l.initial.n l.initial.v l.initial.o → Climbing s l.i l.m l.on l.v l.n l.o l.b l.pool)

abbrev pub decreases-loop-i : goal.decreases-loop-i
decreases-loop-i l = top_tier - l.v
