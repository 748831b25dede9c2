-- `walk_under`: the steps from p on, after n, from node first on, while the position stays in the node where the
use Prim.Native.Nat.{◌-◌, ◌≤◌, ◌<◌}
use mathlib.Core.Path.{◌≡◌}
use Rattle.tree.specs.Tree.{top_tier}
use Rattle.layout.specs.WellFormed.{WellFormed, num}
use Rattle.lookup.specs.Find.{find_from}
use Rattle.lookup.specs.Leap.{OnWay}
use Rattle.lookup.proofs.find.walk_under.Given as goal

abbrev pub invariant-loop-k : goal.invariant-loop-k
invariant-loop-k l = (l.u < top_tier) × (l.n ≤ l.k) × (l.k ≤ l.budget) ×
    ((s : WellFormed l.pool) → OnWay s.list (num s) l.filter l.q l.m l.u ×
    (find_from s.list l.filter l.last (l.budget - l.k) l.q l.k ≡ find_from s.list l.filter l.last (l.budget - l.n) l.p l.n))

abbrev pub decreases-loop-k : goal.decreases-loop-k
decreases-loop-k l = l.budget - l.k
