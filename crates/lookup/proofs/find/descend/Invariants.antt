-- `descend`: the way down to p, from node first, whose slots are of tier top.
use Prim.Native.Nat.{suc, ◌<◌}
use mathlib.Core.Path.{◌≡◌}
use Rattle.blocks.specs.Blocks.{block}
use Rattle.tree.specs.Tree.{tier_order, top_tier}
use Rattle.layout.specs.WellFormed.{WellFormed, num}
use Rattle.lookup.specs.Find.{stop_tier}
use Rattle.lookup.specs.Views.{AtNode}
use Rattle.lookup.proofs.find.descend.Given as goal

abbrev pub invariant-loop-m : goal.invariant-loop-m
invariant-loop-m l = (l.v < top_tier) ×
    ((s : WellFormed l.pool) → AtNode s.list (num s) l.v (block (tier_order (suc l.v)) l.p) l.n ×
    (stop_tier s.list l.filter l.p l.v ≡ stop_tier s.list l.filter l.p l.top))

abbrev pub decreases-loop-m : goal.decreases-loop-m
decreases-loop-m l = l.v
