-- `ending_under`: the way down to index i from the head node first on, whose slots are of tier top: each node on
use Prim.Native.Nat.{suc, ◌<◌}
use mathlib.Core.Path.{◌≡◌}
use Rattle.blocks.specs.Blocks.{block}
use Rattle.tree.specs.Tree.{tier_order, top_tier}
use Rattle.layout.specs.WellFormed.{WellFormed, num}
use Rattle.lookup.specs.Find.{stop_tier, any_mark}
use Rattle.lookup.specs.Views.{AtNode}
use Rattle.lookup.proofs.ending_under.Given as goal

abbrev pub invariant-loop-m : goal.invariant-loop-m
invariant-loop-m l = (l.v < top_tier) ×
    ((s : WellFormed l.pool) → AtNode s.list (num s) l.v (block (tier_order (suc l.v)) l.i) l.n ×
    (stop_tier s.list any_mark l.i l.v ≡ stop_tier s.list any_mark l.i l.top))

abbrev pub decreases-loop-m : goal.decreases-loop-m
decreases-loop-m l = l.v
