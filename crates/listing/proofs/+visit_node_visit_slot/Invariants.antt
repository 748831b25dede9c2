-- `visit_node` and `visit_slot`, which call each other: the entries that start in a node's block, slot by slot.
use Rattle.std.proofs.Common.{◌+◌, ◌*◌, ◌^◌, suc}
use Rattle.tree.specs.Tree.{slots, tier_order}
use Rattle.layout.specs.WellFormed.{WellFormed}
use Rattle.listing.specs.Listing.{listed}
use Rattle.listing.specs.Visits.{between, Emits}
use Rattle.listing.proofs.+visit_node_visit_slot.Given as goal

abbrev pub decreases-visit_node : goal.decreases-visit_node
decreases-visit_node l = l.v * 2 + 1

abbrev pub decreases-visit_slot : goal.decreases-visit_slot
decreases-visit_slot l = l.v * 2

abbrev pub invariant-visit_node-loop-o : goal.invariant-visit_node-loop-o
invariant-visit_node-loop-o l =
    (s : WellFormed l.pool) → Emits l.range.room
    (listed (between s.list (l.b * 2 ^ tier_order (suc l.v)) ((slots * l.b + l.o) * 2 ^ tier_order l.v)) l.range.first l.range.last)
    l.initial.buffer l.k l.buffer l.at
