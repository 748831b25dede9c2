-- `order_of`: log2 of how many slots the entry in slot o of node n takes: the siblings at distances 1, 2, 4, .
use Prim.Native.Nat.{ℕ, ◌+◌, ◌-◌, ◌/◌, ◌%◌, ◌^◌, ◌<◌, ◌≤◌}
use mathlib.Core.Path.{◌≡◌}
use Rattle.model.specs.declared.Entry.{Entry}
use Rattle.tree.specs.Tree.{tier_order, slots}
use Rattle.layout.specs.WellFormed.{WellFormed, num}
use Rattle.lookup.specs.Views.{AtNode, Stands}
use Rattle.lookup.proofs.order_of.Given as goal

abbrev pub invariant-loop-t : goal.invariant-loop-t
invariant-loop-t l = (l.t ≡ 2 ^ l.r) × (l.r + 1 ≤ l.t) × (l.t < 128) ×
    ((s : WellFormed l.pool) (v d : ℕ) (e : Entry) → AtNode s.list (num s) v (d / slots) l.n → l.o ≡ d % slots →
    Stands s.list v d e → tier_order v + l.r ≤ e.order)

abbrev pub decreases-loop-t : goal.decreases-loop-t
decreases-loop-t l = slots - l.t
