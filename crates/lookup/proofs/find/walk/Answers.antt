-- `walk`: the steps from p on, after n, until the position leaves a node.
use mathlib.Core.Path.{sym, subst, ◌∙◌}
use native.Mathlib.Omega.{arith}
use Rattle.lookup.specs.Leap.{Walks}
use Rattle.lookup.proofs.HeadLaws.{entered_outside, entered_head_entry, entered_under, step_outside, step_bare}
use Rattle.lookup.proofs.WayLaws.{find_past}
use Rattle.lookup.proofs.WalkLaws.{counted_walks, through_head}
use Rattle.lookup.proofs.find.walk.Goals as goal

pub consider-requires-clause-order_le_max_order : goal.consider-requires-clause-order_le_max_order
consider-requires-clause-order_le_max_order c =
    let t = c.requires in
    let (z, h, q, o, e) = entered_head_entry (c.enter-k.ensures t.well_formed) _ c.in-HeadEntry.is in
    omega arith

pub consider-requires-clause-order_bound : goal.consider-requires-clause-order_bound
consider-requires-clause-order_bound c =
    let t = c.requires in
    let (z, h, q, o, e) = entered_head_entry (c.enter-k.ensures t.well_formed) _ c.in-HeadEntry.is in
    rw (o, e) (omega arith)

pub walk_under-requires-clause-top_lt_top_tier : goal.walk_under-requires-clause-top_lt_top_tier
walk_under-requires-clause-top_lt_top_tier c =
    let t = c.requires in
    (entered_under (c.enter-k.ensures t.well_formed) _ _ c.in-Under.is).1

pub walk_under-requires-clause-on_way : goal.walk_under-requires-clause-on_way
walk_under-requires-clause-on_way c =
    let t = c.requires in
    λ s. let (z, le, h, a) = entered_under (c.enter-k.ensures s) _ _ c.in-Under.is in
    record { at_node_lem = a; through = through_head s.list _ _ _ z h }

pub returns-in-Outside : goal.returns-in-Outside
returns-in-Outside c =
    λ s. find_past s.list _ _ _ _ _ c.requires.n_lt_budget (step_outside s.list _ _ _
    (entered_outside (c.enter-k.ensures s) c.in-Outside.is))

pub returns-in-HeadEntry : goal.returns-in-HeadEntry
returns-in-HeadEntry c =
    λ s.
    let a = c.args in
    let (z, h, q, o, e) = entered_head_entry (c.enter-k.ensures s) _ c.in-HeadEntry.is in
    subst (Walks s.list a.filter a.last a.budget a.p a.n) (sym c.counted.ensures)
    (counted_walks s.list a.filter a.last a.budget a.p a.n c.consider.result
    (c.consider.ensures ∙ step_bare s.list _ _ _ _ z h q) c.requires.n_lt_budget)
