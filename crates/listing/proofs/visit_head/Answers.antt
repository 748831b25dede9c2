-- `visit_head`: all entries that meet the range.
use mathlib.Core.Path.{ap, sym, subst}
use mathlib.Core.List.{List}
use Rattle.model.specs.declared.Entry.{Entry}
use Rattle.listing.specs.Listing.{listed}
use Rattle.listing.specs.Visits.{Emits}
use Rattle.listing.proofs.EmitLaws.{emits_nothing}
use Rattle.listing.proofs.VisitLaws.{head_none, head_lone, head_fits, head_ready, head_low, head_all}
use Rattle.listing.proofs.visit_head.Goals as goal

pub offer-requires-clause-order_le_max_order : goal.offer-requires-clause-order_le_max_order
offer-requires-clause-order_le_max_order c =
    let (o, e) = head_fits c.requires.well_formed (c.enter-head.ensures c.requires.well_formed) _ c.in-HeadEntry.is in
    o

pub offer-requires-clause-order_bound : goal.offer-requires-clause-order_bound
offer-requires-clause-order_bound c =
    let (o, e) = head_fits c.requires.well_formed (c.enter-head.ensures c.requires.well_formed) _ c.in-HeadEntry.is in
    e

pub visit_node-requires-clause-v_lt_top_tier : goal.visit_node-requires-clause-v_lt_top_tier
visit_node-requires-clause-v_lt_top_tier c =
    let s = c.requires.well_formed in
    head_low s (c.enter-head.ensures s) _ _ c.in-Under.is

pub visit_node-requires-clause-ready : goal.visit_node-requires-clause-ready
visit_node-requires-clause-ready c =
    let s = c.requires.well_formed in
    λ s. head_ready s
    (c.enter-head.ensures s) _ _ c.in-Under.is

pub returns-in-Outside : goal.returns-in-Outside
returns-in-Outside c =
    λ s.
    emits_nothing c.args.range.room _ 0 (ap (λ (es : List Entry). listed es c.args.range.first c.args.range.last)
    (head_none s (c.enter-head.ensures s) c.in-Outside.is))

pub returns-in-HeadEntry : goal.returns-in-HeadEntry
returns-in-HeadEntry c =
    λ s.
    subst (λ (es : List Entry). Emits c.args.range.room (listed es c.args.range.first c.args.range.last) c.args.buffer.now 0
    c.offer.new.buffer c.offer.result) (sym (head_lone s
    (c.enter-head.ensures s) _
    c.in-HeadEntry.is))
    c.offer.ensures

pub returns-in-Under : goal.returns-in-Under
returns-in-Under c =
    λ s.
    subst (λ (es : List Entry). Emits c.args.range.room (listed es c.args.range.first c.args.range.last) c.args.buffer.now 0
    c.visit_node.new.buffer c.visit_node.result) (head_all s
    (c.enter-head.ensures s) _ _
    c.in-Under.is)
    (c.visit_node.ensures s)
