-- `finish`: the step that stops at the slot of node n towards p.
use mathlib.Core.Logic.{inl, inr}
use mathlib.Core.Path.{sym, ap, ◌∙◌}
use Rattle.layout.specs.WellFormed.{WellFormed, num}
use Rattle.lookup.specs.Find.{entry_turn}
use Rattle.lookup.proofs.WordLaws.{node_fits_lem}
use Rattle.lookup.proofs.WayLaws.{is_node_lem, is_gap, Shown, shown_entry, turn_none, turn_node}
use Rattle.lookup.proofs.find.finish.Goals as goal

shown : (c : goal.In-Shows) (s : WellFormed c.args.pool.now) →
    Shown s.list (num s) c.args.filter
    c.args.last c.args.p
    c.args.v c.args.n c.in-Shows.c
shown c s = shown_entry s _ _ _ (c.look-k.ensures s) c.in-Shows.is

shown_2 : (c : goal.After-entry_at) (s : WellFormed c.args.pool.now) →
    Shown s.list (num s) c.args.filter
    c.args.last c.args.p
    c.args.v c.args.n c.in-Shows.c
shown_2 c s = shown_entry s _ _ _ (c.look-k.ensures s) c.in-Shows.is

shown_3 : (c : goal.After-consider) (s : WellFormed c.args.pool.now) →
    Shown s.list (num s) c.args.filter
    c.args.last c.args.p
    c.args.v c.args.n c.in-Shows.c
shown_3 c s = shown_entry s _ _ _ (c.look-k.ensures s) c.in-Shows.is

pub entry_at-requires-clause-n_in_bounds : goal.entry_at-requires-clause-n_in_bounds
entry_at-requires-clause-n_in_bounds c =
    let s = c.requires.well_formed in
    let w = shown c s in
    (node_fits_lem s w.at_node_lem).0

pub entry_at-requires-clause-v_bound : goal.entry_at-requires-clause-v_bound
entry_at-requires-clause-v_bound c =
    let s = c.requires.well_formed in
    let w = shown c s in
    w.small

pub consider-requires-clause-order_le_max_order : goal.consider-requires-clause-order_le_max_order
consider-requires-clause-order_le_max_order c =
    let s = c.requires.well_formed in
    let w = shown_2 c s in
    let e = c.entry_at.ensures s w.entry w.at_node_lem w.stands in
    rw e w.order_le

pub consider-requires-clause-order_bound : goal.consider-requires-clause-order_bound
consider-requires-clause-order_bound c =
    let s = c.requires.well_formed in
    let w = shown_2 c s in
    let e = c.entry_at.ensures s w.entry w.at_node_lem w.stands in
    rw e w.ends

pub returns-in-Gap : goal.returns-in-Gap
returns-in-Gap c =
    λ s. elim c.in-Gap.is [
      | inl e ↦ (let (t, q) = is_gap (c.look-k.ensures s) e in c.pass.ensures ∙ sym (turn_none s.list _ _ _ _ t q))
      | inr x ↦ (let (t, q) = is_node_lem _ (c.look-k.ensures s) x.1 in c.pass.ensures ∙ sym (turn_node s.list _ _ _ _ t))
    ]

pub returns-in-Shows : goal.returns-in-Shows
returns-in-Shows c =
    λ s.
    let w = shown_3 c s in
    c.consider.ensures ∙ ap (entry_turn c.args.filter
    c.args.last)
    (c.entry_at.ensures s w.entry w.at_node_lem w.stands) ∙ sym w.turn_is
