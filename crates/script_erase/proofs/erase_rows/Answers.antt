use mathlib.Core.Path.{sym, ◌∙◌}
use native.Mathlib.Omega.{arith}
use Rattle.model.specs.Model.{erase}
use Rattle.script_erase.specs.Erased.{Erases}
use Rattle.script_erase.proofs.LandedLaws.{tables_landed, landed_empty, top_there, tables_put, erases_list}
use Rattle.script_erase.proofs.erase_rows.Goals as goal

pub returns-then-filled_of-eq0 : goal.returns-then-filled_of-eq0
returns-then-filled_of-eq0 c =
    λ s l b v.
    let E : Erases s c.args.i c.args.order c.args.top l =
    record { standing = (c.requires.path_there s).1; there = (c.requires.path_there s).0; becomes = b; valid = v } in
    let w = c.sweep_path.ensures s l E in
    tables_landed s E w.anchored (landed_empty s E w.lowered c.requires.order_le_max_order.2 (sym c.filled_of.ensures ∙ c.if-filled_of-eq0.true) w.head_is)

pub lower_head-w-requires-clause-lowering : goal.lower_head-w-requires-clause-lowering
lower_head-w-requires-clause-lowering c =
    let E : Erases c.requires.well_formed c.args.i c.args.order c.args.top (erase c.requires.well_formed.list c.args.i) =
    erases_list c.requires.well_formed (c.requires.path_there c.requires.well_formed).0 (c.requires.path_there c.requires.well_formed).1 in
    let w = c.sweep_path.ensures c.requires.well_formed (erase c.requires.well_formed.list c.args.i) E in
    record {
      formed = c.requires.well_formed;
      list = erase c.requires.well_formed.list c.args.i;
      erases = E;
      lowered = w.lowered;
      there = top_there c.requires.well_formed E w.lowered c.requires.order_le_max_order.2 (λ q. c.if-filled_of-eq0.false (c.filled_of.ensures ∙ q));
    }

pub returns : goal.returns
returns c =
    λ s l b v.
    let E : Erases s c.args.i c.args.order c.args.top l =
    record { standing = (c.requires.path_there s).1; there = (c.requires.path_there s).0; becomes = b; valid = v } in
    let w = c.sweep_path.ensures s l E in
    tables_put s E w.anchored c.lower_head-w.ensures.by_index
    (c.lower_head-w.ensures.landed s l E w.lowered (top_there s E w.lowered c.requires.order_le_max_order.2 (λ q. c.if-filled_of-eq0.false (c.filled_of.ensures ∙ q))))
    (omega (
      arith,
      c.requires.row_count_in_bounds.0,
      c.sweep_path.auto.rows,
      c.lower_head-w.auto.rows,
    ))
