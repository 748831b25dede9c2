use native.Mathlib.Omega.{arith}
use native.Mathlib.Nat.{le_refl}
use mathlib.Core.Option.{none}
use Rattle.layout.specs.WellFormed.{num}
use Rattle.script_rows.proofs.EditsLaws.{edits_old}
use Rattle.script_same.proofs.SameLaws.{first_is, roomy, whole}
use Rattle.script_erase.proofs.LandedLaws.{swept_path}
use Rattle.script_erase.proofs.sweep_path.Goals as goal

pub walk_path-d-requires-clause-h_value : goal.walk_path-d-requires-clause-h_value
walk_path-d-requires-clause-h_value c =
    λ s. let pt = c.requires.path_there s in
    (pt.top_is, pt.there c.args.top c.requires.order_le_max_order.2 (le_refl c.args.top), first_is s c.args.i c.args.order c.requires.order_le_max_order.2 pt c.node_number-first.ensures)

pub path_rows-requires-clause-roomy : goal.path_rows-requires-clause-roomy
path_rows-requires-clause-roomy c =
    let a
    = c.args in
    roomy c.requires.well_formed a.i a.order c.requires.order_le_max_order.2 (c.requires.path_there c.requires.well_formed) (c.walk_path-d.ensures c.requires.well_formed) c.requires.order_le_max_order.3
    (omega (arith, c.requires.row_count_in_bounds.2, c.walk_path-d.auto.path)) (omega (arith, c.requires.row_count_in_bounds.0))

pub returns : goal.returns
returns c =
    λ s l E.
    let w = whole s c.args.i c.args.order c.requires.order_le_max_order.2 E.there (c.walk_path-d.ensures s) in
    let ed = edits_old s E.becomes E.valid c.walk_path-d.new.path w in
    swept_path s E c.requires.order_le_max_order.2 c.requires.order_le_max_order.3 ed (λ u g q. c.path_rows.ensures s none l (num s) ed u g q)
    c.anchor_row.ensures c.sweep.ensures c.number_rows.ensures
