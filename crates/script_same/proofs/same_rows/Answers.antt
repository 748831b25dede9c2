use native.Mathlib.Omega.{arith}
use native.Mathlib.Nat.{le_refl}
use Rattle.layout.specs.WellFormed.{num}
use Rattle.script_same.proofs.SameLaws.{first_is, roomy, same_edits, same_table}
use Rattle.script_same.proofs.same_rows.Goals as goal

pub walk_path-d-requires-clause-h_value : goal.walk_path-d-requires-clause-h_value
walk_path-d-requires-clause-h_value c =
    λ s. let pt = c.requires.path_there s in (
      pt.top_is,
      pt.there c.args.top c.requires.order_le_max_order.2 (le_refl c.args.top),
      first_is
          s c.args.at.base c.args.at.order c.requires.order_le_max_order.2 pt c.node_number-first.ensures,
    )

pub path_rows-requires-clause-roomy : goal.path_rows-requires-clause-roomy
path_rows-requires-clause-roomy c =
    roomy c.requires.well_formed c.args.at.base c.args.at.order c.requires.order_le_max_order.2 (c.requires.path_there c.requires.well_formed)
    (c.walk_path-d.ensures c.requires.well_formed) c.requires.order_le_max_order.3 (omega (
      arith,
      c.requires.row_count_in_bounds.2,
      c.walk_path-d.auto.path,
    ))
    (omega (arith, c.requires.row_count_in_bounds.0))

pub returns : goal.returns
returns c =
    λ s o l b v' we me sh hh sp.
    let pt = c.requires.path_there s in let w = c.walk_path-d.ensures s in
    same_table s c.args.at.base c.args.at.order c.requires.order_le_max_order.2 pt w b v' sh hh sp
    (λ u g q. c.path_rows.ensures s o l (num s)
    (same_edits s c.args.at.base c.args.at.order c.requires.order_le_max_order.2 pt w b v' sh hh sp we me) u g q)
    c.anchor_row.ensures c.number_rows.ensures
