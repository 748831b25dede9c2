use mathlib.Core.Path.{◌≡◌, ap, ◌∙◌}
use native.Mathlib.Omega.{arith}
use Rattle.tree.specs.Tree.{slots}
use Rattle.script_rows.proofs.RowWriteLaws.{filled_to}
use Rattle.script_rows.proofs.count_row.Goals as goal

pub returns : goal.returns
returns c =
    let e : c.loop-j.j ≡ slots = omega arith in c.loop-j.invariant.1 ∙ ap (filled_to c.args.rows.now
    c.args.r) e
