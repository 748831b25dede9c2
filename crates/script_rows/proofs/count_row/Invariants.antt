use Prim.Native.Nat.{◌≤◌}
use mathlib.Core.Path.{◌≡◌}
use Rattle.script_rows.proofs.RowWriteLaws.{filled_to}
use Rattle.script_rows.proofs.count_row.Given as goal

abbrev pub invariant-loop-j : goal.invariant-loop-j
invariant-loop-j l = (l.q ≤ l.j) × (l.q ≡ filled_to l.rows l.r l.j)
