use Prim.Native.Nat.{ℕ, ◌+◌, ◌*◌, ◌≤◌}
use mathlib.Core.Path.{◌≡◌}
use mathlib.Core.List.{List}
use lib.ListN.{length}
use Rattle.script_table.specs.Table.{Agrees}
use Rattle.script_table.proofs.TableLaws.{after}
use Rattle.script_table.proofs.span_length.Given as goal

abbrev pub invariant-loop-t : goal.invariant-loop-t
invariant-loop-t l = (l.y ≤ l.k + 2 * l.t) × ((ws' : List ℕ) → Agrees ws' l.rows l.p l.q l.c → l.y + length
    (after l.pool ws' (length l.pool) (l.p + l.t)) ≡ l.k + length (after l.pool ws' (length l.pool) l.p))
