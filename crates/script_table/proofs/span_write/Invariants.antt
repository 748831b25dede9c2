use Prim.Native.Nat.{ℕ, ◌+◌}
use mathlib.Core.Path.{◌≡◌}
use mathlib.Core.List.{List}
use lib.ListN.{length}
use Rattle.script_table.specs.Table.{Agrees, Wrote}
use Rattle.script_table.proofs.span_write.Given as goal

abbrev pub invariant-loop-j : goal.invariant-loop-j
invariant-loop-j l = (length l.out ≡ length l.initial.out) × ((ws' : List ℕ) → Agrees ws' l.rows l.p l.q l.c → Wrote l.pool ws' l.p
    (l.p + l.j) l.t l.y l.initial.out l.out)
