use Prim.Native.Nat.{ℕ, ◌+◌, ◌*◌, ◌-◌, ◌≤◌}
use mathlib.Core.Path.{◌≡◌}
use mathlib.Core.List.{List}
use lib.ListN.{length}
use Rattle.layout.specs.Words.{pool_words}
use Rattle.script.specs.Script.{script}
use Rattle.script_table.specs.Table.{Tables}
use Rattle.script_table.proofs.TableLaws.{after}
use Rattle.script_table.proofs.table_length.Given as goal

abbrev pub invariant-loop-m : goal.invariant-loop-m
invariant-loop-m l = (l.from ≤ l.n) × (l.k ≤ 8 + 140 * l.from) × ((ws' : List ℕ) → Tables l.pool l.rows l.nums ws' l.n → l.k + length
    (after l.pool ws' (length l.pool) (pool_words l.from)) ≡ length (script l.pool ws'))

abbrev pub decreases-loop-m : goal.decreases-loop-m
decreases-loop-m l = l.n - l.from
