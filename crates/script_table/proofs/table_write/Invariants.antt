-- from the anchor to the first node with a row
use Prim.Native.Nat.{ℕ, ◌-◌, ◌≤◌}
use mathlib.Core.Path.{◌≡◌}
use mathlib.Core.List.{List}
use lib.ListN.{length}
use Rattle.layout.specs.Words.{pool_words}
use Rattle.script_table.specs.Table.{Tables, Wrote}
use Rattle.script_table.proofs.table_write.Given as goal

abbrev pub invariant-loop-m : goal.invariant-loop-m
invariant-loop-m l = (l.from ≤ l.n) × (length l.out ≡ length l.initial.out) × ((ws' : List ℕ) → Tables l.pool l.rows l.nums ws' l.n → Wrote l.pool ws'
    (pool_words l.initial.from) (pool_words l.from) l.initial.t l.t l.initial.out l.out)

abbrev pub decreases-loop-m : goal.decreases-loop-m
decreases-loop-m l = l.n - l.from
