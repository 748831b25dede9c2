use Prim.Native.Nat.{ℕ, ◌-◌, ◌≤◌}
use mathlib.Core.Path.{◌≡◌}
use mathlib.Core.List.{List}
use lib.ListN.{length}
use Rattle.layout.specs.Words.{pool_words}
use Rattle.script_table.specs.Table.{Wrote}
use Rattle.script_wide.specs.Freed.{AllFreed}
use Rattle.script_wide.proofs.frees_write.Given as goal

abbrev pub invariant-loop-q : goal.invariant-loop-q
invariant-loop-q l = (l.m ≤ l.x) × (l.x ≤ l.end) × (length l.out ≡ length l.initial.out) × ((ws' : List ℕ) → AllFreed l.pool l.map ws' l.m l.end →
    Wrote l.pool ws' (pool_words l.m) (pool_words l.x) l.t l.y l.initial.out l.out)

abbrev pub decreases-loop-q : goal.decreases-loop-q
decreases-loop-q l = l.end - l.x
