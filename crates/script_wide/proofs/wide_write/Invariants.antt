use Prim.Native.Nat.{ℕ, ◌-◌, ◌≤◌}
use mathlib.Core.Path.{◌≡◌}
use mathlib.Core.List.{List}
use lib.ListN.{length}
use Rattle.layout.specs.Words.{pool_words}
use Rattle.script_table.specs.Table.{Wrote}
use Rattle.script_wide.specs.Going.{WideBy}
use Rattle.script_wide.proofs.wide_write.Given as goal

abbrev pub invariant-loop-q : goal.invariant-loop-q
invariant-loop-q l = (l.m ≤ l.n) × (length l.out ≡ length l.initial.out) × ((ws' : List ℕ) → WideBy l.pool l.rows l.nums l.map ws' →
    Wrote l.pool ws' (pool_words l.initial.m) (pool_words l.m) l.initial.t l.t l.initial.out l.out)

abbrev pub decreases-loop-q : goal.decreases-loop-q
decreases-loop-q l = l.n - l.m
