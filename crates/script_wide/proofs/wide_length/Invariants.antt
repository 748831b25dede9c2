use Prim.Native.Nat.{ℕ, ◌+◌, ◌*◌, ◌-◌, ◌≤◌}
use mathlib.Core.List.{List}
use Rattle.layout.specs.Words.{pool_words}
use Rattle.script_wide.specs.Freed.{Counted}
use Rattle.script_wide.specs.Going.{WideBy}
use Rattle.script_wide.proofs.wide_length.Given as goal

abbrev pub invariant-loop-q : goal.invariant-loop-q
invariant-loop-q l = (l.m ≤ l.n) × (l.k ≤ 8 + 140 * l.m) × ((ws' : List ℕ) → WideBy l.pool l.rows l.nums l.map ws' →
    Counted l.pool ws' 0 (pool_words l.m) 0 l.k)

abbrev pub decreases-loop-q : goal.decreases-loop-q
decreases-loop-q l = l.n - l.m
