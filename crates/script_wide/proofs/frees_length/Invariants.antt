use Prim.Native.Nat.{ℕ, ◌+◌, ◌*◌, ◌-◌, ◌≤◌}
use mathlib.Core.List.{List}
use Rattle.layout.specs.Words.{pool_words}
use Rattle.script_wide.specs.Freed.{AllFreed, Counted}
use Rattle.script_wide.proofs.frees_length.Given as goal

abbrev pub invariant-loop-q : goal.invariant-loop-q
invariant-loop-q l = (l.m ≤ l.x) × (l.x ≤ l.end) × (l.y ≤ 8 + 140 * l.x) × ((ws' : List ℕ) → AllFreed l.pool l.map ws' l.m l.end →
    Counted l.pool ws' (pool_words l.m) (pool_words l.x) l.k l.y)

abbrev pub decreases-loop-q : goal.decreases-loop-q
decreases-loop-q l = l.end - l.x
