-- the rows to tier u are copies
use mathlib.Core.Path.{◌≡◌}
use mathlib.Core.List.{List}
use Prim.Native.Nat.{ℕ, ◌≤◌}
use lib.ListN.{length}
use Rattle.script_rows.specs.Becomes.{Copied}
use Rattle.script_rows.proofs.begin_rows.Given as goal

pub record Going (pool path rows₀ : List ℕ) (v top : ℕ) (rows : List ℕ) (u : ℕ) : Type 0 where
  pub low : v ≤ u
  pub high : u ≤ top
  pub same : length rows ≡ length rows₀
  pub copied : Copied pool path v rows u

abbrev pub invariant-loop-u : goal.invariant-loop-u
invariant-loop-u l = Going l.pool l.path l.initial.rows l.v l.top l.rows l.u
