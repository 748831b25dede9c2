-- the rows from the lowest node to tier u are there, and those above it as they were
use mathlib.Core.Path.{◌≡◌}
use mathlib.Core.List.{List}
use mathlib.Core.Option.{Option}
use Prim.Native.Nat.{ℕ, ◌+◌, ◌-◌, ◌/◌, ◌≤◌}
use lib.ListN.{length, get_or}
use Rattle.model.specs.declared.Entry.{Entry}
use Rattle.tree.specs.Tree.{slot_bits}
use Rattle.tree.specs.Slots.{Numbering}
use Rattle.layout.specs.Words.{node_end}
use Rattle.script_rows.specs.Becomes.{Shown, Begun, Turns, Ready}
use Rattle.script_rows.proofs.put_rows.Given as goal

pub record Going (rows₀ path : List ℕ) (top i u₀ : ℕ) (rows : List ℕ) (u : ℕ) : Type 0 where
  pub from-1 : 1 ≤ u₀
  pub low : u₀ ≤ u
  pub high : u ≤ top
  pub room : Ready rows path (u₀ - 1) top
  pub same : length rows ≡ length rows₀
  pub above : (p : ℕ) → node_end u ≤ p → get_or rows p 0 ≡ get_or rows₀ p 0
  pub shown : (l : List Entry) (k w m : ℕ) (o : Option Entry) (l' : List Entry) (μ : Numbering) →
      Turns l i k w m path top o l' μ → k / slot_bits + 1 ≡ u₀ → Begun i k l' μ rows₀ top u₀ → Shown i k l' μ rows₀ top u₀ →
      (t : ℕ) → u₀ ≤ t → t ≤ u → Shown i k l' μ rows top t

abbrev pub invariant-loop-u : goal.invariant-loop-u
invariant-loop-u l = Going l.initial.rows l.path l.top l.i l.initial.u l.rows l.u
