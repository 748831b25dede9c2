-- the rows below tier u are there
use mathlib.Core.Path.{◌≡◌}
use mathlib.Core.List.{List}
use Prim.Native.Nat.{ℕ, ◌≤◌, ◌<◌}
use lib.ListN.{length, get_or}
use Rattle.model.specs.declared.Entry.{Entry}
use Rattle.tree.specs.Slots.{Numbering}
use Rattle.layout.specs.Words.{pool_words}
use Rattle.plan.specs.declared.Heads.{Heads}
use Rattle.script_new.specs.New.{chain_row}
use Rattle.script_new.specs.Chain.{Chains, ChainShown}
use Rattle.script_new.proofs.chain_rows.Given as goal

pub record Going (pool rows₀ chain : List ℕ) (heads : Heads) (low : ℕ) (rows : List ℕ) (u : ℕ) : Type 0 where
  pub from_low : low ≤ u
  pub same : length rows ≡ length rows₀
  pub before-are : (p : ℕ) → p < pool_words chain_row → get_or rows p 0 ≡ get_or rows₀ p 0
  pub shown : (l : List Entry) (μ : Numbering) → Chains pool heads chain l μ → (t : ℕ) → low ≤ t → t < u →
      ChainShown l μ rows heads.new t

abbrev pub invariant-loop-u : goal.invariant-loop-u
invariant-loop-u l = Going l.pool l.initial.rows l.chain l.heads l.low l.rows l.u
