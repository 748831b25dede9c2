-- `prune_up`: frees node first, which lost the entry that covered i, and those over it, as far as they are empty.
use Prim.Native.Nat.{ℕ, ◌-◌, ◌<◌}
use mathlib.Core.Path.{◌≡◌}
use mathlib.Core.List.{List}
use lib.ListN.{length, get_or}
use Rattle.tree.specs.Tree.{top_tier}
use Rattle.layout.specs.Words.{max_nodes, last_place, count_word}
use Rattle.layout.specs.WellFormed.{WellFormed}
use Rattle.freenodes.specs.FreeNodes.{FreeMap}
use Rattle.erase.specs.Leaving.{Cut, Cutting}
use Rattle.erase.proofs.prune_up.Given as goal

pub record Bounds (pool₀ pool : List ℕ) (n v : ℕ) : Type 0 where
  pub node_in : last_place n < length pool
  pub node_lt : n < max_nodes
  pub tier-lt : v < top_tier
  pub counted : n < get_or pool count_word 0
  pub same : length pool ≡ length pool₀

abbrev pub Kept : (pool₀ map₀ : List ℕ) (i first tier : ℕ) (pool map : List ℕ) (n v : ℕ) → Type 0
Kept pool₀ map₀ i first tier pool map n v =
    Bounds pool₀ pool n v × Cutting i v n pool × (length map ≡ length map₀) × FreeMap pool map ×
    ((ws : List ℕ) (s : WellFormed ws) → Cut s i tier first pool₀ → Cut s i v n pool)

abbrev pub invariant-loop-i : goal.invariant-loop-i
invariant-loop-i l = Kept l.initial.pool l.initial.map l.i l.first l.tier l.pool l.map l.n l.v

abbrev pub decreases-loop-i : goal.decreases-loop-i
decreases-loop-i l = top_tier - l.v
