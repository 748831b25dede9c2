-- What stands at each place after a node is cleared.
use Prim.Native.Nat.{ℕ, ◌≤◌, ◌<◌}
use mathlib.Core.Path.{◌≡◌}
use mathlib.Core.List.{List}
use lib.ListN.{length, get_or}
use Rattle.words.proofs.FillLaws.{length_filled, filled_before, filled_after, filled_in_lem}
use Rattle.layout.specs.Words.{pool_words, node_words, node_end}
use Rattle.layout.specs.Fill.{cleared}

module _ (ws : List ℕ) (m : ℕ) where
  pub length_cleared : length (cleared ws m) ≡ length ws
  length_cleared = length_filled ws (pool_words m) 0 node_words

  pub cleared_before : (j : ℕ) → j < pool_words m → get_or (cleared ws m) j 0 ≡ get_or ws j 0
  cleared_before = filled_before ws (pool_words m) 0 node_words

  pub cleared_after : (j : ℕ) → node_end m ≤ j → get_or (cleared ws m) j 0 ≡ get_or ws j 0
  cleared_after = filled_after ws (pool_words m) 0 node_words

  pub cleared_in : node_end m ≤ length ws → (j : ℕ) → pool_words m ≤ j → j < node_end m → get_or (cleared ws m) j 0 ≡ 0
  cleared_in h j = filled_in_lem ws (pool_words m) 0 node_words j h
