-- Well-formed words of a pool of names (document 01: sound).
use Rattle.std.specs.Prelude.{ℕ, ◌≤◌, ◌≡◌, List}
use Rattle.assoc_tree.specs.Keys.{Item, Sorted}
use Rattle.assoc_tree.specs.Parts.{Part, has}
use Rattle.blocks.specs.Placing.{Placed}
use Rattle.assoc_layout.specs.Words.{Places, max_blocks, number_in, render}

-- R359: a list and places that prescribe the words, in a pool of n blocks
pub record WellFormed (ws : List ℕ) : Type 0 where
  pub n : ℕ
  pub list : List Item
  pub places : Places
  pub least : 1 ≤ n
  pub most : n ≤ max_blocks
  pub valid : Sorted 0 list
  pub placed : Placed n (has list) places
  pub words_are : ws ≡ render list places n

-- the numbers of its parts
abbrev pub num : {ws : List ℕ} → WellFormed ws → Part → ℕ
num s = number_in s.places
