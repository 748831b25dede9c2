-- Well-formed words (document 01: sound).
use Rattle.std.specs.Prelude.{ℕ, ◌≤◌, ◌≡◌, List, length}
use Rattle.model.specs.declared.Entry.{Entry}
use Rattle.model.specs.Model.{Valid}
use Rattle.tree.specs.Slots.{Numbering}
use Rattle.layout.specs.Words.{max_nodes, pool_words}
use Rattle.layout.specs.Places.{Places, Placed, number_in, render}

-- R33: a list and places that prescribe the words, in a pool of n nodes
pub record WellFormed (ws : List ℕ) : Type 0 where
  pub n : ℕ
  pub list : List Entry
  pub places : Places
  pub least : 1 ≤ n
  pub most : n ≤ max_nodes
  pub valid : Valid list
  pub placed : Placed n list places
  pub words_are : ws ≡ render list places n

-- the numbers of its nodes
abbrev pub num : {ws : List ℕ} → WellFormed ws → Numbering
num s = number_in s.places

-- the length is that of a pool of n nodes (R27)
pub record Sized (n : ℕ) (ws : List ℕ) : Type 0 where
  pub size : length ws ≡ pool_words n
  pub least : 1 ≤ n
  pub most : n ≤ max_nodes

-- the words are those that the list prescribes, with its nodes at these places among n
pub record Prescribed (n : ℕ) (l : List Entry) (os : Places) (ws : List ℕ) : Type 0 where
  pub valid : Valid l
  pub placed : Placed n l os
  pub words_are : ws ≡ render l os n
