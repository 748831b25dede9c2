-- The list and the places that the words stand for: read off each block by itself, with no way down. And the test for
-- well-formed words.
use Rattle.std.specs.Prelude.{ℕ, zero, suc, ◌-◌, ◌/◌, Bool, List, [], leb, eqb, length, get_or}
use Rattle.std.proofs.Math.Option.{Option, none, some}
use Rattle.blocks.specs.Choice.{pick, both}
use Rattle.blocks.specs.Lists.{up_to, equal}
use Rattle.assoc_keys.specs.Number.{key_at}
use Rattle.assoc_tree.specs.Keys.{Item, item, insert, is_sorted_from}
use Rattle.assoc_tree.specs.Parts.{Part, part, same, has, parts}
use Rattle.blocks.specs.Placing.{is_placed}
use Rattle.assoc_layout.specs.Words.{Places, anchor_words, block_words, max_blocks, pool_words, place, tier_field, skip_field, value_field, base_field, render}

module _ (ws : List ℕ) where
  abbrev pub word : ℕ → ℕ → ℕ
  word m f = get_or ws (place m f) 0

  abbrev pub base_at : ℕ → ℕ
  base_at m = key_at ws (place m base_field)

  abbrev pub place_in : ℕ → Option Part
  place_in m =
      pick (eqb (word m tier_field) 0) none (some (part (word m tier_field - 1) (word m skip_field) (base_at m)))

  abbrev pub places_of : ℕ → Places
  places_of n = up_to place_in 0 n

  -- the leaves among the first n blocks
  abbrev pub leaves_to : ℕ → List Item
  leaves_to zero = []
  leaves_to (suc m) =
      pick (eqb (word m tier_field) 1) (insert (item (base_at m) (word m value_field)) (leaves_to m)) (leaves_to m)

  abbrev pub list_of : ℕ → List Item
  list_of n = leaves_to n

-- how many blocks a length makes room for, and whether it is a pool's (R352)
abbrev pub block_count : List ℕ → ℕ
block_count ws = (length ws - anchor_words) / block_words

abbrev pub is_sized : List ℕ → Bool
is_sized ws =
    let n = block_count ws in both (eqb (length ws) (pool_words n)) (both (leb 1 n) (leb n max_blocks))

-- R359, as a test: the list and the places are read off the words, and every word compared
unfoldable pub is_well_formed : ℕ → List ℕ → Bool
is_well_formed n ws =
    both (is_sorted_from 0 (list_of ws n))
    (both (is_placed same n (length (parts (list_of ws n))) (has (list_of ws n)) (places_of ws n))
    (equal ws (render (list_of ws n) (places_of ws n) n)))
