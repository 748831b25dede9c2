-- The words of a pool of names: constants, each word of a block, places and rendering. An anchor and records of words:
-- blocks/specs/Records.
use Rattle.std.specs.Prelude.{ℕ, suc, ◌-◌, Bool, List, ltb, eqb, get_or}
use Rattle.std.proofs.Math.Option.{Option, none, some}
use Rattle.blocks.specs.Choice.{pick}
use Rattle.blocks.specs.Placing.{PlacesOf, number_of, allocate, prune}
use Rattle.blocks.specs.Records as R
use Rattle.assoc_keys.specs.Number.{word_of}
use Rattle.assoc_tree.specs.Keys.{Item, find}
use Rattle.assoc_tree.specs.Parts.{Part, part, same, size, block_of, slot, root, has, new_parts}

-- R352
abbrev pub anchor_words : ℕ
anchor_words = 2

abbrev pub block_words : ℕ
block_words = 24

abbrev pub max_blocks : ℕ
max_blocks = 16384

-- the words of a pool of n blocks, which is also where block n begins
abbrev pub pool_words : ℕ → ℕ
pool_words n = R.words_of anchor_words block_words n

-- field f of block n
abbrev pub place : ℕ → ℕ → ℕ
place n f = R.place anchor_words block_words n f

-- R353
abbrev pub root_word : ℕ
root_word = 1

-- R354: the fields of a block
abbrev pub tier_field : ℕ
tier_field = 0

abbrev pub skip_field : ℕ
skip_field = 1

abbrev pub value_field : ℕ
value_field = 2

abbrev pub base_field : ℕ
base_field = 3

abbrev pub slot_field : ℕ
slot_field = 8

-- what stands at each number of a block: a part of the tree, or a free one
abbrev pub Places : Type 0
Places = PlacesOf Part

abbrev pub object_of : Option Item → ℕ
object_of none = 0
object_of (some x) = x.object

module _ (l : List Item) (ν : Part → ℕ) where
  -- 0, or 1 + the number of a block
  abbrev pub ref : Option Part → ℕ
  ref none = 0
  ref (some p) = suc (ν p)

  abbrev pub is_leaf_part : Part → Bool
  is_leaf_part p = eqb p.tier 0

  abbrev pub is_node : Part → Bool
  is_node p = eqb p.skip 0

  -- R355: a leaf's object, the keys in a node's block
  abbrev pub value : Part → ℕ
  value p =
      pick (is_leaf_part p) (object_of (find p.base l)) (pick (is_node p) (size l p.tier (block_of p.tier p.base)) 0)

  -- R357: slot j
  abbrev pub slot_word : Part → ℕ → ℕ
  slot_word p j =
      pick (is_leaf_part p) 0
      (pick (is_node p) (ref (slot l p.tier (block_of p.tier p.base) j))
      (pick (eqb j 0) (suc (ν (part p.tier 0 p.base))) 0))

  -- R354; the base: R356
  abbrev pub field : Part → ℕ → ℕ
  field p f =
      pick (eqb f tier_field) (suc p.tier)
      (pick (eqb f skip_field) p.skip
      (pick (eqb f value_field) (value p)
      (pick (ltb f slot_field) (word_of p.base (f - base_field)) (slot_word p (f - slot_field)))))

  -- R358: a free block is all zeros
  abbrev pub field_at : Option Part → ℕ → ℕ
  field_at none f = 0
  field_at (some p) f = field p f

  -- R353
  abbrev pub anchor_word : ℕ → ℕ → ℕ
  anchor_word n i = pick (eqb i 0) n (ref (root l))

abbrev pub number_in : Places → Part → ℕ
number_in os p = number_of same p os

-- R350, R351: new parts take the lowest free numbers; then what is not in the tree leaves its number
abbrev pub new_places : List Item → List Item → Places → Places
new_places l l' os = prune (has l') (allocate os (new_parts l l'))

-- the fields of what stands at number m
abbrev pub fields_of : List Item → Places → ℕ → ℕ → ℕ
fields_of l os m f = field_at l (number_in os) (get_or os m none) f

-- all words that the list prescribes, with its parts at these places among n
abbrev pub render : List Item → Places → ℕ → List ℕ
render l os n = R.render anchor_words block_words (anchor_word l (number_in os) n) (fields_of l os) n
