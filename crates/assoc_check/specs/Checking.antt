-- What the parts of the check promise, beside local's definitions.
use Rattle.std.specs.Prelude.{ℕ, suc, ◌+◌, ◌*◌, ◌-◌, ◌≤◌, ◌<◌, ◌≡◌, Bool, true, false, not, List, eqb, ltb, length, Option, Some, None}
use Rattle.blocks.specs.Choice.{both}
use Rattle.blocks.specs.Blocks.{count_to}
use Rattle.assoc_tree.specs.Parts.{block_of, full, slots}
use Rattle.assoc_tree.specs.Sums.{sum}
use Rattle.assoc_layout.specs.Words.{max_blocks, pool_words, tier_field}
use Rattle.assoc_layout.specs.Decode.{word, base_at, block_count, is_sized}
use Rattle.assoc_local.specs.Local.{skip_of, count_of, slot_at, keys_at, LeafIn, SlotOk}

-- the words are those of n blocks, and m is one of them
pub record Block (ws : List ℕ) (n m : ℕ) : Type 0 where
  pub size : length ws ≡ pool_words n
  pub few : n ≤ max_blocks
  pub there : m < n

-- the words are those of n blocks
pub record Sized (ws : List ℕ) (n : ℕ) : Type 0 where
  pub size : length ws ≡ pool_words n
  pub few : n ≤ max_blocks

-- the number of blocks that the length makes room for; none if it is not a pool's
pub record Room (ws : List ℕ) (n : ℕ) : Type 0 where
  pub is-pool : is_sized ws ≡ true
  pub count : n ≡ block_count ws
  pub sized : Sized ws n

abbrev pub Counts : List ℕ → Option ℕ → Type 0
Counts ws None = is_sized ws ≡ false
Counts ws (Some n) = Room ws n

module _ (ws : List ℕ) where
  -- block m is one of the first n and free: its first word is 0
  abbrev pub free_to : ℕ → ℕ → Bool
  free_to n m = both (ltb m n) (eqb (word ws m tier_field) 0)

  -- a shortcut m leads to block x
  pub record CutTo (m x : ℕ) : Type 0 where
    pub same_tier : word ws x tier_field ≡ word ws m tier_field
    pub is_node_lem : skip_of ws x ≡ 0
    pub many : full < count_of ws x
    pub same_base : base_at ws x ≡ base_at ws m

  -- the base of block x lies in the block of slot j of a node m of tier v + 1
  abbrev pub InSlot : ℕ → ℕ → ℕ → ℕ → Type 0
  InSlot m v j x = block_of v (base_at ws x) ≡ slots * block_of (suc v) (base_at ws m) + j

  module _ (n m : ℕ) where
    -- the leaf in slot j is above the one before it
    abbrev pub Rises : ℕ → Type 0
    Rises j = base_at ws (slot_at ws m j - 1) < base_at ws (slot_at ws m (suc j) - 1)

    -- the first k slots have leaves, rising
    pub record Leaves (k : ℕ) : Type 0 where
      pub leaves : (j : ℕ) → j < k → LeafIn ws n m j
      pub rising : (j : ℕ) → suc j < k → Rises j

    -- slot j is filled
    abbrev pub is_filled : ℕ → Bool
    is_filled j = not (eqb (slot_at ws m j) 0)

    -- the first k slots of a node with more than 16 keys, with so many keys below them, so many of them filled
    pub record Spread (k total filled : ℕ) : Type 0 where
      pub slot : (j : ℕ) → j < k → SlotOk ws n m j
      pub total_is : total ≡ sum (λ j. keys_at ws (slot_at ws m j)) k
      pub most : total ≤ count_of ws m
      pub filled_is : filled ≡ count_to is_filled k
