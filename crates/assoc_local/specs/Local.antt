-- What each block of a pool must show by itself, with the blocks that its slots name; and that every block in use is named.
-- Together these say that the words are well-formed (proofs/SoundLaws).
use Rattle.std.specs.Prelude.{ℕ, suc, ◌+◌, ◌*◌, ◌-◌, ◌^◌, ◌≤◌, ◌<◌, ◌≡◌, true, List, eqb, length, get_or}
use Rattle.blocks.specs.Choice.{pick}
use Rattle.assoc_tree.specs.Keys.{item, is_item}
use Rattle.assoc_tree.specs.Parts.{tier_bits, block_of, full, slots, top_tier}
use Rattle.assoc_layout.specs.Words.{block_words, max_blocks, pool_words, root_word, tier_field, skip_field, value_field, slot_field}
use Rattle.assoc_layout.specs.Decode.{word, base_at}
use Rattle.assoc_keys.specs.Number.{Words}
use Rattle.assoc_tree.specs.Sums.{sum}

module _ (ws : List ℕ) where
  abbrev pub tier_of : ℕ → ℕ
  tier_of m = word ws m tier_field - 1

  abbrev pub skip_of : ℕ → ℕ
  skip_of m = word ws m skip_field

  abbrev pub count_of : ℕ → ℕ
  count_of m = word ws m value_field

  -- the tier of its upper end
  abbrev pub top_of : ℕ → ℕ
  top_of m = tier_of m + skip_of m

  abbrev pub slot_at : ℕ → ℕ → ℕ
  slot_at m j = word ws m (slot_field + j)

  -- what slot word r leads to, as the blocks say: how many keys
  abbrev pub keys_under : ℕ → ℕ
  keys_under m =
      pick (eqb (word ws m tier_field) 1) 1 (pick (eqb (skip_of m) 0) (count_of m) (count_of (slot_at m 0 - 1)))

  abbrev pub keys_at : ℕ → ℕ
  keys_at r = pick (eqb r 0) 0 (keys_under (r - 1))

  module _ (n : ℕ) where
    -- in use
    pub record Live (m : ℕ) : Type 0 where
      pub below : m < n
      pub used : 1 ≤ word ws m tier_field

    -- slot j of block p leads to block x
    pub record Names (p j x : ℕ) : Type 0 where
      pub slot : j < slots
      pub is : slot_at p j ≡ suc x
      pub below : x < n

    -- a node or shortcut
    pub record Head (m : ℕ) : Type 0 where
      pub low : 2 ≤ word ws m tier_field
      pub high : top_of m ≤ top_tier
      pub aligned : base_at ws m ≡ block_of (tier_of m) (base_at ws m) * 2 ^ tier_bits (tier_of m)

    pub record LeafOk (m : ℕ) : Type 0 where
      pub tier : word ws m tier_field ≡ 1
      pub skip : skip_of m ≡ 0
      pub good : is_item (item (base_at ws m) (count_of m)) ≡ true
      pub empty : (j : ℕ) → j < slots → slot_at m j ≡ 0

    pub record CutOk (m : ℕ) : Type 0 where
      pub head : Head m
      pub skip : 1 ≤ skip_of m
      pub count : count_of m ≡ 0
      pub node : ℕ
      pub names : Names m 0 node
      pub same_tier : word ws node tier_field ≡ word ws m tier_field
      pub is_node_lem : skip_of node ≡ 0
      pub same_base : base_at ws node ≡ base_at ws m
      pub many : full < count_of node
      pub empty : (j : ℕ) → 1 ≤ j → j < slots → slot_at m j ≡ 0

    -- slot j of node m has a leaf of its block
    pub record LeafIn (m j : ℕ) : Type 0 where
      pub node : ℕ
      pub names : Names m j node
      pub tier : word ws node tier_field ≡ 1
      pub within : block_of (tier_of m) (base_at ws node) ≡ block_of (tier_of m) (base_at ws m)

    pub record PackedOk (m : ℕ) : Type 0 where
      pub head : Head m
      pub skip : skip_of m ≡ 0
      pub some_key : 1 ≤ count_of m
      pub few : count_of m ≤ full
      pub leaves : (j : ℕ) → j < count_of m → LeafIn m j
      pub rising : (j : ℕ) → suc j < count_of m → base_at ws (slot_at m j - 1) < base_at ws (slot_at m (suc j) - 1)
      pub empty : (j : ℕ) → count_of m ≤ j → j < slots → slot_at m j ≡ 0

    -- slot j of a node with more than 16 keys: nothing; a leaf; a node of two keys or more, or a shortcut, whose upper end
    -- is the slot's block
    pub record Lies (m j x : ℕ) : Type 0 where
      pub names : Names m j x
      pub within : block_of (tier_of m - 1) (base_at ws x) ≡ slots * block_of (tier_of m) (base_at ws m) + j

    pub data SlotOk (m j : ℕ) : Type 0 where
      nothing : slot_at m j ≡ 0 → SlotOk m j
      a_leaf : (x : ℕ) → Lies m j x → word ws x tier_field ≡ 1 → SlotOk m j
      a_branch : (x : ℕ) → Lies m j x → 2 ≤ word ws x tier_field → top_of x ≡ tier_of m - 1 → 2 ≤ keys_under x → SlotOk m j

    pub record SpreadOk (m : ℕ) : Type 0 where
      pub head : Head m
      pub skip : skip_of m ≡ 0
      pub many : full < count_of m
      pub slot : (j : ℕ) → j < slots → SlotOk m j
      pub total : sum (λ j. keys_at (slot_at m j)) slots ≡ count_of m
      pub one : ℕ
      pub other : ℕ
      pub one_slot : one < slots
      pub other_slot : other < slots
      pub apart : one ≡ other → ⊥
      pub one_filled : 1 ≤ slot_at m one
      pub other_filled : 1 ≤ slot_at m other

    pub data BlockOk (m : ℕ) : Type 0 where
      free : ((f : ℕ) → f < block_words → word ws m f ≡ 0) → BlockOk m
      leaf : LeafOk m → BlockOk m
      cut : CutOk m → BlockOk m
      packed : PackedOk m → BlockOk m
      spread : SpreadOk m → BlockOk m

    -- something leads to block m
    pub data Named (m : ℕ) : Type 0 where
      by_root : get_or ws root_word 0 ≡ suc m → Named m
      by_slot : (p j : ℕ) → Live p → Names p j m → Named m

    -- the root word leads to a node or shortcut over all keys
    pub record RootOk (r : ℕ) : Type 0 where
      pub below : r < n
      pub low : 2 ≤ word ws r tier_field
      pub wide : top_of r ≡ top_tier

    pub record PoolOk : Type 0 where
      pub fit : Words ws
      pub long : length ws ≡ pool_words n
      pub count : get_or ws 0 0 ≡ n
      pub least : 1 ≤ n
      pub most : n ≤ max_blocks
      pub block : (m : ℕ) → m < n → BlockOk m
      pub root : (r : ℕ) → get_or ws root_word 0 ≡ suc r → RootOk r
      pub named : (m : ℕ) → Live m → Named m
