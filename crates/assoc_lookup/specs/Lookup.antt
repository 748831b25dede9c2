-- The way down to a key: one step on the words, and what it finds.
use Rattle.std.specs.Prelude.{ℕ, zero, suc, ◌+◌, ◌-◌, ◌%◌, ◌≤◌, ◌<◌, ◌≡◌, true, List, leb, eqb, get_or, length, Option, None, Some}
use Rattle.std.proofs.Math.Option.{Option as Found, none, some}
use Rattle.blocks.specs.Choice.{pick}
use Rattle.blocks.specs.Lists.{In}
use Rattle.assoc_tree.specs.Keys.{Item, find}
use Rattle.assoc_tree.specs.Parts.{Part, block_of, is_upper, branch, leaf, full, top_tier}
use Rattle.assoc_layout.specs.Words.{place, tier_field, skip_field, value_field, base_field, slot_field, pool_words, max_blocks}
use Rattle.assoc_keys.specs.Number.{key_at, key_words}
pub use Rattle.assoc_lookup.specs.declared.Step.{Step}
pub use Rattle.assoc_lookup.specs.declared.Step.TheVariants.{Leaf, Into}

-- ON THE WORDS
module _ (ws ks : List ℕ) where
  abbrev pub word : ℕ → ℕ → ℕ
  word m f = get_or ws (place m f) 0

  abbrev pub key_in : ℕ → ℕ
  key_in m = key_at ws (place m base_field)

  abbrev pub wanted : ℕ
  wanted = key_at ks 0

  -- at a leaf
  abbrev pub single_step : ℕ → Option Step
  single_step x = pick (eqb (block_of 0 (key_in x)) (block_of 0 wanted)) (Some (Leaf x)) None

  -- at a shortcut, whose lower end is of tier u
  abbrev pub cut_step : ℕ → ℕ → Option Step
  cut_step m u = pick (eqb (block_of u (key_in m)) (block_of u wanted)) (Some (Into (word m slot_field - 1) u)) None

  -- by a slot's word
  abbrev pub child_step : ℕ → ℕ → Option Step
  child_step r w =
      pick (eqb r 0) None (pick (eqb (word (r - 1) tier_field) 1) (single_step (r - 1)) (Some (Into (r - 1) w)))

  -- slots j, j + 1, .., k in all, of a node that holds leaves
  unfoldable pub packed_step : (m j k : ℕ) → Option Step
  packed_step m j zero = None
  packed_step m j (suc k) =
      let x = word m (slot_field + j) - 1 in
      pick (eqb (block_of 0 (key_in x)) (block_of 0 wanted)) (Some (Leaf x)) (packed_step m (suc j) k)

  -- at block m, whose upper end is of tier v
  abbrev pub step_of : (m v : ℕ) → Option Step
  step_of m v =
      pick (eqb (word m skip_field) 0)
      (pick (leb (word m value_field) full) (packed_step m 0 (word m value_field))
      (child_step (word m (slot_field + block_of (v - 1) wanted % 16)) (v - 1)))
      (cut_step m (v - word m skip_field))

-- x is the number of a block of the pool, and the key has its words
pub record HasBlock (ws ks : List ℕ) (x : ℕ) : Type 0 where
  pub n : ℕ
  pub size : length ws ≡ pool_words n
  pub few : n ≤ max_blocks
  pub key_size : length ks ≡ key_words
  pub there : x < n

-- the first slots of node m name blocks
pub record LeavesIn (ws ks : List ℕ) (m count : ℕ) : Type 0 where
  pub few : count ≤ full
  pub filled : (j : ℕ) → j < count → 1 ≤ word ws ks m (slot_field + j)
  pub blocks : (j : ℕ) → j < count → HasBlock ws ks (word ws ks m (slot_field + j) - 1)

-- what a step at block m reads can be read
pub record ReadyAt (ws ks : List ℕ) (m v : ℕ) : Type 0 where
  pub block : HasBlock ws ks m
  pub low : 1 ≤ v
  pub high : v ≤ top_tier
  pub skip_le : word ws ks m skip_field ≤ v
  pub cut : (word ws ks m skip_field ≡ 0 → ⊥) → 1 ≤ word ws ks m slot_field
  pub leaves : word ws ks m skip_field ≡ 0 → word ws ks m value_field ≤ full → LeavesIn ws ks m (word ws ks m value_field)
  pub child : word ws ks m skip_field ≡ 0 → full < word ws ks m value_field →
      1 ≤ word ws ks m (slot_field + block_of (v - 1) (key_at ks 0) % 16) →
      HasBlock ws ks (word ws ks m (slot_field + block_of (v - 1) (key_at ks 0) % 16) - 1)

-- WHAT A LOOK-UP FINDS
abbrev pub looked_for : Found Item → Option ℕ
looked_for none = None
looked_for (some x) = Some x.object

-- WHAT IT MEANS
-- m is the number of what leads to the keys in the block of k of tier v
pub record At (l : List Item) (ν : Part → ℕ) (v k m : ℕ) : Type 0 where
  pub item : Item
  pub inside : In item l
  pub over : block_of v item.key ≡ block_of v k
  pub upper : is_upper l v item.key ≡ true
  pub number : m ≡ ν (branch l v item.key)
  pub low : 1 ≤ v
  pub high : v ≤ top_tier

pub data StepOk (l : List Item) (ν : Part → ℕ) (k v : ℕ) : Option Step → Type 0 where
  is_nothing : find k l ≡ none → StepOk l ν k v None
  is_leaf : (x : Item) → find k l ≡ some x → StepOk l ν k v (Some (Leaf (ν (leaf l x.key))))
  is_into : (m w : ℕ) → w < v → At l ν w k m → StepOk l ν k v (Some (Into m w))
