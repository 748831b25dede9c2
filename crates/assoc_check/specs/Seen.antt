-- Which blocks are named by a slot or by the root's word: a bit for each.
use Rattle.std.specs.Prelude.{ℕ, zero, suc, ◌<◌, ◌≡◌, Bool, false, List, eqb, ltb, length}
use Rattle.blocks.specs.Choice.{both, either}
use Rattle.freemap.specs.FreeMap.{map_bit, one_if}
use Rattle.assoc_tree.specs.Parts.{slots}
use Rattle.assoc_layout.specs.Words.{max_blocks}
use Rattle.assoc_local.specs.Local.{slot_at}

abbrev pub seen_words : ℕ
seen_words = 256

-- the bits of those that pass
pub record SetOf (f : ℕ → Bool) (ss : List ℕ) : Type 0 where
  pub long : length ss ≡ seen_words
  pub bits : (x : ℕ) → x < max_blocks → map_bit ss x ≡ one_if (f x)

-- the bits of some
pub record Seen (ss : List ℕ) : Type 0 where
  pub set : ℕ → Bool
  pub is : SetOf set ss

-- the word r leads to block x, one of n
abbrev pub names : (n r x : ℕ) → Bool
names n r x = both (ltb x n) (eqb r (suc x))

module _ (ws : List ℕ) (n : ℕ) where
  -- one of the first k slots of block m does
  unfoldable pub slot_names : (m k x : ℕ) → Bool
  slot_names m zero x = false
  slot_names m (suc k) x = either (slot_names m k x) (names n (slot_at ws m k) x)

  -- a slot of one of the first k blocks does
  unfoldable pub named_to : (k x : ℕ) → Bool
  named_to zero x = false
  named_to (suc k) x = either (named_to k x) (slot_names k slots x)
