-- Numbers held in words, lowest word first.
use Rattle.std.specs.Prelude.{ℕ, zero, suc, ◌+◌, ◌*◌, ◌-◌, ◌/◌, ◌%◌, ◌^◌, ◌≤◌, ◌<◌, ◌≡◌, List, ltb, get_or}
use Rattle.blocks.specs.Choice.{pick}
use Rattle.blocks.specs.Blocks.{block}
use Rattle.words.specs.Bits.{word_bits}

-- k words from a place on
unfoldable pub number_at : List ℕ → (at k : ℕ) → ℕ
number_at ws at zero = 0
number_at ws at (suc k) = get_or ws at 0 + 2 ^ word_bits * number_at ws (suc at) k

-- a key's number has five words
abbrev pub key_words : ℕ
key_words = 5

abbrev pub key_at : List ℕ → ℕ → ℕ
key_at ws at = number_at ws at key_words

-- every word has 64 bits
abbrev pub Words : List ℕ → Type 0
Words ws = (i : ℕ) → get_or ws i 0 < 2 ^ word_bits

-- the words from t on are the same
abbrev pub SameFrom : (xs ys : List ℕ) (i j t k : ℕ) → Type 0
SameFrom xs ys i j t k = (p : ℕ) → t ≤ p → p < k → get_or xs (i + p) 0 ≡ get_or ys (j + p) 0

-- two numbers part at tier r, at most v: they lie in one block of it, not in one of the next
pub record PartAt (x y v r : ℕ) : Type 0 where
  pub most : r ≤ v
  pub same : block (4 * r) x ≡ block (4 * r) y
  pub apart : 1 ≤ r → block (4 * (r - 1)) x ≡ block (4 * (r - 1)) y → ⊥

-- word i of the first number of a block of tier v, where w is word i of a number in it
abbrev pub cut_word : (w i v : ℕ) → ℕ
cut_word w i v = pick (ltb i (v / 16)) 0 (pick (ltb (v / 16) i) w (w - w % 2 ^ (4 * (v % 16))))

-- word i of a number of five words, lowest first
abbrev pub word_of : ℕ → ℕ → ℕ
word_of x i = block (word_bits * i) x % 2 ^ word_bits
