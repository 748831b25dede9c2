-- What the functions that read a block promise.
use Rattle.std.specs.Prelude.{ℕ, ◌*◌, ◌^◌, ◌≤◌, ◌<◌, ◌≡◌, List, length}
use Rattle.assoc_tree.specs.Parts.{tier_bits, block_of}
use Rattle.assoc_layout.specs.Words.{block_words, place}
use Rattle.assoc_layout.specs.Decode.{word, base_at}

module _ (ws : List ℕ) where
  -- block m is one of the words'
  abbrev pub Within : ℕ → Type 0
  Within m = place m block_words ≤ length ws

  -- its fields from a up to b are 0
  abbrev pub Blank : ℕ → ℕ → ℕ → Type 0
  Blank m a b = (f : ℕ) → a ≤ f → f < b → word ws m f ≡ 0

  -- its base is the first number of a block of tier v
  abbrev pub First : ℕ → ℕ → Type 0
  First m v = base_at ws m ≡ block_of v (base_at ws m) * 2 ^ tier_bits v

  -- the bases of blocks x and y lie in one block of tier v
  abbrev pub Together : ℕ → ℕ → ℕ → Type 0
  Together x y v = block_of v (base_at ws x) ≡ block_of v (base_at ws y)
