-- How many records of so many words stand after an anchor.
use Rattle.std.specs.Prelude.{ℕ, ◌≤◌, ◌≡◌, Option, Some, None}
use Rattle.blocks.specs.Records.{words_of}

-- so many words are an anchor and records of `size` words each, one or more and at most `most`: how many; none if they are not
abbrev pub Counted : (words anchor size most : ℕ) → Option ℕ → Type 0
Counted words anchor size most None = (n : ℕ) → 1 ≤ n → n ≤ most → words ≡ words_of anchor size n → ⊥
Counted words anchor size most (Some n) = (1 ≤ n) × (n ≤ most) × (words ≡ words_of anchor size n)
