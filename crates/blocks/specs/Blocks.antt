-- Aligned blocks of 2^k indices, and the bits of words.
use Rattle.std.specs.Prelude.{ℕ, zero, suc, ◌+◌, ◌*◌, ◌-◌, ◌/◌, ◌%◌, ◌^◌, ◌≤◌, ◌<◌, ◌≡◌, Bool}
use Rattle.blocks.specs.Choice.{pick}

-- the number of the aligned block of 2^k indices that holds i
abbrev pub block : ℕ → ℕ → ℕ
block k i = i / 2 ^ k

-- bit m of w
abbrev pub bit : ℕ → ℕ → ℕ
bit m w = w / 2 ^ m % 2

-- w with bit m set, or clear
abbrev pub set_bit : ℕ → Bool → ℕ → ℕ
set_bit m b w = w - bit m w * 2 ^ m + pick b (2 ^ m) 0

-- the word whose bit j, for j below the given number, is f j
abbrev pub bits_to : (ℕ → Bool) → ℕ → ℕ
bits_to f zero = 0
bits_to f (suc j) = bits_to f j + pick (f j) (2 ^ j) 0

-- how many of the numbers below the given one have f
abbrev pub count_to : (ℕ → Bool) → ℕ → ℕ
count_to f zero = 0
count_to f (suc j) = count_to f j + pick (f j) 1 0

-- r is the least bit from o on that is set in a word w of so many bits, or the width exactly if there is none
pub record NextBit (width w o r : ℕ) : Type 0 where
  pub past : o ≤ r
  pub most : r ≤ width
  pub on : r < width → bit r w ≡ 1
  pub first : (i : ℕ) → o ≤ i → i < r → bit i w ≡ 0
