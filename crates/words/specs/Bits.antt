-- The bits of a word; what holds of one is in blocks/specs/Blocks (`bit`, `NextBit`).
use Rattle.std.specs.Prelude.{ℕ}

abbrev pub word_bits : ℕ
word_bits = 64
