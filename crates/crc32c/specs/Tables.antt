-- What the tables hold (R164). Assumes nothing: these are definitions.
use Rattle.std.specs.Prelude.{◌≡◌, List, ◌++◌, ℕ, ◌<◌, length, get_or}
use Rattle.crc32c.specs.Crc.{bit_steps}

-- the table of one byte: the register after eight bits from each byte
pub record Table (t : List ℕ) : Type 0 where
  pub long : length t ≡ 256
  pub entry : (k : ℕ) → k < 256 → get_or t k 0 ≡ bit_steps 8 k

-- the seven further tables: each entry is its fellow in the table before, after eight bits more
pub record Further (t f : List ℕ) : Type 0 where
  pub long : length f ≡ 1792
  pub entry : (k : ℕ) → k < 1792 → get_or f k 0 ≡ bit_steps 8 (get_or (t ++ f) k 0)
