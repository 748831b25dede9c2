-- Bytes as one number, and what tables do with it: what the functions here promise each other. Assumes nothing: these are definitions.
use Rattle.std.specs.Prelude.{List, ℕ, zero, suc, ◌+◌, ◌*◌, ◌^◌, get_or}
use Rattle.std.specs.Int.Bits.{bit_xor}
use Rattle.crc32c.specs.Crc.{bit_steps}

-- the register after n bytes of zeros
unfoldable pub after : (n : ℕ) → ℕ → ℕ
after n c = bit_steps (8 * n) c

-- n bytes from a place on as one number, the first lowest
unfoldable pub word : List ℕ → (at n : ℕ) → ℕ
word s at zero = 0
word s at (suc n) = bit_xor (word s at n) (get_or s (at + n) 0 * 2 ^ (8 * n))
