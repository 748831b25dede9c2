-- CRC-32C, RFC 3720's digest, by the polynomial's rule: bit by bit, lowest bit first (R160 to R163). Assumes nothing: these are definitions.
use Rattle.std.specs.Prelude.{List, [], ◌∷◌, ◌++◌, ℕ, zero, suc, ◌*◌, ◌/◌, ◌%◌}
use Rattle.std.specs.Int.Bits.{bit_xor}

-- R160: 0x1EDC6F41, its bits in reverse order
abbrev pub polynomial : ℕ
polynomial = 0x82F63B78

-- R161: one bit: the register is halved, and the polynomial goes in where the bit that fell out was set
unfoldable pub bit_step : ℕ → ℕ
bit_step c = bit_xor (c / 2) (c % 2 * polynomial)

-- R161: n bits
unfoldable pub bit_steps : ℕ → ℕ → ℕ
bit_steps zero c = c
bit_steps (suc n) c = bit_steps n (bit_step c)

-- R161: one byte: it goes into the register's low bits, and eight bits are done
unfoldable pub byte_step : ℕ → ℕ → ℕ
byte_step c b = bit_steps 8 (bit_xor c b)

abbrev pub register : ℕ → List ℕ → ℕ
register c [] = c
register c (b ∷ bs) = register (byte_step c b) bs

abbrev pub complement : ℕ → ℕ
complement c = bit_xor c 0xFFFFFFFF

-- R162: THE DIGEST of a list of bytes that goes on from a digest; 0 to begin
unfoldable pub crc32c : (crc : ℕ) → List ℕ → ℕ
crc32c crc bs = complement (register (complement crc) bs)

-- R163: the digest of pieces fed one after the other, and the bytes of all of them
abbrev pub fed : ℕ → List (List ℕ) → ℕ
fed crc [] = crc
fed crc (p ∷ ps) = fed (crc32c crc p) ps

abbrev pub joined : List (List ℕ) → List ℕ
joined [] = []
joined (p ∷ ps) = p ++ joined ps
