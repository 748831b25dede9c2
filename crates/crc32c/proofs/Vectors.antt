-- The definition computes the digests that RFC 3720 (B.4) publishes, and the usual check value of the digits 1 to 9 (R170). They test the
-- definition; the program `digests` runs the code on them.
use mathlib.Core.Path.{◌≡◌, refl}
use mathlib.Core.List.{List, [], ◌∷◌, ◌++◌, map}
use Prim.Native.Nat.{ℕ, zero, suc}
use lib.ListN.{replicate}
use Rattle.crc32c.specs.Crc.{bit_step, bit_steps, byte_step, crc32c}

abbrev pub rising : (n b : ℕ) → List ℕ
rising zero b = []
rising (suc n) b = b ∷ rising n (suc b)

abbrev pub falling : (n : ℕ) → List ℕ
falling zero = []
falling (suc n) = n ∷ falling n

-- the SCSI Read (10) command PDU
abbrev pub read10 : List ℕ
read10 =
    0x01 ∷ 0xC0 ∷ replicate 14 0 ++ 0x14 ∷ replicate 5 0 ++ 0x04 ∷ replicate 4 0 ++ 0x14 ∷ replicate 3 0 ++ 0x18 ∷ 0x28 ∷ replicate 7 0
    ++ 0x02 ∷ replicate 7 0

abbrev pub vectors : List (List ℕ)
vectors = replicate 32 0 ∷ replicate 32 0xFF ∷ rising 32 0 ∷ falling 32 ∷ read10 ∷ rising 9 0x31 ∷ [] ∷ []

pub published : map (crc32c 0) vectors
    ≡ 0x8A9136AA ∷ 0x62A8AB43 ∷ 0x46DD794E ∷ 0x113FDB5C ∷ 0xD9963A56 ∷ 0xE3069283 ∷ 0 ∷ []
unfolding bit_step bit_steps byte_step crc32c
published = refl
