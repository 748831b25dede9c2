-- Numbers as bytes, the highest first (R42).
use Rattle.std.specs.Prelude.{ℕ, zero, suc, ◌+◌, ◌*◌, ◌/◌, ◌%◌, ◌^◌, ◌<◌, List, [], ◌∷◌, get_or, set}

-- every element is a byte
pub record Bytes (s : List ℕ) : Type 0 where
  pub small : (i : ℕ) → get_or s i 0 < 256

-- the number in the n bytes from a place on
abbrev pub number_at : List ℕ → ℕ → ℕ → ℕ
number_at s at zero = 0
number_at s at (suc n) = number_at s at n * 256 + get_or s (at + n) 0

-- a number in n bytes, followed by more
abbrev pub bytes_then : ℕ → ℕ → List ℕ → List ℕ
bytes_then zero x more = more
bytes_then (suc n) x more = x / 256 ^ n % 256 ∷ bytes_then n x more

-- bytes written over those of s: the first at place at + k, the others after it
unfoldable pub write_from : List ℕ → ℕ → ℕ → List ℕ → List ℕ
write_from s at k [] = s
write_from s at k (b ∷ bs) = write_from (set s (at + k) b) at (suc k) bs

abbrev pub overwrite : List ℕ → ℕ → List ℕ → List ℕ
overwrite s at bs = write_from s at 0 bs
