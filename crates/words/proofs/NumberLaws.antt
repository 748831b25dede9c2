-- Laws of numbers read from bytes.
use Prim.Native.Nat.{ℕ, zero, suc, ◌+◌, ◌^◌, ◌≤◌, ◌<◌}
use mathlib.Core.Path.{◌≡◌, refl, ap, ◌∙◌}
use mathlib.Core.List.{List}
use native.Mathlib.Omega.{arith}
use native.Mathlib.Nat.{add-zero, pow-suc}
use lib.Dec.{lit<}
use lib.ListN.{length, get_or, take}
use lib.Seq.{get_or-take}
use Rattle.words.specs.Bytes.{Bytes, number_at}

-- bytes make numbers that fit
pub number_lt : {s : List ℕ} → Bytes s → (at n : ℕ) → number_at s at n < 256 ^ n
number_lt b at zero = lit< tt
number_lt b at (suc n) = rw pow-suc (omega (arith, number_lt b at n, b.small (at + n)))

-- the byte that the code reads as a number
pub one_byte : (s : List ℕ) (at : ℕ) {tag : ℕ} → tag ≡ number_at s at 1 → tag ≡ get_or s at 0
one_byte s at e = e ∙ omega arith ∙ ap (λ (k : ℕ). get_or s k 0) (add-zero at)

-- numbers before a cut
module _ (s : List ℕ) (p : ℕ) (fits : p ≤ length s) where
  pub number_cut : (at n : ℕ) → at + n ≤ p → number_at (take p s) at n ≡ number_at s at n
  number_cut at zero h = refl
  number_cut at (suc n) h =
      rw (number_cut at n (omega arith), get_or-take p s (at + n) 0 (omega arith))
