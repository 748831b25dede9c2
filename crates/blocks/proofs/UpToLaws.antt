-- Lists made from a function, read by place.
use Prim.Native.Nat.{ℕ, zero, suc, ◌+◌, ◌<◌}
use mathlib.Core.Path.{◌≡◌, refl, ap, ◌∙◌}
use native.Mathlib.Omega.{arith}
use native.Mathlib.Nat.{add-zero}
use lib.ListN.{length, get_or}
use Rattle.blocks.specs.Lists.{up_to}

pub length_up_to : {A : Type 0} (f : ℕ → A) (from n : ℕ) → length (up_to f from n) ≡ n
length_up_to f from zero = refl
length_up_to f from (suc n) = ap suc (length_up_to f (suc from) n)

pub get_d_up_to_or : {A : Type 0} (d : A) (f : ℕ → A) (from n i : ℕ) → i < n → get_or (up_to f from n) i d ≡ f (from + i)
get_d_up_to_or d f from zero i h = absurd (omega arith)
get_d_up_to_or d f from (suc n) zero h = rw add-zero
get_d_up_to_or d f from (suc n) (suc i) h = get_d_up_to_or d f (suc from) n i (omega arith) ∙ ap f (omega arith)

pub get_d_up_to : (f : ℕ → ℕ) (from n i : ℕ) → i < n → get_or (up_to f from n) i 0 ≡ f (from + i)
get_d_up_to f from n i h = get_d_up_to_or 0 f from n i h
