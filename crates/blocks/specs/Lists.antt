-- Searches of lists by a test, lists made from a function, and what holds of each element.
use Rattle.std.specs.Prelude.{ℕ, zero, suc, Bool, true, false, List, [], ◌∷◌, eqb}
use Rattle.std.proofs.Math.Option.{Option, none, some}
use Rattle.blocks.specs.Choice.{pick, both, either}

module _ {A : Type 0} (p : A → Bool) where
  -- some element passes
  abbrev pub any : List A → Bool
  any [] = false
  any (x ∷ xs) = either (p x) (any xs)

  -- those that pass, those that do not, and the first that passes
  abbrev pub keep : List A → List A
  keep [] = []
  keep (x ∷ xs) = pick (p x) (x ∷ keep xs) (keep xs)

  abbrev pub without : List A → List A
  without [] = []
  without (x ∷ xs) = pick (p x) (without xs) (x ∷ without xs)

  abbrev pub first : List A → Option A
  first [] = none
  first (x ∷ xs) = pick (p x) (some x) (first xs)

abbrev pub nonempty {ℓ} : {A : Type ℓ} → List A → Bool
nonempty [] = false
nonempty (x ∷ l) = true

-- the same numbers, and as many
abbrev pub equal : List ℕ → List ℕ → Bool
equal [] [] = true
equal [] (y ∷ ys) = false
equal (x ∷ xs) [] = false
equal (x ∷ xs) (y ∷ ys) = both (eqb x y) (equal xs ys)

-- f from, f (from + 1), .., n in all
abbrev pub up_to {ℓ} : {A : Type ℓ} → (ℕ → A) → (from n : ℕ) → List A
up_to f from zero = []
up_to f from (suc n) = f from ∷ up_to f (suc from) n

-- the least h from the given one on that passes, at most fuel above it
abbrev pub least : (ℕ → Bool) → (fuel h : ℕ) → ℕ
least p zero h = h
least p (suc n) h = pick (p h) h (least p n (suc h))

-- P holds of every element
pub data All {A : Type 0} (P : A → Type 0) : List A → Type 0 where
  end : All P []
  also : {x : A} {l : List A} → P x → All P l → All P (x ∷ l)

-- x is an element
pub data In {A : Type 0} : A → List A → Type 0 where
  here : {x : A} {l : List A} → In x (x ∷ l)
  there : {x y : A} {l : List A} → In x l → In x (y ∷ l)

-- no element stands twice
pub data Distinct {A : Type 0} : List A → Type 0 where
  d_end : Distinct []
  d_more : {p : A} {ps : List A} → (In p ps → ⊥) → Distinct ps → Distinct (p ∷ ps)
