-- What stands at each number, and which numbers new things take: over any kind of thing that a test tells apart.
-- (Nodes of a tree here, each at a number of the pool: layout/specs/Places.)
use Rattle.std.specs.Prelude.{ℕ, zero, suc, ◌≡◌, Bool, true, false, not, List, [], ◌∷◌, map, leb, eqb, length}
use Rattle.std.proofs.Math.Option.{Option, none, some}
use Rattle.blocks.specs.Choice.{pick, both}
use Rattle.blocks.specs.Lists.{any, In, Distinct}

-- at each number something, or nothing
abbrev pub PlacesOf : Type 0 → Type 0
PlacesOf A = List (Option A)

module _ {A : Type 0} where
  abbrev pub standing : PlacesOf A → List A
  standing [] = []
  standing (none ∷ os) = standing os
  standing (some p ∷ os) = p ∷ standing os

  abbrev pub free_count : PlacesOf A → ℕ
  free_count [] = 0
  free_count (none ∷ os) = suc (free_count os)
  free_count (some p ∷ os) = free_count os

  -- R35: each new one at the lowest free number that is left (document 01: taken)
  abbrev pub allocate : PlacesOf A → List A → PlacesOf A
  allocate [] ps = []
  allocate (some q ∷ os) ps = some q ∷ allocate os ps
  allocate (none ∷ os) [] = none ∷ allocate os []
  allocate (none ∷ os) (p ∷ ps) = some p ∷ allocate os ps

  -- R36, R37: only after the new ones have their numbers is one freed (document 01: given up); what stays keeps its
  -- number
  abbrev pub keep_if : (A → Bool) → Option A → Option A
  keep_if has none = none
  keep_if has (some p) = pick (has p) (some p) none

  abbrev pub prune : (A → Bool) → PlacesOf A → PlacesOf A
  prune has os = map (keep_if has) os

  -- the free number that has j free ones before it
  abbrev pub free_at : PlacesOf A → ℕ → ℕ
  free_at [] j = 0
  free_at (none ∷ os) zero = 0
  free_at (none ∷ os) (suc j) = suc (free_at os j)
  free_at (some p ∷ os) j = suc (free_at os j)

  -- how many of the first m are free
  abbrev pub free_before : PlacesOf A → ℕ → ℕ
  free_before os zero = 0
  free_before [] (suc m) = 0
  free_before (none ∷ os) (suc m) = suc (free_before os m)
  free_before (some p ∷ os) (suc m) = free_before os m

  -- number m is free
  abbrev pub free_place : PlacesOf A → ℕ → Bool
  free_place [] m = false
  free_place (none ∷ os) zero = true
  free_place (some p ∷ os) zero = false
  free_place (none ∷ os) (suc m) = free_place os m
  free_place (some p ∷ os) (suc m) = free_place os m

  -- and is none of the k lowest free ones
  abbrev pub left_free : PlacesOf A → ℕ → ℕ → Bool
  left_free os k m = both (free_place os m) (leb k (free_before os m))

-- by a test that tells things apart
module _ {A : Type 0} (same : A → A → Bool) where
  -- the number of p
  abbrev pub is_at : A → Option A → Bool
  is_at p none = false
  is_at p (some q) = same q p

  abbrev pub number_of : A → PlacesOf A → ℕ
  number_of p [] = 0
  number_of p (o ∷ os) = pick (is_at p o) 0 (suc (number_of p os))

  -- each is one of them, and none stands twice
  abbrev pub all_stand : (A → Bool) → List A → Bool
  all_stand has [] = true
  all_stand has (p ∷ ps) = both (has p) (both (not (any (same p) ps)) (all_stand has ps))

  -- `Placed`, as a test, where there are w of them: none is missing
  abbrev pub is_placed : (n w : ℕ) → (A → Bool) → PlacesOf A → Bool
  is_placed n w has os = both (eqb (length os) n) (both (all_stand has (standing os)) (eqb (length (standing os)) w))

-- all that there are stand at one number below n each, and nothing else does
pub record Placed {A : Type 0} (n : ℕ) (has : A → Bool) (os : PlacesOf A) : Type 0 where
  pub size : length os ≡ n
  pub sound : (p : A) → In p (standing os) → has p ≡ true
  pub full : (p : A) → has p ≡ true → In p (standing os)
  pub once : Distinct (standing os)
