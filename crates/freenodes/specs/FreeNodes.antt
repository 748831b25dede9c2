-- The map of a pool's free nodes, and how it follows where nodes are freed.
use Rattle.std.specs.Prelude.{ℕ, ◌≡◌, Bool, not, List, eqb, ltb, get_or}
use Rattle.blocks.specs.Choice.{both, either}
use Rattle.freemap.specs.FreeMap.{MapOf}
use Rattle.layout.specs.Words.{count_word, shift_place}

-- node m is one of the first n and free: its first word is 0
abbrev pub free_to : ℕ → List ℕ → ℕ → Bool
free_to n ws m = both (ltb m n) (eqb (get_or ws (shift_place m) 0) 0)

-- node m of a pool is free
abbrev pub free_in : List ℕ → ℕ → Bool
free_in ws m = free_to (get_or ws count_word 0) ws m

-- the map of a pool's free nodes
pub record FreeMap (ws ms : List ℕ) : Type 0 where
  pub is : MapOf (free_in ws) ms

-- node m was freed from one pool to another: its first word was not 0, and is 0
abbrev pub freed_by : List ℕ → List ℕ → ℕ → Bool
freed_by ws ws' m = both (not (eqb (get_or ws (shift_place m) 0) 0)) (eqb (get_or ws' (shift_place m) 0) 0)

-- nodes were freed and nothing else befell a first word; the map has all that it had, and these nodes. What the map says
-- of the first pool is left open: a store takes numbers from it before it frees, and writes the new nodes after that.
pub record Follows (ws ws' ms ms' : List ℕ) : Type 0 where
  pub stays : (m : ℕ) → (get_or ws' (shift_place m) 0 ≡ 0 → ⊥) → get_or ws' (shift_place m) 0 ≡ get_or ws (shift_place m) 0
  pub maps : (f : ℕ → Bool) → MapOf f ms → MapOf (λ m. either (f m) (freed_by ws ws' m)) ms'
