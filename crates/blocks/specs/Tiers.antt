-- Nodes by block: over what lies in a block, and over the blocks of each tier. A tree whose slots take so many bits has
-- blocks of order bits * u in tier u (6 bits: Tree).
use Rattle.std.specs.Prelude.{ℕ, zero, suc, Bool, List, [], ◌∷◌, ◌++◌, map, ltb, eqb}
use Rattle.blocks.specs.Choice.{pick}
use Rattle.blocks.specs.Blocks.{block}

-- a strictly ascending list of numbers, with one more
abbrev pub add : ℕ → List ℕ → List ℕ
add b [] = b ∷ []
add b (c ∷ cs) = pick (ltb b c) (b ∷ c ∷ cs) (pick (eqb b c) (c ∷ cs) (c ∷ add b cs))

abbrev pub add_if : Bool → ℕ → List ℕ → List ℕ
add_if t b s = pick t (add b s) s

-- `base x` is where an element lies, `finer j x` that it is finer than a block of order j
module _ {A : Type 0} (base : A → ℕ) (finer : ℕ → A → Bool) where
  -- the blocks of order j in which something finer lies, ascending
  abbrev pub blocks_of : ℕ → List A → List ℕ
  blocks_of j [] = []
  blocks_of j (x ∷ l) = add_if (finer j x) (block j (base x)) (blocks_of j l)

-- a node by its tier and the number of its block
pub record Node : Type 0 where
  pub tier : ℕ
  pub number : ℕ

abbrev pub at : ℕ → List ℕ → List Node
at u bs = map (λ b. record { tier = u; number = b }) bs

-- the nodes of tier u and below, in the order of R35, where `bs v` are the blocks of tier v
abbrev pub nodes_from : (ℕ → List ℕ) → ℕ → List Node
nodes_from bs zero = []
nodes_from bs (suc u) = at (suc u) (bs (suc u)) ++ nodes_from bs u
