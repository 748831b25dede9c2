-- The way up from a node to the head, by owner words.
use Rattle.std.specs.Prelude.{ℕ, ◌+◌, ◌*◌, ◌^◌, ◌≡◌, List, get_or}
use Rattle.std.proofs.Math.Option.{some, none}
use Rattle.tree.specs.Tree.{tier_order}
use Rattle.layout.specs.WellFormed.{WellFormed}

-- the node over block b of tier u has number m
pub record At {ws : List ℕ} (s : WellFormed ws) (m u b : ℕ) : Type 0 where
  pub place_is : get_or s.places m none ≡ some (record { tier = u; number = b })

-- a node of tier u has number m
pub record Stands {ws : List ℕ} (s : WellFormed ws) (m u : ℕ) : Type 0 where
  pub block : ℕ
  pub at : At s m u block

-- node m, of tier u, lies over a block; with x, the first index of the block is first
pub record Climbs {ws : List ℕ} (s : WellFormed ws) (m u x first : ℕ) : Type 0 where
  pub block : ℕ
  pub at : At s m u block
  pub sum : x + block * 2 ^ tier_order u ≡ first
