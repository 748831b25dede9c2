-- Words after a command that may free nodes: rows for the nodes that change, zeros for the nodes inside the range.
use Rattle.std.specs.Prelude.{ℕ, ◌≤◌, ◌<◌, ◌≡◌, List, get_or}
use Rattle.std.proofs.Math.Option.{some, none}
use Rattle.model.proofs.RangeLaws.{Inside}
use Rattle.tree.specs.Tree.{tier_order, Node}
use Rattle.layout.specs.Words.{anchor_words, place, IsField}
use Rattle.layout.specs.WellFormed.{WellFormed}
use Rattle.script_table.specs.Table.{row_count}

-- at number m stands a node of the old tree that lies inside the range of order k that holds i
pub record GoesAt {ws : List ℕ} (s : WellFormed ws) (i k m : ℕ) : Type 0 where
  pub node : Node
  pub place_is : get_or s.places m none ≡ some node
  pub low : tier_order node.tier ≤ k
  pub inside : Inside i k (tier_order node.tier) node.number

-- no row is that of node m
abbrev pub NoRow : List ℕ → ℕ → Type 0
NoRow ns m = (r : ℕ) → r < row_count → get_or ns r 0 ≡ m → ⊥

-- row r has the words of node ns r, if that is below n; the anchor of the rows is the anchor; a node inside the range without
-- a row is free; all else stays
pub record Wide {ws : List ℕ} (s : WellFormed ws) (rs ns ws' : List ℕ) (i k : ℕ) : Type 0 where
  pub anchor : (p : ℕ) → p < anchor_words → get_or ws' p 0 ≡ get_or rs p 0
  pub row : (r : ℕ) → r < row_count → get_or ns r 0 < s.n → (f : ℕ) → IsField f →
      get_or ws' (place (get_or ns r 0) f) 0 ≡ get_or rs (place r f) 0
  pub gone : (m : ℕ) → m < s.n → NoRow ns m → GoesAt s i k m → (f : ℕ) → IsField f → get_or ws' (place m f) 0 ≡ 0
  pub rest : (m : ℕ) → m < s.n → NoRow ns m → (GoesAt s i k m → ⊥) → (f : ℕ) → IsField f →
      get_or ws' (place m f) 0 ≡ get_or ws (place m f) 0
