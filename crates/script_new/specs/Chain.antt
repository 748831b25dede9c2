-- The steps of new_rows: where the rows of the path begin, the rows over index 0, and the numbers of all rows.
use Rattle.std.specs.Prelude.{ℕ, ◌+◌, ◌-◌, ◌≤◌, ◌<◌, max, ◌≡◌, Bool, true, false, not, List, ◌⊎◌, ltb, eqb, length, get_or}
use Rattle.blocks.specs.Choice.{pick, both}
use Rattle.blocks.specs.Blocks.{block, bits_to}
use Rattle.model.specs.declared.Entry.{Entry}
use Rattle.model.specs.Model.{mark_count}
use Rattle.tree.specs.Tree.{slots, slot_mark}
use Rattle.tree.specs.Slots.{Numbering, slot, node_word}
use Rattle.layout.specs.Words.{place, last_place, mark_place, slot_place, IsField, field_under, max_nodes}
use Rattle.plan.specs.declared.Heads.{Heads}
use Rattle.script_rows.specs.Row.{Copies, RunPut}
use Rattle.script_rows.specs.Becomes.{Copied}
use Rattle.script_new.specs.New.{chain_row}

-- what slot 0 of the node of tier t + 1 over index 0 holds, above the old head: that head, or a node of the chain
abbrev pub under_word : Heads → List ℕ → ℕ → ℕ
under_word heads cs t = pick (eqb t heads.old) heads.word (node_word (get_or cs t 0))

-- the old tree stays beside the range, under a higher head
abbrev pub beside_of : Heads → (k i : ℕ) → Bool
beside_of heads k i = both (ltb heads.old heads.new) (both (not (eqb heads.word 0)) (not (eqb (block k i) 0)))

-- the lowest tier of the rows over index 0; the new head's, if there are none
abbrev pub low_chain : Heads → Bool → ℕ
low_chain heads beside = pick beside (max 1 heads.old) heads.new

-- the rows of the path begin as copies; slot 0 of the head's leads to the old tree, if that stays
pub record BegunNew (ws ps cs : List ℕ) (heads : Heads) (v : ℕ) (beside : Bool) (rs : List ℕ) : Type 0 where
  pub first : List ℕ
  pub copied : Copied ws ps v first heads.new
  pub bare : beside ≡ false → rs ≡ first
  pub over : beside ≡ true → RunPut first rs heads.new 0 1 (under_word heads cs (heads.new - 1)) heads.marks

-- the numbers of the nodes over index 0, from the old head up, are those of nodes
pub record ChainRoom (ws cs : List ℕ) (heads : Heads) : Type 0 where
  pub few : (u : ℕ) → heads.old ≤ u → 1 ≤ u → u ≤ heads.new → get_or cs u 0 < max_nodes
  pub nodes : (u : ℕ) → heads.old ≤ u → 1 ≤ u → u ≤ heads.new → last_place (get_or cs u 0) < length ws

module _ (l' : List Entry) (μ : Numbering) where
  -- slots and marks of row r are those of the node of tier t + 1 over index 0
  pub record ChainFinal (rs : List ℕ) (r t : ℕ) : Type 0 where
    pub slots_are : (j : ℕ) → j < slots → get_or rs (slot_place r j) 0 ≡ slot l' μ t j
    pub marks_are : (x : ℕ) → x < mark_count → get_or rs (mark_place r x) 0 ≡ bits_to (λ j. slot_mark l' x t j) slots

  -- and all words of the row of the node of tier u, under a head of tier top
  pub record ChainShown (rs : List ℕ) (top u : ℕ) : Type 0 where
    pub words : (f : ℕ) → IsField f → get_or rs (place (chain_row + u) f) 0 ≡ field_under l' μ top u 0 f

-- the numbers of the nodes over index 0, and that their rows begin right: the old head as it is, a new one with slot 0
pub record Chains (ws : List ℕ) (heads : Heads) (cs : List ℕ) (l' : List Entry) (μ : Numbering) : Type 0 where
  pub numbers : (u : ℕ) → heads.old ≤ u → 1 ≤ u → u ≤ heads.new → get_or cs u 0 ≡ μ u 0
  pub old_head : (u : ℕ) → u ≡ heads.old → 1 ≤ u → (rs rs' : List ℕ) (r : ℕ) → Copies ws (get_or cs u 0) rs rs' r →
      ChainFinal l' μ rs' r (u - 1)
  pub new_node_lem : (u : ℕ) → heads.old < u → u < heads.new → (rs rs₁ rs₂ : List ℕ) (r : ℕ) →
      Copies ws (get_or cs u 0) rs rs₁ r → RunPut rs₁ rs₂ r 0 1 (under_word heads cs (u - 1)) heads.marks →
      ChainFinal l' μ rs₂ r (u - 1)

-- the number of row r, n where it has none
pub record NewNumber (ps cs : List ℕ) (r v top low n q : ℕ) : Type 0 where
  pub on_path_lem : v < r → r ≤ top → q ≡ get_or ps r 0
  pub on_chain : chain_row + low ≤ r → r < chain_row + top → q ≡ get_or cs (r - chain_row) 0
  pub off : q < n → ((v < r) × (r ≤ top)) ⊎ ((chain_row + low ≤ r) × (r < chain_row + top))

-- those of the first rows
pub record NewNumbers (ns ps cs : List ℕ) (v top low n k : ℕ) : Type 0 where
  pub each : (r : ℕ) → r < k → NewNumber ps cs r v top low n (get_or ns r 0)
