-- What a changing command makes of a list: one aligned range becomes one entry, or nothing.
use Rattle.std.specs.Prelude.{ℕ, suc, ◌+◌, ◌*◌, ◌/◌, ◌^◌, ◌≤◌, ◌<◌, ◌≡◌, Bool, true, false, List, length, get_or}
use Rattle.std.proofs.Math.Option.{Option, none, some}
use Rattle.blocks.specs.Lists.{any, All}
use Rattle.blocks.specs.Blocks.{block, bits_to}
use Rattle.model.specs.declared.Entry.{Entry}
use Rattle.model.specs.Model.{Valid, covering, mark_count}
use Rattle.model.proofs.RangeLaws.{Room, InRun, Inside, Apart}
use Rattle.tree.specs.Tree.{slots, slot_bits, top_tier, tier_order, slot_mark}
use Rattle.tree.specs.Slots.{Numbering, slot}
use Rattle.layout.specs.Words.{place, pool_words, last_place, mark_place, slot_place, IsField, field_under, max_nodes}
use Rattle.layout.specs.WellFormed.{WellFormed}
use Rattle.execute.proofs.LocalLaws.{Agree}
use Rattle.script_rows.specs.Row.{Copies}

-- a test of what stands in the range
abbrev pub any_in : (Entry → Bool) → Option Entry → Bool
any_in p none = false
any_in p (some e) = p e

-- e takes the range of order k that holds i
pub record Seated (i k : ℕ) (e : Entry) : Type 0 where
  pub whole : block k e.base * 2 ^ k ≡ e.base
  pub order_is : e.order ≡ k
  pub in_run_lem : InRun i k e.base

-- l becomes l': apart from the range of order k that holds i nothing changes, and there o stands then
pub record Becomes (i k : ℕ) (o : Option Entry) (l l' : List Entry) : Type 0 where
  pub agree : Agree i k l l'
  pub rooms : All (Room i k) l
  pub seated : (e : Entry) → o ≡ some e → Seated i k e
  pub covers_is : (y : ℕ) → InRun i k y → covering l' y ≡ o
  pub inside_is : (p : Entry → Bool) (j c : ℕ) → ((x : Entry) → p x ≡ true → block j x.base ≡ c) →
      Inside i k j c → any p l' ≡ any_in p o

-- what stands in the range, as numbers; 0 for nothing
abbrev pub word_in : Option Entry → ℕ
word_in none = 0
word_in (some e) = e.word

abbrev pub marks_in : Option Entry → ℕ
marks_in none = 0
marks_in (some e) = e.marks

-- ROWS OF THE PATH
module _ (i k : ℕ) (l' : List Entry) (μ : Numbering) where
  -- row r is, of the path's node of tier u + 1, right apart from the range
  pub record Base (rs : List ℕ) (r u : ℕ) : Type 0 where
    pub slots_are : (j : ℕ) → j < slots → Apart i k (tier_order u) (slots * block (tier_order (suc u)) i + j) →
        get_or rs (slot_place r j) 0 ≡ slot l' μ u (slots * block (tier_order (suc u)) i + j)
    pub marks_of_lem : (x : ℕ) → ℕ → Bool
    pub marks_are : (x : ℕ) → x < mark_count → get_or rs (mark_place r x) 0 ≡ bits_to (marks_of_lem x) slots
    pub apart_are : (x : ℕ) → x < mark_count → (j : ℕ) → j < slots →
        Apart i k (tier_order u) (slots * block (tier_order (suc u)) i + j) →
        marks_of_lem x j ≡ slot_mark l' x u (slots * block (tier_order (suc u)) i + j)

  -- its slots and marks are final
  pub record Final (rs : List ℕ) (r u : ℕ) : Type 0 where
    pub slots_are : (j : ℕ) → j < slots →
        get_or rs (slot_place r j) 0 ≡ slot l' μ u (slots * block (tier_order (suc u)) i + j)
    pub marks_are : (x : ℕ) → x < mark_count →
        get_or rs (mark_place r x) 0 ≡ bits_to (λ j. slot_mark l' x u (slots * block (tier_order (suc u)) i + j)) slots

  -- row u has all words of the path's node of tier u, under a head of tier top
  pub record Shown (rs : List ℕ) (top u : ℕ) : Type 0 where
    pub words : (f : ℕ) → IsField f → get_or rs (place u f) 0 ≡ field_under l' μ top u (block (tier_order u) i) f

-- the range of order k at i becomes the word w with the marks m, under a head of tier top; the path's nodes have the
-- numbers ps by tier
pub record Edits {ws : List ℕ} (s : WellFormed ws) (i k w m : ℕ) (ps : List ℕ) (top : ℕ) (o : Option Entry)
    (l' : List Entry) (μ : Numbering) : Type 0 where
  pub becomes : Becomes i k o s.list l'
  pub valid : Valid l'
  pub word_is : w ≡ word_in o
  pub marks_is : m ≡ marks_in o
  pub numbers : (u : ℕ) → k / slot_bits < u → u ≤ top → get_or ps u 0 ≡ μ u (block (tier_order u) i)
  pub bases : (u : ℕ) → k / slot_bits ≤ u → u < top → (rs rs' : List ℕ) (r : ℕ) →
      Copies ws (get_or ps (suc u) 0) rs rs' r → Base i k l' μ rs' r u

-- the same of a list alone, wherever the rows begin
pub record Turns (l : List Entry) (i k w m : ℕ) (ps : List ℕ) (top : ℕ) (o : Option Entry) (l' : List Entry)
    (μ : Numbering) : Type 0 where
  pub becomes : Becomes i k o l l'
  pub valid : Valid l'
  pub word_is : w ≡ word_in o
  pub marks_is : m ≡ marks_in o
  pub numbers : (u : ℕ) → k / slot_bits < u → u ≤ top → get_or ps u 0 ≡ μ u (block (tier_order u) i)

-- the rows above tier v, to the head's, are right apart from the range
pub record Begun (i k : ℕ) (l' : List Entry) (μ : Numbering) (rs : List ℕ) (top v : ℕ) : Type 0 where
  pub bases : (u : ℕ) → v ≤ u → u < top → Base i k l' μ rs (u + 1) u

-- the rows above tier v, to tier u, are copies of the path's nodes
pub record Copied (ws ps : List ℕ) (v : ℕ) (rs : List ℕ) (u : ℕ) : Type 0 where
  pub fields : (t : ℕ) → v < t → t ≤ u → (f : ℕ) → IsField f → get_or rs (place t f) 0 ≡ get_or ws (place (get_or ps t 0) f) 0

-- there is room for the rows: twelve of them, and the numbers by tier
pub record Ready (rs ps : List ℕ) (v top : ℕ) : Type 0 where
  pub low : v < top
  pub top_le : top ≤ top_tier
  pub path_long : top_tier < length ps
  pub rows_long : pool_words 12 ≤ length rs
  pub few : (u : ℕ) → v < u → u ≤ top → get_or ps u 0 < max_nodes

-- there is room: twelve rows, the numbers by tier, and the nodes with these numbers
pub record Roomy (ws rs ps : List ℕ) (v top : ℕ) : Type 0 where
  pub low : v < top
  pub top_le : top ≤ top_tier
  pub path_long : top_tier < length ps
  pub rows_long : pool_words 12 ≤ length rs
  pub few : (u : ℕ) → v < u → u ≤ top → get_or ps u 0 < max_nodes
  pub nodes : (u : ℕ) → v < u → u ≤ top → last_place (get_or ps u 0) < length ws
