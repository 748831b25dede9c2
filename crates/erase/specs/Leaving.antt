-- An entry without marks on its way out: its run is 0, and the nodes over it are freed from the lowest tier up.
use Rattle.std.specs.Prelude.{ℕ, suc, ◌<◌, ◌≡◌, List, leb, length, get_or}
use Rattle.std.proofs.Math.Option.{Option, none, some}
use Rattle.blocks.specs.Choice.{pick}
use Rattle.blocks.specs.Blocks.{block}
use Rattle.model.specs.declared.Entry.{Entry}
use Rattle.model.specs.Model.{covering, erase}
use Rattle.tree.specs.Tree.{height, Node, tier_order}
use Rattle.tree.specs.Slots.{Numbering}
use Rattle.layout.specs.Words.{anchor_word, place, pool_words, anchor_words, field_under, IsField}
use Rattle.layout.specs.WellFormed.{WellFormed, num}
use Rattle.lookup.specs.Views.{AtNode, Holds}
use Rattle.erase.specs.Tall.{tall_at}

-- nodes of the tiers up to v have the words of l', or are free; those of the next have the words of l'; the others
-- those of l
module _ (l l' : List Entry) (ν : Numbering) (v : ℕ) where
  abbrev pub cut_at : Option Node → ℕ → ℕ
  cut_at none f = 0
  cut_at (some p) f =
      pick (leb p.tier v) (tall_at (height l) l' ν (some p) f)
      (pick (leb p.tier (suc v)) (field_under l' ν (height l) p.tier p.number f)
      (field_under l ν (height l) p.tier p.number f))

-- the entry over i has no marks
abbrev pub Unmarked : List Entry → ℕ → Type 0
Unmarked l i = (e : Entry) → covering l i ≡ some e → e.marks ≡ 0

pub record Cut {ws₀ : List ℕ} (s : WellFormed ws₀) (i v n : ℕ) (ws : List ℕ) : Type 0 where
  pub entry : Entry
  pub covering_is : covering s.list i ≡ some entry
  pub unmarked : entry.marks ≡ 0
  pub low : entry.order < tier_order (suc v)
  pub at_node_lem : AtNode s.list (num s) v (block (tier_order (suc v)) i) n
  pub size : length ws ≡ pool_words s.n
  pub anchor : (k : ℕ) → k < anchor_words → get_or ws k 0 ≡ anchor_word s.list (num s) s.n k
  pub node : (m f : ℕ) → m < s.n → IsField f → get_or ws (place m f) 0 ≡ cut_at s.list (erase s.list i)
      (num s) v (get_or s.places m none) f

-- some entry is on its way out so
pub record Cutting (i v n : ℕ) (ws : List ℕ) : Type 0 where
  pub before : List ℕ
  pub formed : WellFormed before
  pub state : Cut formed i v n ws

-- an entry without marks that has its first slot at slot o of node n, under a head of tier top
pub record Leaves (i n v o top : ℕ) (ws : List ℕ) : Type 0 where
  pub formed : WellFormed ws
  pub holds : Holds formed.list (num formed) i n v o
  pub unmarked : Unmarked formed.list i
  pub height_is : height formed.list ≡ top

-- an entry that has its first slot there
pub record Erasing (i n v o top : ℕ) (ws : List ℕ) : Type 0 where
  pub formed : WellFormed ws
  pub holds : Holds formed.list (num formed) i n v o
  pub height_is : height formed.list ≡ top
