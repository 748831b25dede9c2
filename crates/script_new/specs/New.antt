-- A store of a new entry, worked out in rows: row u for the node of tier u over the index, row 12 + u for the node of tier u over
-- index 0, from the old head up, where the head grows beside the old tree.
use Rattle.std.specs.Prelude.{ℕ, ◌+◌, ◌/◌, ◌≤◌, ◌<◌, ◌≡◌, true, List, get_or}
use Rattle.std.proofs.Math.Option.{Option, some}
use Rattle.blocks.specs.Blocks.{block}
use Rattle.blocks.specs.Lists.{nonempty}
use Rattle.model.specs.declared.Entry.{Entry}
use Rattle.model.specs.Model.{Valid}
use Rattle.model.specs.ByBlock.{store_new}
use Rattle.tree.specs.Tree.{height, has, needed, new_nodes, slot_bits, tier_order}
use Rattle.tree.specs.Slots.{Numbering}
use Rattle.layout.specs.Words.{anchor_words, place, IsField, field}
use Rattle.layout.specs.Places.{Places, number_in, new_places, free_count, render}
use Rattle.layout.specs.WellFormed.{WellFormed}
use Rattle.plan.specs.Plan.{Known, Plan}
use Rattle.plan.specs.declared.Heads.{Heads}
use Rattle.plan.specs.declared.Target.{Target}
use Rattle.script_rows.specs.Becomes.{Becomes, word_in, marks_in}
use Rattle.script_table.specs.Table.{row_count}

-- the first of the rows over index 0
abbrev pub chain_row : ℕ
chain_row = 12

-- the range of order k at i becomes o, an entry with the word w and the marks m; the nodes are those of the list with the new entry
pub record NewList {ws : List ℕ} (s : WellFormed ws) (i k w m : ℕ) (o : Option Entry) (l' : List Entry) : Type 0 where
  pub becomes : Becomes i k o s.list l'
  pub entry : Entry
  pub some_is : o ≡ some entry
  pub valid : Valid l'
  pub word_is : w ≡ word_in o
  pub marks_is : m ≡ marks_in o
  pub same_has : (u c : ℕ) → has l' u c ≡ has (store_new s.list i k w) u c
  pub same_height : height l' ≡ height (store_new s.list i k w)
  pub same_new : new_nodes s.list l' ≡ new_nodes s.list (store_new s.list i k w)
  pub same_places : new_places s.list l' s.places ≡ new_places s.list (store_new s.list i k w) s.places

-- what planning found: enough free nodes, and the numbers of the nodes over the index and over index 0
pub record NewPlanned {ws : List ℕ} (s : WellFormed ws) (target : Target) (heads : Heads) (ps cs : List ℕ) : Type 0 where
  pub known : Known s.list target heads
  pub enough : needed s.list (store_new s.list target.index target.order target.word) ≤ free_count s.places
  pub plan : Plan s.list target.index target.order target.word
      (number_in (new_places s.list (store_new s.list target.index target.order target.word) s.places)) ps cs

-- the old tree stays under a higher head
pub record Chained {ws : List ℕ} (s : WellFormed ws) (i k : ℕ) (l' : List Entry) : Type 0 where
  pub grows : height s.list < height l'
  pub some_old : nonempty s.list ≡ true
  pub beside : block k i ≡ 0 → ⊥

-- the tier of a node over index 0 that has a row
pub record InChain {ws : List ℕ} (s : WellFormed ws) (l' : List Entry) (u : ℕ) : Type 0 where
  pub from_head : height s.list ≤ u
  pub node : 1 ≤ u
  pub below : u < height l'

-- which rows have a number
pub data RowKind {ws : List ℕ} (s : WellFormed ws) (i k : ℕ) (l' : List Entry) : ℕ → Type 0 where
  path_row : (u : ℕ) → k / slot_bits < u → u ≤ height l' → RowKind s i k l' u
  chain_row_lem : (u : ℕ) → Chained s i k l' → InChain s l' u → RowKind s i k l' (chain_row + u)

-- the rows, the anchor and the numbers are those of the words after the store
module _ {ws : List ℕ} (s : WellFormed ws) (i k : ℕ) (l' : List Entry) where
  abbrev pub places_then : Places
  places_then = new_places s.list l' s.places

  abbrev pub num_then : Numbering
  num_then = number_in places_then

  pub record NewRows (rs ns : List ℕ) : Type 0 where
    pub anchor : (p : ℕ) → p < anchor_words → get_or (render l' places_then s.n) p 0 ≡ get_or rs p 0
    pub path_number : (u : ℕ) → k / slot_bits < u → u ≤ height l' → get_or ns u 0 ≡ num_then u (block (tier_order u) i)
    pub path_words : (u : ℕ) → k / slot_bits < u → u ≤ height l' → (f : ℕ) → IsField f →
        get_or rs (place u f) 0 ≡ field l' num_then u (block (tier_order u) i) f
    pub chain_number : Chained s i k l' → (u : ℕ) → InChain s l' u → get_or ns (chain_row + u) 0 ≡ num_then u 0
    pub chain_words_lem : Chained s i k l' → (u : ℕ) → InChain s l' u → (f : ℕ) → IsField f →
        get_or rs (place (chain_row + u) f) 0 ≡ field l' num_then u 0 f
    pub only : (r : ℕ) → r < row_count → get_or ns r 0 < s.n → RowKind s i k l' r
