-- An erase in rows: row u is that of the path's node of tier u, row 12 + u that of the node of block 0 of tier u where
-- that is another one.
use Rattle.std.specs.Prelude.{ℕ, ◌+◌, ◌/◌, ◌≤◌, ◌<◌, ◌≡◌, Bool, true, false, ◌⊎◌, List, eqb, length, get_or}
use Rattle.std.proofs.Math.Option.{none, some}
use Rattle.blocks.specs.Choice.{pick}
use Rattle.blocks.specs.Blocks.{block}
use Rattle.blocks.specs.Lists.{any}
use Rattle.model.specs.declared.Entry.{Entry}
use Rattle.model.specs.Model.{Valid, covering, within, marks_of}
use Rattle.tree.specs.Tree.{slot_bits, tier_order, height, has}
use Rattle.tree.specs.Slots.{Numbering, slot}
use Rattle.layout.specs.Words.{count_word, head_word, marks_word, spare_word, place, pool_words, node_end, owner_field, owner_place, filled_place, slot_place, IsField}
use Rattle.layout.specs.Reading.{is_node}
use Rattle.layout.specs.WellFormed.{WellFormed, num}
use Rattle.erase.specs.Tall.{tall_at}
use Rattle.script_table.specs.Table.{row_count}
use Rattle.script_rows.specs.Becomes.{Becomes}
use Rattle.script_same.specs.Same.{PathThere}

abbrev pub chain_row : ℕ → ℕ
chain_row u = 12 + u

-- an entry of order k covers i
pub record Standing (l : List Entry) (i k : ℕ) : Type 0 where
  pub entry : Entry
  pub covering_is : covering l i ≡ some entry
  pub order_is : entry.order ≡ k

-- it leaves the list; top is the head's tier
pub record Erases {ws : List ℕ} (s : WellFormed ws) (i k top : ℕ) (l' : List Entry) : Type 0 where
  pub standing : Standing s.list i k
  pub there : PathThere s i (k / slot_bits) top
  pub becomes : Becomes i k none s.list l'
  pub valid : Valid l'

-- the node of block 0 of tier u is none of the path's from tier v + 1 up
abbrev pub Off : (i v u : ℕ) → Type 0
Off i v u = v < u → block (tier_order u) i ≡ 0 → ⊥

-- r is its row
pub record HeadRow (i v u r : ℕ) : Type 0 where
  pub on : v < u → block (tier_order u) i ≡ 0 → r ≡ u
  pub off : Off i v u → r ≡ chain_row u

-- field f of the node (u, b) of the list under a head of tier t: 0 where there is none
abbrev pub tall_field : (t : ℕ) → List Entry → Numbering → (u b f : ℕ) → ℕ
tall_field t l ν u b f = tall_at t l ν (some (record { tier = u; number = b })) f

-- row r is that of the node of block 0 of a tier from t up
pub record InChain {ws : List ℕ} (s : WellFormed ws) (i v top t r : ℕ) : Type 0 where
  pub tier : ℕ
  pub low : t ≤ tier
  pub high : tier ≤ top
  pub off : Off i v tier
  pub there : has s.list tier 0 ≡ true
  pub row_is : r ≡ chain_row tier

-- the rows have the words of the list under a head of tier t: those of the path, and those of block 0 from that tier up
pub record Lowered {ws : List ℕ} (s : WellFormed ws) (i v top t : ℕ) (l' : List Entry) (rs ns : List ℕ) : Type 0 where
  pub fit : height l' ≤ t
  pub path : (u : ℕ) → v < u → u ≤ top → (f : ℕ) → IsField f →
      get_or rs (place u f) 0 ≡ tall_field t l' (num s) u (block (tier_order u) i) f
  pub path_number : (u : ℕ) → v < u → u ≤ top → get_or ns u 0 ≡ num s u (block (tier_order u) i)
  pub chain : (u : ℕ) → t ≤ u → u ≤ top → Off i v u → has s.list u 0 ≡ true → (f : ℕ) → IsField f →
      get_or rs (place (chain_row u) f) 0 ≡ tall_field t l' (num s) u 0 f
  pub chain_number : (u : ℕ) → t ≤ u → u ≤ top → Off i v u → has s.list u 0 ≡ true → get_or ns (chain_row u) 0 ≡ num s u 0
  pub only : (r : ℕ) → r < row_count → get_or ns r 0 < s.n → ((v < r) × (r ≤ top)) ⊎ InChain s i v top t r

-- the rows of the tiers above v and below u become 0 where no slot is filled; all else stays
pub record Swept (rs rs' : List ℕ) (v u : ℕ) : Type 0 where
  pub same_length : length rs' ≡ length rs
  pub below : (p : ℕ) → p < pool_words (v + 1) → get_or rs' p 0 ≡ get_or rs p 0
  pub rows : (x : ℕ) → v < x → x < u → (f : ℕ) → IsField f →
      get_or rs' (place x f) 0 ≡ pick (eqb (get_or rs (filled_place x) 0) 0) 0 (get_or rs (place x f) 0)
  pub above : (p : ℕ) → pool_words u ≤ p → get_or rs' p 0 ≡ get_or rs p 0

-- row r, of a node of tier u, has slot 0 alone, and that can be a head: a node, or, in a node of shift 0, an entry
pub record Drops (rs : List ℕ) (r u : ℕ) (b : Bool) : Type 0 where
  pub alone : b ≡ true → get_or rs (filled_place r) 0 ≡ 1
  pub full : b ≡ true → get_or rs (slot_place r 0) 0 ≡ 0 → ⊥
  pub can : b ≡ true → (is_node (get_or rs (slot_place r 0) 0) ≡ true) ⊎ (u ≡ 1)
  pub cannot : b ≡ false → get_or rs (filled_place r) 0 ≡ 1 → (get_or rs (slot_place r 0) 0 ≡ 0 → ⊥) →
      (is_node (get_or rs (slot_place r 0) 0) ≡ false) × (u ≡ 1 → ⊥)

-- the node of block 0 of tier u, of number n, becomes the head: row r is its row, or becomes a copy, and its owner is 0
pub record Taken (ws : List ℕ) (i v u n : ℕ) (rs rs' ns ns' : List ℕ) (r : ℕ) : Type 0 where
  pub row_is : HeadRow i v u r
  pub owner_is : get_or rs' (owner_place r) 0 ≡ 0
  pub stays : v < u → block (tier_order u) i ≡ 0 → (f : ℕ) → IsField f → (f ≡ owner_field → ⊥) →
      get_or rs' (place u f) 0 ≡ get_or rs (place u f) 0
  pub copied : Off i v u → (f : ℕ) → IsField f → (f ≡ owner_field → ⊥) →
      get_or rs' (place (chain_row u) f) 0 ≡ get_or ws (place n f) 0
  pub rest : (p : ℕ) → (pool_words r ≤ p → p < node_end r → ⊥) → get_or rs' p 0 ≡ get_or rs p 0
  pub number_is : Off i v u → get_or ns' (chain_row u) 0 ≡ n
  pub numbers_stay : v < u → block (tier_order u) i ≡ 0 → (q : ℕ) → get_or ns' q 0 ≡ get_or ns q 0
  pub numbers_rest : (q : ℕ) → (q ≡ chain_row u → ⊥) → get_or ns' q 0 ≡ get_or ns q 0

-- the head has come down to tier t: its node is that of block 0, row r has its words, w is its word
pub record Headed {ws : List ℕ} (s : WellFormed ws) (i v top t : ℕ) (l' : List Entry) (rs ns : List ℕ) (w r : ℕ) : Type 0 where
  pub lowered : Lowered s i v top t l' rs ns
  pub there : any (within (tier_order t) 0) l' ≡ true
  pub row_is : HeadRow i v t r
  pub word_is : w ≡ slot l' (num s) t 0

-- there is such a list, under the old head
pub record Lowering (ws : List ℕ) (i k top : ℕ) (rs ns : List ℕ) : Type 0 where
  pub formed : WellFormed ws
  pub list : List Entry
  pub erases : Erases formed i k top list
  pub lowered : Lowered formed i (k / slot_bits) top top list rs ns
  pub there : any (within (tier_order top) 0) list ≡ true

-- the head has come down as far as it does, and w is its word
pub record Landed {ws : List ℕ} (s : WellFormed ws) (i v top : ℕ) (l' : List Entry) (rs ns : List ℕ) (w : ℕ) : Type 0 where
  pub lowered : Lowered s i v top (height l') l' rs ns
  pub word_is : w ≡ slot l' (num s) (height l') 0

-- the anchor of the rows, but for the head's word
pub record Anchored (n : ℕ) (l' : List Entry) (rs : List ℕ) : Type 0 where
  pub count_is : get_or rs count_word 0 ≡ n
  pub marks_is : get_or rs marks_word 0 ≡ marks_of l'
  pub spare_is : get_or rs spare_word 0 ≡ 0

-- the rows of the path are swept, under the old head, and the head's word is 0
pub record SweptPath {ws : List ℕ} (s : WellFormed ws) (i v top : ℕ) (l' : List Entry) (rs ns : List ℕ) : Type 0 where
  pub lowered : Lowered s i v top top l' rs ns
  pub anchored : Anchored s.n l' rs
  pub head_is : get_or rs head_word 0 ≡ 0
