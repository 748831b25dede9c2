-- The words of the pool (R27 to R30): the layout's constants, and each word of the anchor and of a node. Here alone
-- stands which field of a node is which; other crates use the places by name, and the laws of layout/proofs/FieldLaws.
--
-- the pool    anchor_words, node_words, max_nodes, pool_words; place: field f of node n; node_of, field_in: back from a place
-- the anchor  count_word, head_word, marks_word, spare_word
-- a node      shift_field, owner_field, filled_field, mark_field, slot_field; shift_place, owner_place, ..: the same as places
-- its words   shift_word, owner_word, filled_of; field_of: field f from these, the marks and the slots
use Rattle.std.specs.Prelude.{ℕ, suc, ◌+◌, ◌*◌, ◌-◌, ◌/◌, ◌%◌, ◌<◌, Bool, not, List, leb, ltb, eqb}
use Rattle.std.proofs.Math.Option.{Option, none, some}
use Rattle.blocks.specs.Choice.{pick, both}
use Rattle.blocks.specs.Blocks.{bits_to, count_to}
use Rattle.model.specs.declared.Entry.{Entry}
use Rattle.model.specs.Model.{marks_of, mark_count}
use Rattle.tree.specs.Tree.{slot_bits, slots, tier_order, height, Node, slot_mark}
use Rattle.tree.specs.Slots.{Numbering, slot}

-- R27
abbrev pub anchor_words : ℕ
anchor_words = 4

abbrev pub node_words : ℕ
node_words = 70

abbrev pub max_nodes : ℕ
max_nodes = 16384

-- the words of a pool of n nodes, which is also where node n begins; words in records: blocks/specs/Records
abbrev pub pool_words : ℕ → ℕ
pool_words n = anchor_words + node_words * n

-- field f of node n
abbrev pub place : ℕ → ℕ → ℕ
place n f = pool_words n + f

-- where node n ends
abbrev pub node_end : ℕ → ℕ
node_end n = place n node_words

-- the node that word i after the anchor is of, and its field there
abbrev pub node_of : ℕ → ℕ
node_of i = (i - anchor_words) / node_words

abbrev pub field_in : ℕ → ℕ
field_in i = (i - anchor_words) % node_words

-- R28
abbrev pub count_word : ℕ
count_word = 0

abbrev pub head_word : ℕ
head_word = 1

abbrev pub marks_word : ℕ
marks_word = 2

abbrev pub spare_word : ℕ
spare_word = 3

-- R29
abbrev pub shift_field : ℕ
shift_field = 0

abbrev pub owner_field : ℕ
owner_field = 1

abbrev pub filled_field : ℕ
filled_field = 2

abbrev pub mark_field : ℕ
mark_field = 3

abbrev pub slot_field : ℕ
slot_field = 6

abbrev pub last_field : ℕ
last_field = node_words - 1

-- f is a field of a node
abbrev pub IsField : ℕ → Type 0
IsField f = f < node_words

-- the fields of the word of mark m and of slot o
abbrev pub field_mark : ℕ → ℕ
field_mark m = mark_field + m

abbrev pub field_slot : ℕ → ℕ
field_slot o = slot_field + o

-- the places of the words of node n: its shift, its owner, its filled count, the word of mark m, slot o; and its last word
abbrev pub shift_place : ℕ → ℕ
shift_place n = place n shift_field

abbrev pub owner_place : ℕ → ℕ
owner_place n = place n owner_field

abbrev pub filled_place : ℕ → ℕ
filled_place n = place n filled_field

abbrev pub mark_place : ℕ → ℕ → ℕ
mark_place n m = place n (field_mark m)

abbrev pub slot_place : ℕ → ℕ → ℕ
slot_place n o = place n (field_slot o)

abbrev pub last_place : ℕ → ℕ
last_place n = place n last_field

-- R29: f is the field of a mark word
abbrev pub is_mark : ℕ → Bool
is_mark f = both (leb mark_field f) (ltb f (mark_field + mark_count))

-- R220: how many of a node's slots are not 0
abbrev pub filled_of : (slot : ℕ → ℕ) → ℕ
filled_of slot = count_to (λ o. not (eqb (slot o) 0)) slots

-- R29: field f of a node, by its first two words, its mark words and its slots
unfoldable pub field_of : (shift owner : ℕ) → (mark slot : ℕ → ℕ) → ℕ → ℕ
field_of shift owner mark slot f =
    pick (eqb f shift_field) shift
    (pick (eqb f owner_field) owner
    (pick (eqb f filled_field) (filled_of slot)
    (pick (is_mark f) (mark (f - mark_field))
    (slot (f - slot_field)))))

-- shift + 1, for a node of tier u
abbrev pub shift_word : ℕ → ℕ
shift_word u = tier_order u - (slot_bits - 1)

-- the owner of a node in slot o of node n
abbrev pub owner_word : ℕ → ℕ → ℕ
owner_word n o = 1 + slots * n + o

-- the owner of the node (u, b) under a head of tier h, which has 0
abbrev pub owner_under : ℕ → Numbering → ℕ → ℕ → ℕ
owner_under h ν u b = pick (eqb u h) 0 (owner_word (ν (suc u) (b / slots)) (b % slots))

module _ (l : List Entry) (ν : Numbering) where
  abbrev pub owner : ℕ → ℕ → ℕ
  owner = owner_under (height l) ν

  -- the mark word m of the node (u, b)
  abbrev pub mark_word : ℕ → ℕ → ℕ → ℕ
  mark_word u b m = bits_to (λ j. slot_mark l m (u - 1) (slots * b + j)) slots

  -- its slot o
  abbrev pub slot_word : ℕ → ℕ → ℕ → ℕ
  slot_word u b o = slot l ν (u - 1) (slots * b + o)

  -- field f of the node (u, b) under a head of tier h; of the tree, that is the list's own
  abbrev pub field_under : ℕ → ℕ → ℕ → ℕ → ℕ
  field_under h u b f = field_of (shift_word u) (owner_under h ν u b) (mark_word u b) (slot_word u b) f

  abbrev pub field : ℕ → ℕ → ℕ → ℕ
  field = field_under (height l)

  -- field f of what stands at a number; a free node (document 01: blank) is all zeros (R30)
  abbrev pub field_at : Option Node → ℕ → ℕ
  field_at none f = 0
  field_at (some p) f = field p.tier p.number f

  -- word i of the anchor of a pool of n nodes (R28; the marks: R26)
  abbrev pub anchor_word : ℕ → ℕ → ℕ
  anchor_word n i =
      pick (eqb i count_word) n
      (pick (eqb i head_word) (slot l ν (height l) 0)
      (pick (eqb i marks_word) (marks_of l) 0))
