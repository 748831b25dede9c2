-- What the slots of the tree hold, under a numbering of its nodes (R21 to R23, R31).
use Rattle.std.specs.Prelude.{ℕ, ◌+◌, ◌*◌, ◌%◌, ◌^◌, List}
use Rattle.std.proofs.Math.Option.{Option, none, some}
use Rattle.blocks.specs.Choice.{pick}
use Rattle.blocks.specs.Lists.{any}
use Rattle.blocks.specs.Blocks.{block}
use Rattle.model.specs.declared.Entry.{Entry}
use Rattle.model.specs.Model.{covering, starts, within}
use Rattle.tree.specs.Tree.{slots, tier_order}

-- R32
abbrev pub node_offset : ℕ
node_offset = 1024

-- R31: internal words
abbrev pub sibling_word : ℕ → ℕ
sibling_word o = 4 * o + 2

abbrev pub node_word : ℕ → ℕ
node_word n = 4 * (node_offset + n) + 2

-- `ν u b` is the number of the node (u, b)
abbrev pub Numbering : Type 0
Numbering = ℕ → ℕ → ℕ

-- R21: the word in the first slot, siblings after it
abbrev pub entry_word : ℕ → ℕ → Option Entry → ℕ
entry_word u c none = 0
entry_word u c (some e) =
    pick (starts (tier_order u) c e) e.word (sibling_word (block (tier_order u) e.base % slots))

-- the word of the slot of block c of tier u (R21 to R23)
unfoldable pub slot : List Entry → Numbering → ℕ → ℕ → ℕ
slot l ν u c =
    pick (any (within (tier_order u) c) l) (node_word (ν u c)) (entry_word u c (covering l (c * 2 ^ tier_order u)))
