-- The canonical tree (document 01: the tree a list prescribes): head, nodes and marks (R16 to R20, R24 to R26).
--
-- A block of tier u has 2^(6u) indices. The node (u, b), of shift 6u - 6, covers block b of tier u; its slots are
-- the blocks of tier u - 1 in it. So the slot (u, c) leads to the node (u, c), and the head is the slot of block 0
-- of the head's tier, also where it is an entry or empty (tier 0).
use Rattle.std.specs.Prelude.{ℕ, ◌*◌, max, Bool, List, [], ◌∷◌, leb, ltb, length}
use Rattle.blocks.specs.Choice.{both}
use Rattle.blocks.specs.Lists.{any, without, least}
use Rattle.model.specs.Model.{starts, within, has_mark}
use Rattle.model.specs.declared.Entry.{Entry}
use Rattle.blocks.specs.Tiers.{blocks_of, nodes_from}
pub use Rattle.blocks.specs.Tiers.{Node, add, add_if, at}

-- R16
abbrev pub slot_bits : ℕ
slot_bits = 6

abbrev pub slots : ℕ
slots = 64

-- the tier of the nodes of shift 60
abbrev pub top_tier : ℕ
top_tier = 11

-- the order of the blocks of tier u
abbrev pub tier_order : ℕ → ℕ
tier_order u = slot_bits * u

-- THE HEAD
-- an entry fits under a head of tier h: its run lies in block 0 and its order is below the tier's (tier 0: order 0)
abbrev pub fits : ℕ → Entry → Bool
fits h e = both (ltb e.order (max 1 (tier_order h))) (starts (tier_order h) 0 e)

-- the tier of the head that an entry needs by itself
unfoldable pub tall : Entry → ℕ
tall e = least (λ h. fits h e) top_tier 0

-- R17 to R19; tier 0: no node
-- (HeadShift has the wording of the rules, and HeadShiftLaws that the two agree)
abbrev pub height : List Entry → ℕ
height [] = 0
height (e ∷ l) = max (tall e) (height l)

-- NODES
-- R20: the block of number b of tier u has a node
unfoldable pub has : List Entry → ℕ → ℕ → Bool
has l u b = both (leb u (height l)) (any (within (tier_order u) b) l)

-- the blocks of the nodes of tier u, ascending
abbrev pub blocks : ℕ → List Entry → List ℕ
blocks u l = blocks_of (λ e. e.base) (λ j e. ltb e.order j) (tier_order u) l

-- the nodes of tier u and below
abbrev pub nodes_to : ℕ → List Entry → List Node
nodes_to u l = nodes_from (λ v. blocks v l) u

abbrev pub nodes : List Entry → List Node
nodes l = nodes_to (height l) l

-- R85: the nodes that a new tree needs, and their number
abbrev pub new_nodes : List Entry → List Entry → List Node
new_nodes old l = without (λ p. has old p.tier p.number) (nodes l)

abbrev pub needed : List Entry → List Entry → ℕ
needed old l = length (new_nodes old l)

-- MARKS
-- R24, R25: no entry starts in a sibling slot
unfoldable pub slot_mark : List Entry → ℕ → ℕ → ℕ → Bool
slot_mark l m u c = any (λ e. both (starts (tier_order u) c e) (has_mark m e)) l
