-- The part of the pool that a command may write (R39 to R41).
use Rattle.std.specs.Prelude.{ℕ, ◌+◌, ◌*◌, ◌^◌, Bool, true, false, List, leb, ltb, eqb, get_or}
use Rattle.std.proofs.Math.Option.{Option, none, some}
use Rattle.blocks.specs.Choice.{pick, both, either}
use Rattle.blocks.specs.Lists.{keep, up_to}
use Rattle.model.specs.declared.Entry.{Entry}
use Rattle.model.specs.Model.{covering}
use Rattle.tree.specs.Tree.{tier_order, height, Node}
use Rattle.layout.specs.Words.{anchor_words, pool_words, node_of}
use Rattle.batch.specs.declared.Command.{Command}
use Rattle.batch.specs.declared.Command.TheVariants.{Store, Load, Erase, Mark, Unmark, Find, Reserve}
use Rattle.execute.specs.Execute.{execute}
use Rattle.execute.specs.State.{State, next}

-- THE RANGE
-- 2^order indices, from an index on
pub record Range : Type 0 where
  pub index : ℕ
  pub order : ℕ

abbrev pub range_of : Range → Option Entry → Range
range_of r none = r
range_of r (some e) = pick (leb r.order e.order) (record { index = e.base; order = e.order }) r

-- the range that a command writes (document 01: the addressed run; R13, R39)
abbrev pub addressed : List Entry → Command → Range
addressed l (Store i k w) = range_of (record { index = i; order = k }) (covering l i)
addressed l (Load i) = record { index = i; order = 0 }
addressed l (Erase i) = range_of (record { index = i; order = 0 }) (covering l i)
addressed l (Mark i m) = range_of (record { index = i; order = 0 }) (covering l i)
addressed l (Unmark i m) = range_of (record { index = i; order = 0 }) (covering l i)
addressed l (Find a z f k) = record { index = a; order = 0 }
addressed l (Reserve i) = record { index = i; order = 0 }

-- the block of a node, from its first index on, meets the range
abbrev pub first_of : Node → ℕ
first_of p = p.number * 2 ^ tier_order p.tier

abbrev pub meets_range : Range → Node → Bool
meets_range r p =
    both (ltb r.index (first_of p + 2 ^ tier_order p.tier)) (ltb (first_of p) (r.index + 2 ^ r.order))

-- THE PART
-- the head of a list's tree
abbrev pub is_head : List Entry → Node → Bool
is_head l p = eqb p.tier (height l)

-- R39: heads, nodes allocated or freed, nodes that meet the range, by what stands at a number before and after
abbrev pub node_part : List Entry → List Entry → Range → Option Node → Option Node → Bool
node_part l l' r none none = false
node_part l l' r none (some q) = true
node_part l l' r (some p) none = true
node_part l l' r (some p) (some q) = either (is_head l p) (either (is_head l' q) (meets_range r p))

-- with the anchor
abbrev pub in_part : State → State → Range → ℕ → Bool
in_part s t r w =
    pick (ltb w anchor_words) true
    (node_part s.list t.list r (get_or s.places (node_of w) none)
    (get_or t.places (node_of w) none))

-- R40
abbrev pub changing : Command → Bool
changing (Store i k w) = true
changing (Load i) = false
changing (Erase i) = true
changing (Mark i m) = true
changing (Unmark i m) = true
changing (Find a z f k) = false
changing (Reserve i) = true

-- a command on a pool of n nodes may write word w
abbrev pub may_write : ℕ → State → Command → ℕ → Bool
may_write n s c w =
    both (changing c)
    (both (eqb (execute n s.list c).reply.answer 0) (in_part s (next n s c) (addressed s.list c) w))

-- the places of the words that it may write, all of them
abbrev pub part_of : ℕ → State → Command → List ℕ
part_of n s c = keep (may_write n s c) (up_to (λ w. w) 0 (pool_words n))
