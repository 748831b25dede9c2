-- `enter_node`: where p lies, under the head node n.
use Prim.Native.Nat.{ℕ, ◌/◌}
use mathlib.Core.Path.{◌≡◌, ap, ◌∙◌}
use native.Mathlib.Omega.{arith}
use Rattle.blocks.specs.Blocks.{block}
use Rattle.tree.specs.Tree.{tier_order, slot_bits}
use Rattle.layout.specs.WellFormed.{WellFormed}
use Rattle.lookup.proofs.WordLaws.{node_fits_lem, tier_at}
use Rattle.lookup.proofs.HeadLaws.{enter_past, enter_under}
use Rattle.lookup.proofs.enter_node.Goals as goal

tier_is : (c : goal.After-shift_of-v) (s : WellFormed c.args.pool.now) →
    c.shift_of-v.result / slot_bits ≡ (c.requires.head_node s).tier
tier_is c s = let q = c.shift_of-v.ensures ∙ tier_at s (c.requires.head_node s).at_node_lem in omega arith

tier_is_2 : (c : goal.Then-block_of-ge-SLOTS) (s : WellFormed c.args.pool.now) →
    c.shift_of-v.result / slot_bits ≡ (c.requires.head_node s).tier
tier_is_2 c s = let q = c.shift_of-v.ensures ∙ tier_at s (c.requires.head_node s).at_node_lem in omega arith

tier_is_3 : (c : goal.Else-block_of-ge-SLOTS) (s : WellFormed c.args.pool.now) →
    c.shift_of-v.result / slot_bits ≡ (c.requires.head_node s).tier
tier_is_3 c s = let q = c.shift_of-v.ensures ∙ tier_at s (c.requires.head_node s).at_node_lem in omega arith

block_is : (c : goal.Then-block_of-ge-SLOTS) (s : WellFormed c.args.pool.now) →
    c.block_of.result ≡ block (tier_order (c.requires.head_node s).tier)
    c.args.p
block_is c s = c.block_of.ensures ∙ ap (λ (v : ℕ). block (tier_order v) c.args.p)
    (tier_is_2 c s)

block_is_2 : (c : goal.Else-block_of-ge-SLOTS) (s : WellFormed c.args.pool.now) →
    c.block_of.result ≡ block (tier_order (c.requires.head_node s).tier)
    c.args.p
block_is_2 c s = c.block_of.ensures ∙ ap (λ (v : ℕ). block (tier_order v) c.args.p)
    (tier_is_3 c s)

pub shift_of-v-requires : goal.shift_of-v-requires
shift_of-v-requires c =
    let s = c.requires.well_formed in omega (arith, (node_fits_lem s (c.requires.head_node s).at_node_lem).0)

pub block_of-requires : goal.block_of-requires
block_of-requires c =
    let s = c.requires.well_formed in
    omega (arith, tier_is c s, (c.requires.head_node s).tier_le)

pub returns-then-block_of-ge-SLOTS : goal.returns-then-block_of-ge-SLOTS
returns-then-block_of-ge-SLOTS c =
    λ s. enter_past (c.requires.head_node s) _
    (omega (arith, c.if-block_of-ge-SLOTS.true, block_is c s))

pub returns : goal.returns
returns c =
    λ s. enter_under (c.requires.head_node s) _ _ (tier_is_3 c s)
    (omega (arith, c.if-block_of-ge-SLOTS.false, block_is_2 c s))
