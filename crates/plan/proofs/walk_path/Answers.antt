use Prim.Native.Nat.{ℕ, ◌+◌, ◌-◌, ◌/◌, ◌%◌, ◌^◌}
use mathlib.Core.Path.{◌≡◌, sym, ap, ◌∙◌}
use mathlib.Core.List.{List}
use native.Mathlib.Omega.{arith}
use lib.ListN.{get_or, length-set}
use Rattle.blocks.specs.Blocks.{block}
use Rattle.tree.specs.Slots.{slot}
use Rattle.tree.specs.Tree.{tier_order, slots}
use Rattle.layout.specs.Places.{number_in}
use Rattle.layout.specs.WellFormed.{WellFormed}
use Rattle.layout.specs.Words.{slot_place}
use Rattle.plan.proofs.WalkLaws.{Walking, walk_lt, walk_read, walk_next, walk_end, walk_stop}
use Rattle.layout.proofs.RenderWordLaws.{pool_length_lem}
use Rattle.plan.proofs.walk_path.Goals as goal

read : (pool : List ℕ) (s : WellFormed pool) (i v h : ℕ) {ps : List ℕ} {u n : ℕ} (a w : ℕ) → Walking s i v h ps u n →
    a ≡ i / 2 ^ (tier_order (u - 1)) → w ≡ get_or pool (slot_place n (a % slots)) 0 →
    w ≡ slot s.list (number_in s.places) (u - 1) (block (tier_order (u - 1)) i)
read pool s i v h {u} {n} a w k e d = d ∙ (ap (λ (y : ℕ). get_or pool (slot_place n (y % slots)) 0) e ∙ walk_read
    s i v h k)

pub slot_word-w-requires : goal.slot_word-w-requires
slot_word-w-requires c =
    let s = c.requires.well_formed in
    omega (arith, walk_lt s c.args.index c.args.v c.args.h (c.loop-u.invariant s), pool_length_lem s)

pub returns-then-not-is_node : goal.returns-then-not-is_node
returns-then-not-is_node c =
    let e : c.loop-u.u - 1 + 1 ≡ c.loop-u.u = omega arith in
    λ s. rw e (walk_stop s c.args.index c.args.v c.args.h (c.loop-u.invariant s) c.slot_word-w.result
    (read _ s c.args.index c.args.v c.args.h c.block_of.result c.slot_word-w.result (c.loop-u.invariant s)
    c.block_of.ensures c.slot_word-w.ensures) (sym c.is_node.ensures ∙ c.if-not-is_node.true))

pub loop-u-preserved : goal.loop-u-preserved
loop-u-preserved c =
    λ s. walk_next s c.args.index c.args.v c.args.h (c.loop-u.invariant s) c.slot_word-w.result
    (read _ s c.args.index c.args.v c.args.h c.block_of.result c.slot_word-w.result (c.loop-u.invariant s)
    c.block_of.ensures c.slot_word-w.ensures) (sym c.is_node.ensures ∙ c.if-not-is_node.false)
    (omega (arith, c.loop-u-test.true))
    (omega (arith, c.loop-u.auto.path, length-set c.args.path.now c.args.h c.args.first, c.loop-u.auto.u, c.requires.v_lt_h))
    (c.requires.h_value s).0 _
    c.node_number-n.ensures

pub returns : goal.returns
returns c =
    λ s.
    let k = c.loop-u.invariant s in
    let e : c.loop-u.u ≡ c.args.v + 1 = omega (arith, k.low_u) in
    rw (← e) (walk_end s c.args.index c.args.v c.args.h k (omega arith))
