use Prim.Native.Nat.{◌-◌}
use mathlib.Core.Path.{◌≡◌, refl, sym, subst}
use mathlib.Core.Bool.{true}
use native.Mathlib.Omega.{arith}
use Rattle.script_erase.specs.Erased.{Drops}
use Rattle.script_erase.proofs.LoopLaws.{going_start, going_stays, going_flat, anchor_stays, number_fits, going_next}
use Rattle.script_erase.proofs.lower_head.Goals as goal

pub loop-i-init : goal.loop-i-init
loop-i-init c =
    going_start c.args.rows.now c.args.nums.now c.requires.slot_bits_bound.0 c.requires.slot_bits_bound.1 refl

pub returns-then-not-drops-clause-landed : goal.returns-then-not-drops-clause-landed
returns-then-not-drops-clause-landed c =
    going_stays c.loop-i.invariant (subst (Drops c.loop-i.rows c.loop-i.r c.loop-i.u) c.if-not-drops.true c.drops.ensures)

pub returns-then-u-eq0-clause-landed : goal.returns-then-u-eq0-clause-landed
returns-then-u-eq0-clause-landed c =
    let d : Drops c.loop-i.rows c.loop-i.r c.loop-i.u true = subst (Drops c.loop-i.rows c.loop-i.r c.loop-i.u) c.if-not-drops.false c.drops.ensures in
    rw c.clear_node.ensures (going_flat c.loop-i.invariant d c.requires.slot_bits_bound.1 c.requires.slot_bits_bound.2 c.slot_word-w.ensures c.if-u-eq0.true)

pub returns-then-u-eq0-clause-by_index : goal.returns-then-u-eq0-clause-by_index
returns-then-u-eq0-clause-by_index c =
    let d : Drops c.loop-i.rows c.loop-i.r c.loop-i.u true = subst (Drops c.loop-i.rows c.loop-i.r c.loop-i.u) c.if-not-drops.false c.drops.ensures in
    rw c.clear_node.ensures (anchor_stays c.loop-i.invariant d c.requires.slot_bits_bound.1 c.requires.slot_bits_bound.2 c.slot_word-w.ensures)

pub take_head-r-requires-clause-n_in_bounds : goal.take_head-r-requires-clause-n_in_bounds
take_head-r-requires-clause-n_in_bounds c =
    let d : Drops c.loop-i.rows c.loop-i.r c.loop-i.u true = subst (Drops c.loop-i.rows c.loop-i.r c.loop-i.u) c.if-not-drops.false c.drops.ensures in
    let nz : c.loop-i.u - 1 ≡ 0 → ⊥ = c.if-u-eq0.false in
    number_fits c.loop-i.invariant d c.requires.slot_bits_bound.1 c.requires.slot_bits_bound.2 c.slot_word-w.ensures
    (omega arith) c.node_number.ensures c.requires.lowering

pub loop-i-preserved : goal.loop-i-preserved
loop-i-preserved c =
    let d : Drops c.loop-i.rows c.loop-i.r c.loop-i.u true = subst (Drops c.loop-i.rows c.loop-i.r c.loop-i.u) c.if-not-drops.false c.drops.ensures in
    let nz : c.loop-i.u - 1 ≡ 0 → ⊥ = c.if-u-eq0.false in
    going_next c.loop-i.invariant d c.requires.slot_bits_bound.1 c.requires.slot_bits_bound.2 c.slot_word-w.ensures (omega arith) c.node_number.ensures
    (rw (sym c.clear_node.ensures) c.take_head-r.ensures.taken) c.take_head-r.ensures.upper_bound
    (rw (sym c.clear_node.ensures) c.take_head-r.auto.rows) c.take_head-r.auto.nums
