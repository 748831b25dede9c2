-- `over_unmarked`: the slots of node n from o on that are passed without a match, filter 0, 1 or 2.
use Prim.Native.Nat.{ℕ, ◌-◌, ◌≤◌}
use mathlib.Core.Path.{◌≡◌, sym, ap, subst, ◌∙◌}
use native.Mathlib.Omega.{arith}
use lib.ListN.{get_or}
use Rattle.layout.specs.Words.{slot_place}
use Rattle.blocks.specs.Blocks.{NextBit}
use Rattle.tree.specs.Tree.{slots}
use Rattle.layout.specs.Pool.{sibling_bit}
use Rattle.lookup.specs.Leap.{sibling_count}
use Rattle.layout.proofs.SlotWordLaws.{sibling_bit_le}
use Rattle.lookup.proofs.LeapLaws.{count_le}
use Rattle.lookup.proofs.LeapWordLaws.{leaps_marked}
use Rattle.lookup.proofs.find.over_unmarked.Goals as goal

pub overflow_sub-result-2 : goal.overflow_sub-result-2
overflow_sub-result-2 c =
    let a = c.args in
    let to : ℕ = c.next_marked-to.result in
    omega (
      arith,
      c.siblings-k.ensures,
      count_le (λ i. get_or a.pool.now (slot_place a.n i) 0) a.o (to - a.o),
    )

pub returns-clause-leaps : goal.returns-clause-leaps
returns-clause-leaps c =
    let a = c.args in
    let to : ℕ = c.next_marked-to.result in
    let x = c.next_marked-to.ensures in
    let le : sibling_count (λ i. get_or a.pool.now (slot_place a.n i) 0) a.o (to - a.o) ≤ to - a.o = count_le
    (λ i. get_or a.pool.now (slot_place a.n i) 0) a.o (to - a.o) in
    λ s v d b q pos.
    leaps_marked s d a.o b q a.m to _ c.requires.m_lt_mark_count
    (subst (λ (w : ℕ). NextBit slots w a.o to) c.mark_word-w.ensures x)
    (let z : sibling_bit c.slot_word.result ≡ 0 = omega (
      arith,
      c.if-sibling_bit-eq1.false,
      c.sibling_bit.ensures,
      sibling_bit_le c.slot_word.result,
    ) in
    ap sibling_bit (sym c.slot_word.ensures) ∙ z) (omega (arith, c.siblings-k.ensures)) pos
