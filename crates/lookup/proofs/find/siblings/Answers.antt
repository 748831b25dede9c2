-- `siblings`: how many slots of node n from o on, below to, are siblings.
use Prim.Native.Nat.{◌+◌, ◌-◌, ◌≤◌}
use mathlib.Core.Path.{sym}
use native.Mathlib.Omega.{arith}
use lib.ListN.{get_or}
use Rattle.tree.specs.Tree.{slots}
use Rattle.layout.specs.Words.{slot_place}
use Rattle.layout.proofs.SlotWordLaws.{sibling_bit_0}
use Rattle.lookup.proofs.LeapLaws.{count_zero}
use Rattle.lookup.proofs.find.siblings.Goals as goal

pub returns-then-plain_slots : goal.returns-then-plain_slots
returns-then-plain_slots c =
    let a = c.args in
    let le : a.to ≤ slots = c.requires.o_le_to.1 in
    sym (count_zero (λ i. get_or a.pool.now (slot_place a.n i) 0) a.o (a.to - a.o)
    (λ i lt. sibling_bit_0 (get_or a.pool.now (slot_place a.n (a.o + i)) 0)
    (λ e h. c.plain_slots.ensures.0 c.if-plain_slots.true (a.o + i) (omega arith) (omega arith) e)))
