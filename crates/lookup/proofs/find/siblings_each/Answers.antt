use Prim.Native.Nat.{ℕ, suc, ◌+◌, ◌-◌}
use mathlib.Core.Path.{◌≡◌, sym, ap, ◌∙◌}
use native.Mathlib.Omega.{arith}
use lib.ListN.{get_or}
use Rattle.layout.specs.Words.{slot_place}
use Rattle.layout.specs.Pool.{sibling_bit}
use Rattle.lookup.specs.Leap.{sibling_count}
use Rattle.layout.proofs.SlotWordLaws.{sibling_bit_le}
use Rattle.lookup.proofs.LeapLaws.{count_next, count_none}
use Rattle.lookup.proofs.find.siblings_each.Goals as goal

pub loop-j-init : goal.loop-j-init
loop-j-init c =
    (omega arith, count_none _ _ _ (omega arith))

pub loop-j-preserved : goal.loop-j-preserved
loop-j-preserved c =
    let a = c.args in
    let v = c.loop-j.invariant in
    let j : ℕ = c.loop-j.j in
    let r : c.sibling_bit-k.result ≡ sibling_bit c.slot_word.result = c.sibling_bit-k.ensures in
    let i : j + 1 - a.o ≡ suc (j - a.o) = omega arith in
    let d : a.o + (j - a.o) ≡ j = omega arith in (
      omega (arith, sibling_bit_le c.slot_word.result),
      ap (λ (x : ℕ). x + c.sibling_bit-k.result) v.1 ∙ ap (λ (x : ℕ). sibling_count
          (λ i. get_or a.pool.now (slot_place a.n i) 0) a.o (j - a.o) + x)
          (r ∙ ap sibling_bit (c.slot_word.ensures ∙ ap
          (λ (x : ℕ). get_or a.pool.now (slot_place a.n x) 0) (sym d))) ∙ sym
          (count_next (λ i. get_or a.pool.now (slot_place a.n i) 0) a.o (j - a.o) (j + 1 - a.o) i),
    )
