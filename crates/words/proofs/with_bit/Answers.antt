-- `with_bit`: a bit set by OR, or cleared by AND.
use Rattle.std.proofs.Common.{ℕ, ◌≡◌, ◌+◌, ◌-◌, ◌*◌, ◌^◌, ◌<◌, ◌≤◌, Bool, true, false, arith}
use Rattle.std.proofs.lemmas.Nat.{and-not, and_comm}
use Rattle.std.proofs.lemmas.Nat.Bits.{and_pow}
use lib.Bits.{bit_or, bit_and, or_add_and, and_le_l}
use Rattle.blocks.specs.Blocks.{bit, set_bit}
use Rattle.words.proofs.with_bit.Goals as goal

bit_on : (w j p : ℕ) (on : Bool) → p ≡ 2 ^ j → on ≡ true → bit_or w p ≡ set_bit j on w
bit_on w j p on e t =
    let s : bit_or w (2 ^ j) + bit_and w (2 ^ j) ≡ w + 2 ^ j = or_add_and w (2 ^ j) in
    let m : bit_and w (2 ^ j) ≡ bit j w * 2 ^ j = and_pow w j in
    let l : bit_and w (2 ^ j) ≤ w = and_le_l w (2 ^ j) in
    rw (e, t) (omega arith)

bit_off : (w j p : ℕ) (on : Bool) → p ≡ 2 ^ j → on ≡ false → w < 2 ^ 64 → p < 2 ^ 64 → bit_and w (2 ^ 64 - 1 - p) ≡ set_bit j on w
bit_off w j p on e t f g =
    let s : bit_and (2 ^ 64 - 1 - p) w + bit_and p w ≡ w = and-not 64 p w g f in
    let c : bit_and w (2 ^ 64 - 1 - p) ≡ bit_and (2 ^ 64 - 1 - p) w = and_comm _ _ in
    let d : bit_and p w ≡ bit_and w p = and_comm _ _ in
    let m : bit_and w p ≡ bit j w * 2 ^ j = rw e (and_pow w j) in
    rw t (omega arith)

pub returns-then-on : goal.returns-then-on
returns-then-on c = bit_on _ _ _ _ c.pow2.ensures c.if-on.true

pub returns-else-on : goal.returns-else-on
returns-else-on c = bit_off _ _ _ _ c.pow2-else-on.ensures c.if-on.false c.ranges.w.fits c.pow2-else-on.type_inv
