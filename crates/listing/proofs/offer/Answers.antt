-- `offer`: an entry as the next of the listing, if its run meets the range.
use Prim.Native.Nat.{◌+◌, ◌^◌, ◌≤◌, ◌<◌}
use mathlib.Core.Path.{◌≡◌}
use mathlib.Core.Bool.{true, false}
use native.Mathlib.Omega.{arith}
use Rattle.blocks.proofs.BlockLaws.{pow_pos}
use Rattle.model.specs.Model.{meets}
use Rattle.listing.proofs.EmitLaws.{offered_no, offered_counted, offered_written}
use Rattle.listing.proofs.BetweenLaws.{beyond_no, before_no, meets_i}
use Rattle.listing.proofs.offer.Goals as goal

met : (c : goal.Then-range-k) → meets c.args.range.first c.args.range.last
    c.args.e ≡ true
met c =
    let lo : c.args.e.base ≤ c.args.range.last = omega (arith, c.if-range-e.false) in
    let hi : c.args.range.first < c.args.e.base + 2 ^ c.args.e.order = omega (
      arith,
      c.pow2.ensures,
      c.if-e-pow2.false,
      pow_pos c.args.e.order,
    ) in
    meets_i c.args.range.first c.args.range.last c.args.e lo hi

met_2 : (c : goal.After-slice_known-2-1) → meets c.args.range.first c.args.range.last
    c.args.e ≡ true
met_2 c =
    let lo : c.args.e.base ≤ c.args.range.last = omega (arith, c.if-range-e.false) in
    let hi : c.args.range.first < c.args.e.base + 2 ^ c.args.e.order = omega (
      arith,
      c.pow2.ensures,
      c.if-e-pow2.false,
      pow_pos c.args.e.order,
    ) in
    meets_i c.args.range.first c.args.range.last c.args.e lo hi

ended : (c : goal.Then-e-pow2) → meets c.args.range.first c.args.range.last
    c.args.e ≡ false
ended c =
    let le : c.args.e.base + 2 ^ c.args.e.order ≤ c.args.range.first = omega (
      arith,
      c.pow2.ensures,
      c.if-e-pow2.true,
      pow_pos c.args.e.order,
    ) in
    before_no c.args.range.first c.args.range.last c.args.e le

pub returns-then-range-e : goal.returns-then-range-e
returns-then-range-e c =
    offered_no c.args.range.room c.args.range.first c.args.range.last c.args.e _ c.args.k
    (beyond_no c.args.range.first c.args.range.last c.args.e c.if-range-e.true)

pub returns-then-e-pow2 : goal.returns-then-e-pow2
returns-then-e-pow2 c =
    offered_no c.args.range.room c.args.range.first c.args.range.last c.args.e _ c.args.k (ended c)

pub returns-then-range-k : goal.returns-then-range-k
returns-then-range-k c =
    offered_counted c.args.range.room c.args.range.first c.args.range.last c.args.e _ c.args.k (met c) c.if-range-k.true

pub returns : goal.returns
returns c =
    let lt : c.args.k < c.args.range.room = omega (arith, c.if-range-k.false) in
    offered_written c.args.range.room c.args.range.first c.args.range.last c.args.e _ c.args.k _ (met_2 c) lt
    c.write_entry.ensures
