-- `store_new`: the part of the list between two searches gives way to one entry, if that fits.
use Prim.Native.Nat.{◌+◌, ◌-◌, ◌*◌, ◌^◌, ◌%◌, ◌≤◌, ◌<◌}
use mathlib.Core.Path.{ap, ◌∙◌}
use lib.ListN.{length}
use native.Mathlib.Omega.{arith}
use Rattle.blocks.proofs.BlockLaws.{pow_pos}
use Rattle.model.proofs.AlignedLaws.{whole}
use Rattle.xaplain.proofs.PlainLaws.{holds_rises}
use Rattle.xaplain.proofs.LoopLaws.{shl_one, end_fits}
use Rattle.xaplain.specs.Moves.{Parts, Splits, kept_from}
use Rattle.xaplain.proofs.LentLaws.{held, of_index}
use Rattle.xaplain.proofs.StoredLaws.{new_short, new_done}
use Rattle.xaplain.proofs.EntriesMut.store_new.Goals as goal

pub starts_below-p-requires-clause-rising : goal.starts_below-p-requires-clause-rising
starts_below-p-requires-clause-rising c = holds_rises (held c.lent-s.ensures c.requires.holds)

pub overflow_add-last : goal.overflow_add-last
overflow_add-last c =
    let k≤ = c.requires.k_le_max_order.0 in
    rw (shl_one c.args.k k≤)
    (omega (arith, pow_pos c.args.k, end_fits c.args.k c.args.i k≤ c.ranges.i.fits (whole c.args.i c.args.k c.requires.k_le_max_order.1)))

pub position-q-requires-clause-rising : goal.position-q-requires-clause-rising
position-q-requires-clause-rising c = holds_rises (held c.lent-s.ensures c.requires.holds)

pub returns-then-s-count-clause-stores : goal.returns-then-s-count-clause-stores
returns-then-s-count-clause-stores c =
    λ h. new_short h c.args.i c.args.k c.args.w _ _ c.requires.k_le_max_order.0 (of_index c.lent-s.ensures (λ x. Parts x c.args.n c.args.i c.starts_below-p.result) c.starts_below-p.ensures)
    (of_index c.lent-s.ensures (λ x. Splits x c.args.n (c.args.i + (1 * 2 ^ c.args.k % 18446744073709551616 - 1)) c.position-q.result) c.position-q.ensures)
    (of_index c.lent-s.ensures (λ x. length x < c.starts_below-p.result + 1 + (c.args.n - c.position-q.result)) c.if-s-count.true)

pub returns-clause-stores : goal.returns-clause-stores
returns-clause-stores c =
    λ h. new_done h c.args.i c.args.k c.args.w _ _ c.requires.k_le_max_order.0 (of_index c.lent-s.ensures (λ x. Parts x c.args.n c.args.i c.starts_below-p.result) c.starts_below-p.ensures)
    (of_index c.lent-s.ensures (λ x. Splits x c.args.n (c.args.i + (1 * 2 ^ c.args.k % 18446744073709551616 - 1)) c.position-q.result) c.position-q.ensures) _
    c.requires.k_le_max_order.1 (c.requires.list_value h)
    (of_index c.lent-s.ensures (λ x. c.starts_below-p.result + 1 + (c.args.n - c.position-q.result) ≤ length x) c.if-s-count.false)
    (c.kept.ensures ∙ ap (λ x. kept_from x (c.position-q.result - c.starts_below-p.result) c.starts_below-p.result) c.lent-s.ensures.marks_are) (c.put.ensures.list_after h)
