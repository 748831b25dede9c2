-- `run_counted`: a batch of k commands, on slices that the check passed.
use Rattle.std.proofs.Common.{rules}
use native.Mathlib.Omega.{arith}
use Rattle.commands.proofs.BatchesLaws.{was_read, ahead}
use Rattle.xaplain.proofs.KeepLaws.{list_held, holds_checked}
use Rattle.xaplain_calls.proofs.CallLaws.{run_short, comes_refused, ran, as_ensures}
use Rattle.xaplain_calls.proofs.run_counted.Goals as goal

pub returns-then-room-k-clause-value : goal.returns-then-room-k-clause-value
returns-then-room-k-clause-value c =
    (as_ensures (comes_refused (run_short _ _ _ c.requires.marks_value (was_read c.requires.k_value)
    (omega arith)))).0

pub returns-then-room-k-clause-marks_after : goal.returns-then-room-k-clause-marks_after
returns-then-room-k-clause-marks_after c =
    ((as_ensures (comes_refused (run_short _ _ _ c.requires.marks_value (was_read c.requires.k_value)
    (omega arith)))).1).0

pub returns-then-room-k-clause-reply_after : goal.returns-then-room-k-clause-reply_after
returns-then-room-k-clause-reply_after c =
    ((as_ensures (comes_refused (run_short _ _ _ c.requires.marks_value (was_read c.requires.k_value)
    (omega arith)))).1).1

pub run_all-requires-clause-holds : goal.run_all-requires-clause-holds
run_all-requires-clause-holds c =
    let z = c in
    holds_checked (record { small = λ i. omega (arith, c.slice_known-1.given i) }) (record {
      small = λ i. omega (
        arith,
        c.slice_known-3-1.given i,
      );
    }) z.requires.marks_value c.count-n.ensures

pub run_all-requires-clause-ahead : goal.run_all-requires-clause-ahead
run_all-requires-clause-ahead c =
    let z = c in
    ahead z.args.reply.now (was_read z.requires.k_value) (omega arith)

pub returns-clause-value : goal.returns-clause-value
returns-clause-value c =
    let r = was_read c.requires.k_value in
    let h = holds_checked {is = c.args.index.now} {os = c.args.order.now} {ws = c.args.word.now} {ms = c.args.marks.now} (record {
      small = λ i. omega (
        arith,
        c.slice_known-1.given i,
      );
    }) (record {
      small = λ i. omega (
        arith,
        c.slice_known-3-1.given i,
      );
    }) c.requires.marks_value c.count-n.ensures in
    (as_ensures (ran c.requires.marks_value r (omega arith) (list_held h) (c.run_all.ensures.ends
    h r.cs r.rest))).0

pub returns-clause-marks_after : goal.returns-clause-marks_after
returns-clause-marks_after c =
    let r = was_read c.requires.k_value in
    let h = holds_checked {is = c.args.index.now} {os = c.args.order.now} {ws = c.args.word.now} {ms = c.args.marks.now} (record {
      small = λ i. omega (
        arith,
        c.slice_known-1.given i,
      );
    }) (record {
      small = λ i. omega (
        arith,
        c.slice_known-3-1.given i,
      );
    }) c.requires.marks_value c.count-n.ensures in
    let f = ((as_ensures (ran c.requires.marks_value r (omega arith) (list_held h) (c.run_all.ensures.ends
    h r.cs r.rest))).1).0 in
    search (rules, f)

pub returns-clause-reply_after : goal.returns-clause-reply_after
returns-clause-reply_after c =
    let r = was_read c.requires.k_value in
    let h = holds_checked {is = c.args.index.now} {os = c.args.order.now} {ws = c.args.word.now} {ms = c.args.marks.now} (record {
      small = λ i. omega (
        arith,
        c.slice_known-1.given i,
      );
    }) (record {
      small = λ i. omega (
        arith,
        c.slice_known-3-1.given i,
      );
    }) c.requires.marks_value c.count-n.ensures in
    ((as_ensures (ran c.requires.marks_value r (omega arith) (list_held h) (c.run_all.ensures.ends
    h r.cs r.rest))).1).1
