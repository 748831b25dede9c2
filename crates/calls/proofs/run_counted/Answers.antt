-- `run_counted`: a batch of k commands, on a pool that the check passed.
use native.Mathlib.Omega.{arith}
use Rattle.verify.proofs.AnswerLaws.{accepted}
use Rattle.commands.proofs.BatchesLaws.{was_read, ahead}
use Rattle.calls.proofs.CallLaws.{run_short, comes_refused, ran, as_ensures}
use Rattle.calls.proofs.run_counted.Goals as goal

pub returns-then-room-k-clause-value : goal.returns-then-room-k-clause-value
returns-then-room-k-clause-value c =
    (as_ensures (comes_refused (run_short _ _ _ c.requires.pool_value (was_read c.requires.k_value) (omega arith)))).0

pub returns-then-room-k-clause-pool_after : goal.returns-then-room-k-clause-pool_after
returns-then-room-k-clause-pool_after c =
    ((as_ensures (comes_refused (run_short _ _ _ c.requires.pool_value (was_read c.requires.k_value) (omega arith)))).1).0

pub returns-then-room-k-clause-reply_after : goal.returns-then-room-k-clause-reply_after
returns-then-room-k-clause-reply_after c =
    ((as_ensures (comes_refused (run_short _ _ _ c.requires.pool_value (was_read c.requires.k_value) (omega arith)))).1).1

pub run_all-requires-clause-well_formed : goal.run_all-requires-clause-well_formed
run_all-requires-clause-well_formed c =
    accepted _ c.requires.pool_value

pub run_all-requires-clause-ahead : goal.run_all-requires-clause-ahead
run_all-requires-clause-ahead c =
    ahead c.args.reply.now (was_read c.requires.k_value) (omega arith)

pub returns-clause-value : goal.returns-clause-value
returns-clause-value c =
    let r = was_read c.requires.k_value in
    (as_ensures (ran c.requires.pool_value r (omega arith) (c.run_all.ensures (accepted _ c.requires.pool_value) r.cs r.rest))).0

pub returns-clause-pool_after : goal.returns-clause-pool_after
returns-clause-pool_after c =
    let r = was_read c.requires.k_value in
    ((as_ensures (ran c.requires.pool_value r (omega arith) (c.run_all.ensures (accepted _ c.requires.pool_value) r.cs r.rest))).1).0

pub returns-clause-reply_after : goal.returns-clause-reply_after
returns-clause-reply_after c =
    let r = was_read c.requires.k_value in
    ((as_ensures (ran c.requires.pool_value r (omega arith) (c.run_all.ensures (accepted _ c.requires.pool_value) r.cs r.rest))).1).1
