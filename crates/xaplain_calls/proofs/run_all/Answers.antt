use mathlib.Core.Path.{refl, sym, ◌∙◌}
use native.Mathlib.Omega.{arith}
use Rattle.batch.proofs.ParseLaws.{next_after}
use Rattle.batch.proofs.BoundLaws.{read_fits}
use Rattle.commands.proofs.BatchesLaws.{room_for, stands}
use Rattle.xaplain_calls.proofs.RunningLaws.{running_start, running_on, running_end}
use Rattle.xaplain_calls.proofs.run_all.Goals as goal

pub loop-at-init : goal.loop-at-init
loop-at-init c =
    record { running = running_start c.requires.holds c.requires.ahead; kept = (refl, refl, refl, refl) }

pub record_at-r-requires : goal.record_at-r-requires
record_at-r-requires c =
    stands c.loop-at.invariant.running.ahead (omega arith)

pub run_one-entries-requires-clause-reply_bytes_in_bounds : goal.run_one-entries-requires-clause-reply_bytes_in_bounds
run_one-entries-requires-clause-reply_bytes_in_bounds c =
    room_for c.loop-at.invariant.running.ahead c.record_at-r.ensures

pub loop-at-smaller : goal.loop-at-smaller
loop-at-smaller c =
    omega (arith, next_after _ _ (sym c.record_at-r.ensures))

pub loop-at-preserved : goal.loop-at-preserved
loop-at-preserved c =
    let a = c.loop-at.invariant.kept in let b = c.run_one-entries.ensures.kept in
    record {
      running = running_on c.loop-at.invariant.running c.record_at-r.ensures (read_fits (record { small = λ i. omega (arith, c.shared_slice_known-1.given i) }) _ (sym c.record_at-r.ensures))
          (c.run_one-entries.ensures.turns c.loop-at.invariant.running.held) c.run_one-entries.auto.reply;
      kept = (b.0 ∙ a.0, b.1 ∙ a.1, b.2 ∙ a.2, b.3 ∙ a.3);
    }

pub returns-clause-ends : goal.returns-clause-ends
returns-clause-ends c =
    λ h cs e. running_end c.loop-at.invariant.running (omega arith) h cs e
