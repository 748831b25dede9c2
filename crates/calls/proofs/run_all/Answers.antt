use mathlib.Core.Path.{refl, sym, ◌∙◌}
use native.Mathlib.Omega.{arith}
use Rattle.batch.proofs.ParseLaws.{next_after}
use Rattle.batch.proofs.BoundLaws.{read_fits}
use Rattle.commands.proofs.BatchesLaws.{room_for, stands}
use Rattle.calls.proofs.RunningLaws.{running_start, running_on, running_end}
use Rattle.calls.proofs.run_all.Goals as goal

pub loop-at-init : goal.loop-at-init
loop-at-init c =
    (refl, refl, running_start c.requires.well_formed c.requires.free_map c.requires.ahead)

pub step_at-s-requires : goal.step_at-s-requires
step_at-s-requires c =
    stands c.loop-at.invariant.2.ahead (omega arith)

pub run_one-requires-clause-reply_bytes_in_bounds : goal.run_one-requires-clause-reply_bytes_in_bounds
run_one-requires-clause-reply_bytes_in_bounds c =
    room_for c.loop-at.invariant.2.ahead c.step_at-s.ensures

pub loop-at-smaller : goal.loop-at-smaller
loop-at-smaller c =
    omega (arith, next_after _ _ (sym c.step_at-s.ensures))

pub loop-at-preserved : goal.loop-at-preserved
loop-at-preserved c = (
  c.run_one.auto.pool ∙ c.loop-at.invariant.0,
  c.run_one.auto.map ∙ c.loop-at.invariant.1,
  running_on c.loop-at.invariant.2 c.step_at-s.ensures
      (read_fits (record { small = λ i. omega (arith, c.shared_slice_known-1.given i) }) _ (sym c.step_at-s.ensures))
      (c.run_one.ensures.turned c.loop-at.invariant.2.formed) c.run_one.ensures.free_map_2 c.run_one.auto.reply,
)

pub returns : goal.returns
returns c =
    λ s cs e. running_end c.loop-at.invariant.2 (omega arith) s cs e
