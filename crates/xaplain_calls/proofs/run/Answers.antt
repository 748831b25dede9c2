-- `run`: runs a batch of commands on the slices.
use Rattle.std.proofs.Common.{sym, ◌∙◌}
use Rattle.answers.proofs.ReportLaws.{told, went_on, was_no, of_err}
use Rattle.xaplain_calls.proofs.CallLaws.{run_unchecked, run_bad, comes_refused, as_ensures}
use Rattle.xaplain_calls.proofs.run.Goals as goal

pub returns-in_err-check-clause-value : goal.returns-in_err-check-clause-value
returns-in_err-check-clause-value c =
    told _ _ c.in_err-check.was c.from_residual.ensures.1 c.check.ensures
    ∙ (as_ensures (comes_refused (run_unchecked _ _ _ (was_no c.in_err-check.was c.check.ensures)))).0

pub returns-in_err-check-clause-marks_after : goal.returns-in_err-check-clause-marks_after
returns-in_err-check-clause-marks_after c =
    (as_ensures (comes_refused (run_unchecked _ _ _ (was_no c.in_err-check.was c.check.ensures)))).1.0

pub returns-in_err-check-clause-reply_after : goal.returns-in_err-check-clause-reply_after
returns-in_err-check-clause-reply_after c =
    (as_ensures (comes_refused (run_unchecked _ _ _ (was_no c.in_err-check.was c.check.ensures)))).1.1

pub returns-in_err-k-clause-value : goal.returns-in_err-k-clause-value
returns-in_err-k-clause-value c =
    of_err _ _ c.from_residual-in_err-k.ensures.1
    ∙ (as_ensures (comes_refused (run_bad _ _ _ (sym (went_on c.in_ok-check.was c.check.ensures)) (sym c.in_err-k.was ∙ c.count_through.ensures)))).0

pub returns-in_err-k-clause-marks_after : goal.returns-in_err-k-clause-marks_after
returns-in_err-k-clause-marks_after c =
    (as_ensures (comes_refused (run_bad _ _ _ (sym (went_on c.in_ok-check.was c.check.ensures)) (sym c.in_err-k.was ∙ c.count_through.ensures)))).1.0

pub returns-in_err-k-clause-reply_after : goal.returns-in_err-k-clause-reply_after
returns-in_err-k-clause-reply_after c =
    (as_ensures (comes_refused (run_bad _ _ _ (sym (went_on c.in_ok-check.was c.check.ensures)) (sym c.in_err-k.was ∙ c.count_through.ensures)))).1.1
