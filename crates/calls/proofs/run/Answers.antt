-- `run`: runs a batch of commands on a pool, and writes 24 bytes of reply for each.
use Rattle.std.proofs.Common.{arith, ◌≡◌, sym, ap, ◌∙◌, refl, ℕ}
use Rattle.answers.specs.Answers.{result_of}
use Rattle.answers.proofs.ReportLaws.{told, went_on, was_no, of_err}
use Rattle.freemap.proofs.MapLaws.{blank_map_lem}
use Rattle.calls.proofs.CallLaws.{run_unchecked, run_bad, comes_refused, as_ensures}
use Rattle.calls.proofs.run.Goals as goal

pub check_map-requires : goal.check_map-requires
check_map-requires c =
    blank_map_lem

pub returns-in_err-check_map-clause-value : goal.returns-in_err-check_map-clause-value
returns-in_err-check_map-clause-value c =
    told _ _ c.in_err-check_map.was c.from_residual.ensures.1 c.check_map.ensures.value
    ∙ (as_ensures (comes_refused (run_unchecked _ _ _ (was_no c.in_err-check_map.was c.check_map.ensures.value)))).0

pub returns-in_err-check_map-clause-pool_after : goal.returns-in_err-check_map-clause-pool_after
returns-in_err-check_map-clause-pool_after c =
    (as_ensures (comes_refused (run_unchecked _ _ _ (was_no c.in_err-check_map.was c.check_map.ensures.value)))).1.0

pub returns-in_err-check_map-clause-reply_after : goal.returns-in_err-check_map-clause-reply_after
returns-in_err-check_map-clause-reply_after c =
    (as_ensures (comes_refused (run_unchecked _ _ _ (was_no c.in_err-check_map.was c.check_map.ensures.value)))).1.1

pub returns-in_err-k-clause-value : goal.returns-in_err-k-clause-value
returns-in_err-k-clause-value c =
    of_err _ _ c.from_residual-in_err-k.ensures.1
    ∙ (as_ensures (comes_refused (run_bad _ _ _ (sym (went_on c.in_ok-check_map.was c.check_map.ensures.value)) (sym c.in_err-k.was ∙ c.count.ensures)))).0

pub returns-in_err-k-clause-pool_after : goal.returns-in_err-k-clause-pool_after
returns-in_err-k-clause-pool_after c =
    (as_ensures (comes_refused (run_bad _ _ _ (sym (went_on c.in_ok-check_map.was c.check_map.ensures.value)) (sym c.in_err-k.was ∙ c.count.ensures)))).1.0

pub returns-in_err-k-clause-reply_after : goal.returns-in_err-k-clause-reply_after
returns-in_err-k-clause-reply_after c =
    (as_ensures (comes_refused (run_bad _ _ _ (sym (went_on c.in_ok-check_map.was c.check_map.ensures.value)) (sym c.in_err-k.was ∙ c.count.ensures)))).1.1
