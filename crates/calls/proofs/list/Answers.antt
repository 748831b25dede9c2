-- `list`: the entries whose run meets first to last, in index order.
use Rattle.std.proofs.Common.{arith, ◌≡◌, sym, ap, ◌∙◌, refl, Ok, Err}
use Rattle.answers.proofs.ReportLaws.{told, went_on, was_no, of_err, of_refused}
use Rattle.verify.proofs.AnswerLaws.{accepted}
use Rattle.calls.specs.Calls.{list_result}
use Rattle.calls.proofs.ListCallLaws.{list_unchecked, list_turned, list_refused, list_result_lem, list_buffer}
use Rattle.calls.proofs.list.Goals as goal

pub returns-in_err-check-clause-value : goal.returns-in_err-check-clause-value
returns-in_err-check-clause-value c =
    told _ _ c.in_err-check.was c.from_residual.ensures.1 c.check.ensures
    ∙ (list_refused _ _ _ _ _ refl (list_unchecked _ _ _ _ (was_no c.in_err-check.was c.check.ensures))).0

pub returns-in_err-check-clause-buffer_after : goal.returns-in_err-check-clause-buffer_after
returns-in_err-check-clause-buffer_after c =
    (list_refused _ _ _ _ _ refl (list_unchecked _ _ _ _ (was_no c.in_err-check.was c.check.ensures))).1

pub returns-then-last-first-clause-value : goal.returns-then-last-first-clause-value
returns-then-last-first-clause-value c =
    let ok = sym (went_on c.in_ok-check.was c.check.ensures) in
    of_refused _ c.from.ensures refl
    ∙ (list_refused _ _ _ _ _ refl (list_turned _ _ _ _ ok c.if-last-first.true)).0

pub returns-then-last-first-clause-buffer_after : goal.returns-then-last-first-clause-buffer_after
returns-then-last-first-clause-buffer_after c =
    let ok = sym (went_on c.in_ok-check.was c.check.ensures) in
    (list_refused _ _ _ _ _ refl (list_turned _ _ _ _ ok c.if-last-first.true)).1

pub list-requires : goal.list-requires
list-requires c =
    accepted _ (sym (went_on c.in_ok-check.was c.check.ensures))

pub returns-in_err-list-clause-value : goal.returns-in_err-list-clause-value
returns-in_err-list-clause-value c =
    let ok = sym (went_on c.in_ok-check.was c.check.ensures) in
    of_err _ _ c.from_residual-in_err-list.ensures.1
    ∙ ap list_result (sym c.in_err-list.was) ∙ list_result_lem _ _ _ _ ok c.if-last-first.false _ c.list.ensures.value

pub returns-in_err-list-clause-buffer_after : goal.returns-in_err-list-clause-buffer_after
returns-in_err-list-clause-buffer_after c =
    let ok = sym (went_on c.in_ok-check.was c.check.ensures) in
    list_buffer _ _ _ _ ok c.if-last-first.false c.list.ensures.buffer_after

pub returns-clause-value : goal.returns-clause-value
returns-clause-value c =
    let ok = sym (went_on c.in_ok-check.was c.check.ensures) in
    ap list_result (sym c.in_ok-list.was) ∙ list_result_lem _ _ _ _ ok c.if-last-first.false _ c.list.ensures.value

pub returns-clause-buffer_after : goal.returns-clause-buffer_after
returns-clause-buffer_after c =
    let ok = sym (went_on c.in_ok-check.was c.check.ensures) in
    list_buffer _ _ _ _ ok c.if-last-first.false c.list.ensures.buffer_after
