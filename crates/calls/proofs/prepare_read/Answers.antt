-- `prepare_read`: the command that was read at the start of the bytes.
use mathlib.Core.Path.{sym, ◌∙◌, refl}
use Rattle.answers.proofs.ReportLaws.{of_refused}
use Rattle.verify.proofs.AnswerLaws.{accepted}
use Rattle.preparing.proofs.OneLaws.{more_none, same_none, one_some}
use Rattle.preparing.proofs.PrepareLaws.{told_none, told_command}
use Rattle.calls.proofs.prepare_read.Goals as goal

pub returns-then-at-bytes-clause-value : goal.returns-then-at-bytes-clause-value
returns-then-at-bytes-clause-value c =
    of_refused _ c.from.ensures refl ∙ (told_none _ _ _ c.requires.pool_value (more_none _ c.requires.at_value c.if-at-bytes.true)).0

pub returns-then-at-bytes-clause-script_after : goal.returns-then-at-bytes-clause-script_after
returns-then-at-bytes-clause-script_after c =
    (told_none _ _ _ c.requires.pool_value (more_none _ c.requires.at_value c.if-at-bytes.true)).1

pub returns-then-not-changes-clause-value : goal.returns-then-not-changes-clause-value
returns-then-not-changes-clause-value c =
    of_refused _ c.from-then-not-changes.ensures refl ∙ (told_none _ _ _ c.requires.pool_value (same_none _ c.requires.at_value (sym c.changes.ensures ∙ c.if-not-changes.true))).0

pub returns-then-not-changes-clause-script_after : goal.returns-then-not-changes-clause-script_after
returns-then-not-changes-clause-script_after c =
    (told_none _ _ _ c.requires.pool_value (same_none _ c.requires.at_value (sym c.changes.ensures ∙ c.if-not-changes.true))).1

pub prepare_command-requires-clause-well_formed : goal.prepare_command-requires-clause-well_formed
prepare_command-requires-clause-well_formed c =
    accepted _ c.requires.pool_value

pub returns-clause-value : goal.returns-clause-value
returns-clause-value c =
    (told_command _ _ _ c.requires.pool_value
    (one_some _ c.requires.at_value c.if-at-bytes.false (sym c.changes.ensures ∙ c.if-not-changes.false))
    c.prepare_command.ensures.fact c.prepare_command.ensures.fact_2).0

pub returns-clause-script_after : goal.returns-clause-script_after
returns-clause-script_after c =
    (told_command _ _ _ c.requires.pool_value
    (one_some _ c.requires.at_value c.if-at-bytes.false (sym c.changes.ensures ∙ c.if-not-changes.false))
    c.prepare_command.ensures.fact c.prepare_command.ensures.fact_2).1
