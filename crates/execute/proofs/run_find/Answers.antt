-- `run_find`: a find, its reply; the words stay.
use mathlib.Core.Path.{sym, ap, ◌∙◌}
use Rattle.batch.specs.Reply.{find_reply}
use Rattle.execute.specs.Execute.{finding}
use Rattle.commands.specs.Commands.{Executed}
use Rattle.execute.proofs.ReplyLaws.{find_mark, find_first, find_budget, find_runs}
use Rattle.execute.proofs.run_find.Goals as goal

pub returns-then-filter-gt-ANY_MARK : goal.returns-then-filter-gt-ANY_MARK
returns-then-filter-gt-ANY_MARK c =
    λ s. c.answered_as.ensures
    ∙ sym (ap (λ (x : Executed). x.reply) (find_mark s.n s.list _ _ _ _ c.if-filter-gt-ANY_MARK.true))

pub returns-then-first-last : goal.returns-then-first-last
returns-then-first-last c =
    λ s. c.answered_as-then-first-last.ensures
    ∙ sym (ap (λ (x : Executed). x.reply) (find_first s.n s.list _ _ _ _ c.if-filter-gt-ANY_MARK.false
    c.if-first-last.true))

pub returns-then-budget-eq0 : goal.returns-then-budget-eq0
returns-then-budget-eq0 c =
    λ s. c.answered_as-then-budget-eq0.ensures
    ∙ sym (ap (λ (x : Executed). x.reply)
    (find_budget s.n s.list _ _ _ _ c.if-filter-gt-ANY_MARK.false c.if-first-last.false
    c.if-budget-eq0.true))

pub returns : goal.returns
returns c =
    λ s. c.found_reply.ensures ∙ ap (finding find_reply) (c.find.ensures s)
    ∙ sym (ap (λ (x : Executed). x.reply)
    (find_runs s.n s.list _ _ _ _ c.if-filter-gt-ANY_MARK.false
    c.if-first-last.false c.if-budget-eq0.false))
