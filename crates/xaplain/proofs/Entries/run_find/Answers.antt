-- `run_find`: a find, its reply; the slices stay.
use mathlib.Core.Path.{sym, ap, ◌∙◌}
use lib.ListN.{length}
use Rattle.commands.specs.Commands.{Executed}
use Rattle.xaplain.proofs.CommandLaws.{find_mark, find_first, find_budget, find_reply_lem}
use Rattle.xaplain.proofs.Entries.run_find.Goals as goal

pub returns-then-s-gt-ANY_MARK : goal.returns-then-s-gt-ANY_MARK
returns-then-s-gt-ANY_MARK c =
    λ h. c.answered_as.ensures ∙ sym (ap (λ (x : Executed). x.reply) (find_mark (length c.args.self.index.now) h.list _ _ _ _ c.if-s-gt-ANY_MARK.true))

pub returns-then-s : goal.returns-then-s
returns-then-s c =
    λ h. c.answered_as-then-s.ensures ∙ sym (ap (λ (x : Executed). x.reply) (find_first (length c.args.self.index.now) h.list _ _
    _ _ c.if-s-gt-ANY_MARK.false c.if-s.true))

pub returns-then-s-eq0 : goal.returns-then-s-eq0
returns-then-s-eq0 c =
    λ h. c.answered_as-then-s-eq0.ensures ∙ sym (ap (λ (x : Executed). x.reply) (find_budget (length c.args.self.index.now) h.list _
    _ _ _ c.if-s-gt-ANY_MARK.false c.if-s.false c.if-s-eq0.true))

pub returns : goal.returns
returns c =
    λ h. c.found_reply.ensures ∙ find_reply_lem (length c.args.self.index.now) h.list _ _ _ _ c.if-s-gt-ANY_MARK.false c.if-s.false c.if-s-eq0.false (c.find.ensures h)
