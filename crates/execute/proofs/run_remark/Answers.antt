-- A mark and an unmark by the laws of either, at the bit.
use Prim.Native.Nat.{ℕ}
use mathlib.Core.Path.{ap, ap₂, ◌∙◌}
use Rattle.batch.specs.Reply.{answered}
use Rattle.erase.proofs.FreedLaws.{map_remark}
use Rattle.answers.specs.Answers.{bad_mark}
use Rattle.execute.specs.Promised.{remarking}
use Rattle.commands.specs.Replies.{covered_reply}
use Rattle.execute.proofs.ReplyLaws.{leaves, remarks, remark_above, remark_runs}
use Rattle.execute.proofs.run_remark.Goals as goal

pub returns-then-mark-ge-MARKS-clause-executes : goal.returns-then-mark-ge-MARKS-clause-executes
returns-then-mark-ge-MARKS-clause-executes c =
    (λ s. leaves s (remarking c.args.index c.args.mark c.args.on)
    (remark_above s.n s.list c.args.index c.args.mark c.args.on c.if-mark-ge-MARKS.true)
    (c.answered_as.ensures ∙ ap (λ (t : ℕ). answered t bad_mark 0 0) c.remarked_tag-tag.ensures))

pub returns-clause-executes : goal.returns-clause-executes
returns-clause-executes c =
    (λ s. remarks s (remarking c.args.index c.args.mark c.args.on) _ _ _ c.args.on
    (remark_runs s.n s.list c.args.index c.args.mark c.args.on c.if-mark-ge-MARKS.false)
    (c.covered_reply.ensures ∙ ap₂ covered_reply c.remarked_tag-tag.ensures (c.set_mark-c.ensures.value s)) (c.set_mark-c.ensures.pool_after s))

pub returns-clause-by_index : goal.returns-clause-by_index
returns-clause-by_index c =
    λ ms u. map_remark c.requires _ _ c.args.on c.if-mark-ge-MARKS.false (c.set_mark-c.ensures.pool_after c.requires) u
