-- `run_erase`: an erase, its reply and the words.
use mathlib.Core.Path.{ap, ◌∙◌}
use Rattle.batch.specs.Reply.{erase_reply}
use Rattle.commands.specs.Replies.{covered_reply}
use Rattle.execute.proofs.ReplyLaws.{erases}
use Rattle.execute.proofs.run_erase.Goals as goal

pub returns-clause-executes : goal.returns-clause-executes
returns-clause-executes c =
    (λ s. erases s _ (c.covered_reply.ensures ∙ ap (covered_reply erase_reply)
    (c.erase-c.ensures.value s)) (c.erase-c.ensures.pool_after s))
