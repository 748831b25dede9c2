-- `run_load`: a load, its reply; the words stay.
use mathlib.Core.Path.{sym, ap, ◌∙◌}
use Rattle.batch.specs.Reply.{load_reply}
use Rattle.commands.specs.Commands.{Executed}
use Rattle.execute.specs.Promised.{loaded_reply}
use Rattle.execute.proofs.ReplyLaws.{load_runs}
use Rattle.execute.proofs.run_load.Goals as goal

pub returns : goal.returns
returns c =
    λ s. c.loaded_reply.ensures ∙ ap (loaded_reply load_reply) (c.load.ensures s)
    ∙ sym (ap (λ (x : Executed). x.reply) (load_runs s.n s.list _))
