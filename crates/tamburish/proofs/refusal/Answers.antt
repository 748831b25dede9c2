use Rattle.tamburish.proofs.ProgramLaws.{refusal_is}
use Rattle.tamburish.proofs.refusal.Goals as goal

pub returns-clause-reply_after : goal.returns-clause-reply_after
returns-clause-reply_after c = refusal_is _ _ _ c.requires
