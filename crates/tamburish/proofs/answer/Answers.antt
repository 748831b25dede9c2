use Rattle.std.proofs.Common.{ap₂, refl, ◌∙◌, take}
use Rattle.tamburish.proofs.WrittenLaws.{program_writes}
use Rattle.tamburish.proofs.answer.Goals as goal

pub returns-clause-output_after : goal.returns-clause-output_after
returns-clause-output_after c =
    ap₂ take c.respond.ensures.value c.respond.ensures.reply_after ∙ program_writes _ _ _ refl c.requires.output_len
