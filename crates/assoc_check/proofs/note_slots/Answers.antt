use Rattle.assoc_tree.specs.Parts.{slots}
use Rattle.assoc_check.specs.Seen.{slot_names}
use Rattle.assoc_check.proofs.SeenLaws.{not_named}
use Rattle.assoc_check.proofs.PassLaws.{few_none}
use Rattle.assoc_check.proofs.note_slots.Goals as goal

pub returns-then-t-lt2 : goal.returns-then-t-lt2
returns-then-t-lt2 c =
    λ f s. not_named (slot_names c.args.pool.now c.args.n c.args.m slots) s (few_none c.args.pool.now c.args.n c.args.m c.args.t c.requires.2 c.if-t-lt2.true c.requires.3)
