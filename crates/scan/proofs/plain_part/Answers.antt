use Rattle.scan.proofs.TallyLaws.{passed_next}
use Rattle.scan.proofs.plain_part.Goals as goal

pub loop-o-preserved : goal.loop-o-preserved
loop-o-preserved c =
    passed_next _ _ _ _ _ _ _ _ c.loop-o.invariant c.slot_word.ensures c.lowest-u.ensures
