use Rattle.scan.proofs.TallyLaws.{odd_on}
use Rattle.scan.proofs.odd_part.Goals as goal

pub loop-o-preserved : goal.loop-o-preserved
loop-o-preserved c =
    odd_on _ _ _ _ _ _ _ _ c.loop-o.invariant c.slot_word-w.ensures c.even_part-even.ensures
