use Rattle.std.proofs.Common.{arith}
use Rattle.layout.proofs.PassLaws.{tested_next}
use Rattle.layout.proofs.plain_slots.Goals as goal

pub loop-o-preserved : goal.loop-o-preserved
loop-o-preserved c =
    tested_next _ _ _ _ _ _ _ c.loop-o.invariant (omega arith) c.slot_word.ensures c.internal_bit-inner.ensures
