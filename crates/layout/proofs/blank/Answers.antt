use Rattle.std.proofs.Common.{ℕ, ap, get_or, arith}
use Rattle.words.proofs.OrLaws.{ored_next}
use Rattle.layout.proofs.blank.Goals as goal

pub loop-f-preserved : goal.loop-f-preserved
loop-f-preserved c =
    ored_next _ _ _ _ _ c.loop-f.invariant (omega arith) (ap (λ (p : ℕ). get_or c.args.pool.now p 0) c.place.ensures)
