use Rattle.layout.specs.Pool.{pool_of}
use Rattle.scan.proofs.TallyLaws.{odd_next}
use Rattle.scan.proofs.all_odd.Goals as goal

pub loop-o-preserved : goal.loop-o-preserved
loop-o-preserved c =
    let A = c.args in odd_next (pool_of A.pool.now) A.n _ _ _ c.loop-o.invariant c.slot_word-all.ensures
