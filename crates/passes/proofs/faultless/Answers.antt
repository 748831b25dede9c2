use Rattle.passes.proofs.ByteLaws.{chained_on}
use Rattle.passes.proofs.faultless.Goals as goal

pub loop-j-preserved : goal.loop-j-preserved
loop-j-preserved c = chained_on c.args.a.now _ _ _ c.loop-j.invariant c.fault-bad.ensures
