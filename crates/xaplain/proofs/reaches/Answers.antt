use Rattle.xaplain.proofs.FindLaws.{reach_test}
use Rattle.xaplain.proofs.reaches.Goals as goal

pub returns-else-a-e : goal.returns-else-a-e
returns-else-a-e c = reach_test _ _ _ c.if-a-e.false
