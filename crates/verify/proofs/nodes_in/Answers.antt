use Rattle.verify.proofs.AnswerLaws.{counts}
use Rattle.verify.proofs.nodes_in.Goals as goal

pub returns : goal.returns
returns c = counts _ _ c.records_in.ensures
