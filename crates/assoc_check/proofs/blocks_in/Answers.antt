use Rattle.assoc_check.proofs.NamedLaws.{counts}
use Rattle.assoc_check.proofs.blocks_in.Goals as goal

pub returns : goal.returns
returns c = counts _ _ c.records_in.ensures
