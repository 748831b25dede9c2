-- `close`: takes place k out of n.
use Rattle.xaplain.proofs.EraseLaws.{close_up}
use Rattle.xaplain.proofs.close.Goals as goal

pub returns : goal.returns
returns c =
    close_up _ _ _ _ _ c.requires.0 c.pull.ensures c.clear.ensures
