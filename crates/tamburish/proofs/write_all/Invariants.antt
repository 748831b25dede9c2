-- `write_all`: it ends.
use Rattle.std.proofs.Common.{length}
use Rattle.tamburish.proofs.write_all.Given as goal

abbrev pub decreases-loop-rest : goal.decreases-loop-rest
decreases-loop-rest g l = length l.rest
