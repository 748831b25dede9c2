use Rattle.assoc_check.specs.Checking.{Leaves}
use Rattle.assoc_check.proofs.leaves_ok.Given as goal

abbrev pub invariant-loop-k : goal.invariant-loop-k
invariant-loop-k l = Leaves l.pool l.n l.m l.k
