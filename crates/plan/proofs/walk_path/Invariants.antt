-- `walk_path`: the numbers of the nodes on the path, from the head, number first of tier h, down to tier v + 1 at most.
use Rattle.layout.specs.WellFormed.{WellFormed}
use Rattle.plan.proofs.WalkLaws.{Walking}
use Rattle.plan.proofs.walk_path.Given as goal

abbrev pub invariant-loop-u : goal.invariant-loop-u
invariant-loop-u l = (s : WellFormed l.pool) → Walking s l.index l.v l.h l.path l.u l.n
