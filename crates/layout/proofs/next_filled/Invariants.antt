-- `next_filled`: the least slot of node n from o on, below end, that is not empty.
use Rattle.layout.specs.Reading.{Vacant}
use Rattle.layout.proofs.next_filled.Given as goal

abbrev pub invariant-loop-j : goal.invariant-loop-j
invariant-loop-j l = Vacant l.pool l.n l.o l.j
