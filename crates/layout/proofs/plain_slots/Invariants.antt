-- `plain_slots`: whether no slot of node n from one up to another has an internal word.
use Rattle.layout.proofs.PassLaws.{Tested}
use Rattle.layout.proofs.plain_slots.Given as goal

abbrev pub invariant-loop-o : goal.invariant-loop-o
invariant-loop-o l = Tested l.pool l.n l.from l.o l.inner
