-- `plain_part`: how many slots of node n from one up to another are filled, where none has an internal word.
use Rattle.scan.proofs.TallyLaws.{Passed}
use Rattle.scan.proofs.plain_part.Given as goal

abbrev pub invariant-loop-o : goal.invariant-loop-o
invariant-loop-o l = Passed l.pool l.n l.from l.o l.inner l.c
