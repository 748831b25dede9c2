-- `odd_part`: how many slots of node n from one up to another are filled, where each of these has an odd word.
use Rattle.scan.proofs.TallyLaws.{OddPassed}
use Rattle.scan.proofs.odd_part.Given as goal

abbrev pub invariant-loop-o : goal.invariant-loop-o
invariant-loop-o l = OddPassed l.pool l.n l.from l.o l.even l.c
