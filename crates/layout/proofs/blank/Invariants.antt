-- `blank`: whether the words of node n from one field up to another are 0.
use lib.ListN.{get_or}
use Rattle.layout.specs.Words.{place}
use Rattle.words.proofs.OrLaws.{Ored}
use Rattle.layout.proofs.blank.Given as goal

abbrev pub invariant-loop-f : goal.invariant-loop-f
invariant-loop-f l = Ored (λ k. get_or l.pool (place l.n k) 0) l.from l.f l.any
