-- `blank`: whether the fields of block m from one up to another are 0.
use lib.ListN.{get_or}
use Rattle.assoc_layout.specs.Words.{place}
use Rattle.words.proofs.OrLaws.{Ored}
use Rattle.assoc_layout.proofs.blank.Given as goal

abbrev pub invariant-loop-f : goal.invariant-loop-f
invariant-loop-f l = Ored (λ k. get_or l.pool (place l.m k) 0) l.from l.f l.any
