use Rattle.assoc_keys.specs.Number.{key_words, SameFrom}
use Rattle.assoc_keys.proofs.less.Given as goal

abbrev pub invariant-loop-p : goal.invariant-loop-p
invariant-loop-p l = SameFrom l.a l.b l.i l.j l.p key_words
