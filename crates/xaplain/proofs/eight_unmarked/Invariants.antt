-- `eight_unmarked`: whether none of the eight marks words from k on has mark m.
use Prim.Native.Nat.{◌+◌}
use lib.ListN.{get_or}
use Rattle.blocks.specs.Blocks.{bit}
use Rattle.words.proofs.OrLaws.{Ored}
use Rattle.xaplain.proofs.eight_unmarked.Given as goal

abbrev pub invariant-loop-j : goal.invariant-loop-j
invariant-loop-j l = Ored (λ i. bit l.m (get_or l.marks (l.k + i) 0)) 0 l.j l.marked
