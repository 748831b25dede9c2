-- `eight_reserved`: whether the eight words from k on are reservations'.
use Prim.Native.Nat.{◌+◌}
use mathlib.Core.Bool.{not}
use lib.Dec.{eqb}
use lib.ListN.{get_or}
use mir.Val.{bool_byte}
use Rattle.model.specs.Model.{reserved_word}
use Rattle.words.proofs.OrLaws.{Ored}
use Rattle.xaplain.proofs.eight_reserved.Given as goal

abbrev pub invariant-loop-j : goal.invariant-loop-j
invariant-loop-j l = Ored (λ i. bool_byte (not (eqb (get_or l.word (l.k + i) 0) reserved_word))) 0 l.j l.other
