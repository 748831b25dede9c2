use Rattle.script_erase.proofs.LoopLaws.{Going}
use Rattle.script_erase.proofs.lower_head.Given as goal

abbrev pub invariant-loop-i : goal.invariant-loop-i
invariant-loop-i l = Going l.pool l.initial.rows l.initial.nums l.i l.order l.top l.rows l.nums l.u l.r l.w

abbrev pub decreases-loop-i : goal.decreases-loop-i
decreases-loop-i l = l.u
