use Rattle.freemap.specs.FreeMap.{Sound}
use Rattle.layout.specs.WellFormed.{WellFormed}
use Rattle.script_wide.specs.Going.{Going}
use Rattle.script_wide.proofs.mark_going.Given as goal

abbrev pub invariant-loop-m : goal.invariant-loop-m
invariant-loop-m l = Sound l.map × ((s : WellFormed l.pool) → Going s l.map l.base l.order l.m)
