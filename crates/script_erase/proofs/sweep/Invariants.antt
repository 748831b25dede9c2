use Rattle.script_erase.specs.Erased.{Swept}
use Rattle.script_erase.proofs.sweep.Given as goal

abbrev pub invariant-loop-u : goal.invariant-loop-u
invariant-loop-u l = Swept l.initial.rows l.rows l.v l.u
