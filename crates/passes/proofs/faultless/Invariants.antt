-- `faultless`: true only if no slot is at fault.
use mathlib.Core.Path.{◌≡◌}
use Rattle.passes.specs.Bytes.{ChainedTo}
use Rattle.passes.proofs.faultless.Given as goal

abbrev pub invariant-loop-j : goal.invariant-loop-j
invariant-loop-j l = l.bad ≡ 0 → ChainedTo l.a l.j
