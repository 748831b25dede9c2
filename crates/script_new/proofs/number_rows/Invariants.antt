use mathlib.Core.Path.{◌≡◌}
use lib.ListN.{length}
use Rattle.script_new.specs.Chain.{NewNumbers}
use Rattle.script_new.proofs.number_rows.Given as goal

abbrev pub invariant-loop-r : goal.invariant-loop-r
invariant-loop-r l = (length l.nums ≡ length l.initial.nums) × NewNumbers l.nums l.path l.chain l.v l.top l.low l.n l.r
