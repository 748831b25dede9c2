use mathlib.Core.Path.{◌≡◌}
use lib.ListN.{length}
use Rattle.script_same.specs.Same.{Numbered}
use Rattle.script_same.proofs.number_rows.Given as goal

abbrev pub invariant-loop-r : goal.invariant-loop-r
invariant-loop-r l = (length l.nums ≡ length l.initial.nums) × Numbered l.nums l.path l.v l.top l.n l.r
