-- `find`: the first entry from first to last that the filter takes, in at most budget steps.
use Prim.Native.Nat.{◌-◌, ◌≤◌}
use mathlib.Core.Path.{◌≡◌}
use Rattle.layout.specs.WellFormed.{WellFormed}
use Rattle.lookup.specs.Find.{find_from, find}
use Rattle.lookup.proofs.find.find.Given as goal

abbrev pub invariant-loop-n : goal.invariant-loop-n
invariant-loop-n l = (l.n ≤ l.budget) ×
    ((s : WellFormed l.pool) → find_from s.list l.filter l.last (l.budget - l.n) l.p l.n ≡ find s.list l.first l.last l.filter
    l.budget)

abbrev pub decreases-loop-n : goal.decreases-loop-n
decreases-loop-n l = l.budget - l.n
