-- `seek`: the last text of an index in a sheet. Known so far, and what the rest comes to, stay together what the sheet comes to.
use Prim.Native.Nat.{◌-◌, ◌≤◌}
use mathlib.Core.Path.{◌≡◌}
use lib.ListN.{length}
use Rattle.evidence.specs.Sheets.{seek, sought_in, rest_at}
use Rattle.evidence.proofs.seek.Given as goal

abbrev pub invariant-loop-at : goal.invariant-loop-at
invariant-loop-at l = (l.at ≤ length l.s) × (sought_in l.s l.index l.best (rest_at l.s l.at) ≡ seek l.s l.index)

abbrev pub decreases-loop-at : goal.decreases-loop-at
decreases-loop-at l = length l.s - l.at
