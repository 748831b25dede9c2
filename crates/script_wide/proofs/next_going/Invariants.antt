use Prim.Native.Nat.{◌-◌, ◌≤◌}
use Rattle.freemap.specs.FreeMap.{map_nodes}
use Rattle.script_wide.specs.Going.{Clear}
use Rattle.script_wide.proofs.next_going.Given as goal

abbrev pub invariant-loop-x : goal.invariant-loop-x
invariant-loop-x l = (l.m ≤ l.x) × (l.x ≤ map_nodes) × Clear l.map l.m l.x

abbrev pub decreases-loop-x : goal.decreases-loop-x
decreases-loop-x l = map_nodes - l.x
