-- `draw`: so far the lowest numbers are drawn, and the map has the others.
use Rattle.std.proofs.Common.{ℕ, ◌+◌, ◌≤◌, Bool, get_or}
use Rattle.freemap.specs.FreeMap.{map_count, MapOf, Sound, Drawn}
use Rattle.freemap.proofs.draw.Given as goal

abbrev pub invariant-loop-i : goal.invariant-loop-i
invariant-loop-i l = record {
  sound : Sound l.map;
  left : l.need ≤ get_or l.map map_count 0 + l.i;
  drawn : (f : ℕ → Bool) → MapOf f l.initial.map → Drawn f l.i l.nums l.map;
}
