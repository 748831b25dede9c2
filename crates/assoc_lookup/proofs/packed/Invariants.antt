use Prim.Native.Nat.{◌-◌}
use mathlib.Core.Path.{◌≡◌}
use Rattle.assoc_lookup.specs.Lookup.{packed_step}
use Rattle.assoc_lookup.proofs.packed.Given as goal

abbrev pub invariant-loop-j : goal.invariant-loop-j
invariant-loop-j l = packed_step l.pool l.key l.m 0 l.count ≡ packed_step l.pool l.key l.m l.j (l.count - l.j)
