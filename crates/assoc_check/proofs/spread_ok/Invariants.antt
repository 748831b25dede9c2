use Prim.Native.Nat.{◌≤◌}
use Rattle.assoc_check.specs.Checking.{Spread}
use Rattle.assoc_check.proofs.spread_ok.Given as goal

abbrev pub invariant-loop-j : goal.invariant-loop-j
invariant-loop-j l = (l.filled ≤ l.j) × Spread l.pool l.n l.m l.j l.total l.filled
