use Prim.Native.Nat.{ℕ, ◌<◌}
use Rattle.freemap.specs.FreeMap.{MapOf}
use Rattle.assoc_local.specs.Local.{BlockOk}
use Rattle.assoc_check.specs.Checking.{free_to}
use Rattle.assoc_check.specs.Seen.{SetOf, named_to}
use Rattle.assoc_check.proofs.blocks_ok.Given as goal

abbrev pub invariant-loop-m : goal.invariant-loop-m
invariant-loop-m l = ((k : ℕ) → k < l.m → BlockOk l.pool l.n k) × SetOf (named_to l.pool l.n l.m) l.seen × MapOf (free_to l.pool l.m) l.map
