-- `nodes_ok`: whether each node is free or as it must be, and the map of the free ones.
use Prim.Native.Nat.{ℕ, ◌<◌}
use Rattle.layout.specs.Pool.{pool_of}
use Rattle.freemap.specs.FreeMap.{MapOf}
use Rattle.freenodes.specs.FreeNodes.{free_to}
use Rattle.local.specs.Local.{NodeOk}
use Rattle.scan.proofs.nodes_ok.Given as goal

abbrev pub invariant-loop-n : goal.invariant-loop-n
invariant-loop-n l = ((k : ℕ) → k < l.n → NodeOk (pool_of l.pool) k) ×
    MapOf (free_to l.n l.pool) l.map
