-- `none_used`: whether every node is free, where each node is free or as it must be.
use Prim.Native.Nat.{ℕ, ◌<◌}
use Rattle.layout.specs.Pool.{pool_of, Free}
use Rattle.scan.proofs.none_used.Given as goal

abbrev pub invariant-loop-n : goal.invariant-loop-n
invariant-loop-n l = (k : ℕ) → k < l.n → Free (pool_of l.pool) k
