-- `filled_from`: a word whose bit j says whether slot from + j of node n is filled, for 16 slots.
use Prim.Native.Nat.{◌-◌}
use Rattle.layout.specs.Pool.{pool_of}
use Rattle.scan.proofs.FilledLaws.{Told}
use Rattle.scan.proofs.filled_from.Given as goal

abbrev pub invariant-loop-j : goal.invariant-loop-j
invariant-loop-j l = Told (pool_of l.pool) l.n l.from (16 - l.j) l.f
