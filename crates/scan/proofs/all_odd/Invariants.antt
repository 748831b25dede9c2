-- `all_odd`: true only if every slot of node n has an odd word.
use Prim.Native.Nat.{◌%◌}
use mathlib.Core.Path.{◌≡◌}
use Rattle.layout.specs.Pool.{pool_of}
use Rattle.scan.specs.Passes.{OddTo}
use Rattle.scan.proofs.all_odd.Given as goal

abbrev pub invariant-loop-o : goal.invariant-loop-o
invariant-loop-o l = l.all % 2 ≡ 1 → OddTo (pool_of l.pool) l.n l.o
