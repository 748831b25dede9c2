-- `none_loose`: whether slot j of node n is used wherever bit j of m is set.
use native.Mathlib.Omega.{arith}
use Rattle.layout.specs.Pool.{pool_of}
use Rattle.scan.proofs.FilledLaws.{filled_decides}
use Rattle.scan.proofs.none_loose.Goals as goal

pub returns : goal.returns
returns c =
    filled_decides (pool_of c.args.pool.now) c.args.n _ _ c.filled_slots-f.ensures (omega arith) (omega arith)
