-- `bytes_of`: the bytes of a node's slots, and how many are filled.
use mathlib.Core.Path.{refl}
use native.Mathlib.Omega.{arith}
use Rattle.passes.specs.Bytes.{byte_by, large_at}
use Rattle.passes.proofs.ByteLaws.{short_byte, short_large_at, read_on, read_all}
use Rattle.passes.proofs.bytes_of.Goals as goal

pub loop-j-preserved : goal.loop-j-preserved
loop-j-preserved g c =
    read_on (byte_by g.row.T) (large_at g.row.T) _ (short_byte g.row.T) (short_large_at g.row.T) _ _ _ _ _ _ c.loop-j.invariant (omega arith) refl
    c.byte_by.ensures c.weight_of-c.ensures

pub returns : goal.returns
returns g c =
    (omega arith, read_all (byte_by g.row.T) (large_at g.row.T) _ _ _ _ c.loop-j.invariant (omega (arith, c.loop-j.invariant.most)))
