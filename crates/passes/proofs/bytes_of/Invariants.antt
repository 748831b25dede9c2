-- `bytes_of`: the bytes of a node's slots, and how many are filled.
use Rattle.passes.specs.Bytes.{byte_by, large_at}
use Rattle.passes.proofs.ByteLaws.{Read}
use Rattle.passes.proofs.bytes_of.Given as goal

abbrev pub invariant-loop-j : goal.invariant-loop-j
invariant-loop-j g l = Read (byte_by g.row.T) (large_at g.row.T) l.s l.j l.a l.c
