-- `shorts_of`: the short numbers for the words of a node's slots.
use Rattle.layout.specs.Pool.{pool_of}
use Rattle.passes.specs.Bytes.{Shorts}
use Rattle.passes.proofs.shorts_of.Given as goal

abbrev pub invariant-loop-j : goal.invariant-loop-j
invariant-loop-j l = Shorts (pool_of l.pool) l.n l.j l.s
