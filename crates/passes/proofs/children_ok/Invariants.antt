-- `children_ok`: true only if each slot of node n that leads to a node may do so.
use Rattle.layout.specs.Pool.{pool_of}
use Rattle.passes.specs.Bytes.{ChildrenTo}
use Rattle.passes.proofs.children_ok.Given as goal

abbrev pub invariant-loop-j : goal.invariant-loop-j
invariant-loop-j l = ChildrenTo (pool_of l.pool) l.n l.v l.j
