-- `same_slots`: how many slots slot j of node n and those after it with the word w are.
use Rattle.layout.specs.Pool.{pool_of}
use Rattle.steps.proofs.RunLaws.{Going}
use Rattle.steps.proofs.same_slots.Given as goal

abbrev pub invariant-loop-p : goal.invariant-loop-p
invariant-loop-p l = Going (pool_of l.pool) l.n l.j l.w l.p
