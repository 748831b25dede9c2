-- `all_held`: true only if each slot with a mark has an entry or leads to a node.
use Prim.Native.Nat.{◌-◌}
use Rattle.passes.proofs.ByteLaws.{Off}
use Rattle.passes.proofs.all_held.Given as goal

abbrev pub invariant-loop-j : goal.invariant-loop-j
invariant-loop-j l = Off l.a (64 - l.j) l.f
