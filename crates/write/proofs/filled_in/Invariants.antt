-- `filled_in`: how many of the slots of node n from o on, c of them, are not 0.
use Rattle.std.proofs.Common.{◌≤◌, ◌≡◌}
use Rattle.write.specs.Writes.{filled_in}
use Rattle.write.proofs.filled_in.Given as goal

abbrev pub invariant-loop-j : goal.invariant-loop-j
invariant-loop-j l = (l.r ≤ l.j) × (l.r ≡ filled_in l.pool l.n l.o l.j)
