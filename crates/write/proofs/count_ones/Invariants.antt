-- `count_ones`: the counts of nodes with one filled slot each, of the tiers from from to to - 1.
use Rattle.std.proofs.Common.{◌-◌, ◌≡◌}
use Rattle.write.specs.Writes.{ones}
use Rattle.write.proofs.count_ones.Given as goal

abbrev pub invariant-loop-u : goal.invariant-loop-u
invariant-loop-u l = ones l.nums l.initial.pool l.from (l.to - l.from) ≡ ones l.nums l.pool l.u (l.to - l.u)
