-- `join_all`: the edges on the way to the index, between the tiers from and to.
use Rattle.std.proofs.Common.{◌-◌, ◌≡◌}
use Rattle.write.specs.Writes.{joins}
use Rattle.write.proofs.join_all.Given as goal

abbrev pub invariant-loop-u : goal.invariant-loop-u
invariant-loop-u l = joins l.nums l.index l.initial.pool l.from (l.to - l.from) ≡ joins l.nums l.index l.pool l.u (l.to - l.u)
