-- `mark_all`: the marks of the slots 0 of the tiers from from to to - 1.
use Rattle.std.proofs.Common.{◌-◌, ◌≡◌}
use Rattle.write.specs.Writes.{marked}
use Rattle.write.proofs.mark_all.Given as goal

abbrev pub invariant-loop-u : goal.invariant-loop-u
invariant-loop-u l = marked l.nums l.m l.initial.pool l.from (l.to - l.from) ≡ marked l.nums l.m l.pool l.u (l.to - l.u)
