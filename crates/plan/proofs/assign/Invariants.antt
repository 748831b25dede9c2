-- `assign`: gives the new nodes their numbers: widest tier first, then lowest block.
use Rattle.std.proofs.Common.{◌*◌, ◌-◌, ◌≤◌, ◌≡◌}
use Rattle.plan.specs.Plan.{before, Assigning}
use Rattle.plan.proofs.assign.Given as goal

abbrev pub invariant-loop-u : goal.invariant-loop-u
invariant-loop-u l = (l.j ≤ 2 * (l.top - l.u)) ×
    (l.j ≡ before l.chained l.h l.v l.d l.top (l.top - l.u)) ×
    Assigning l.chained l.h l.v l.d l.top l.nums l.initial.path l.initial.chain l.path l.chain l.u
