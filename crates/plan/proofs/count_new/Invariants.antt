-- `count_new`: how many new nodes a store makes.
use Rattle.std.proofs.Common.{◌*◌, ◌-◌, ◌≤◌, ◌≡◌}
use Rattle.plan.specs.Plan.{before}
use Rattle.plan.proofs.count_new.Given as goal

abbrev pub invariant-loop-u : goal.invariant-loop-u
invariant-loop-u l = (l.j ≤ 2 * (l.top - l.u)) × (l.j ≡ before l.chained l.h l.v l.d l.top (l.top - l.u))
