-- `lay`: the numbers of the nodes over the index by tier: first, of tier u + 1, and below it down to tier v + 1
use Rattle.std.proofs.Common.{ℕ, ◌-◌, ◌<◌, ◌≡◌, get_or}
use Rattle.write.proofs.lay.Given as goal

abbrev pub invariant-loop-t : goal.invariant-loop-t
invariant-loop-t l = (x : ℕ) → l.v < x → x < l.t → get_or l.path x 0 ≡ get_or l.nums (l.u - x) 0
