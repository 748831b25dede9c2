use Rattle.std.proofs.Common.{◌≤◌}
use Rattle.digests.proofs.cuts.Given as goal

abbrev pub invariant-loop-cut : goal.invariant-loop-cut
invariant-loop-cut l = l.good ≤ l.cut
