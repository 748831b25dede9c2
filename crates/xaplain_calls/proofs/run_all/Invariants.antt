-- `run_all`: the commands of a batch in order, each on the entries that the last one left.
use Prim.Native.Nat.{◌-◌}
use lib.ListN.{length}
use Rattle.xaplain_calls.specs.Running.{RunningIn}
use Rattle.xaplain_calls.proofs.run_all.Given as goal

abbrev pub invariant-loop-at : goal.invariant-loop-at
invariant-loop-at l = RunningIn l.initial.s l.initial.reply l.batch l.s l.reply l.n l.entries l.at l.out

abbrev pub decreases-loop-at : goal.decreases-loop-at
decreases-loop-at l = length l.batch - l.at
