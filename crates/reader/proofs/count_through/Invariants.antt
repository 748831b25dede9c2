-- `count_through` meets its contract, as `batch::count` does: it calls `read_through` on a plain slice, so no walk.
use Prim.Native.Nat.{◌≤◌, ◌-◌}
use lib.ListN.{length}
use Rattle.batch.proofs.ParseLaws.{CountedTo}
use Rattle.reader.proofs.count_through.Given as goal

abbrev pub invariant-loop-next : goal.invariant-loop-next
invariant-loop-next l = (l.n ≤ l.at) × (l.at ≤ length l.batch) × CountedTo l.batch l.n l.at

abbrev pub decreases-loop-next : goal.decreases-loop-next
decreases-loop-next l = length l.batch - l.at
