use Prim.Native.Nat.{ℕ, ◌+◌, ◌-◌, ◌^◌, ◌≤◌, ◌<◌}
use mathlib.Core.Path.{◌≡◌}
use mathlib.Core.Bool.{false}
use lib.ListN.{get_or}
use Rattle.model.specs.Matches.{meets}
use Rattle.xaplain.specs.Moves.{Holds}
use Rattle.xaplain.proofs.PlainLaws.{nth}
use Rattle.xaplain.proofs.Entries.find.Given as goal

abbrev pub invariant-loop-k : goal.invariant-loop-k
invariant-loop-k l = (l.k ≤ l.n) ×
    ((j : ℕ) → l.k ≤ j → j < l.n → l.a < get_or l.self.index.now j 0 + 2 ^ get_or l.self.order.now j 0) ×
    ((h : Holds l.self.index.now l.self.order.now l.self.word.now l.self.marks.now l.n) (j : ℕ) → j < l.k → meets l.f l.a l.z (nth h.list j) ≡ false)

abbrev pub decreases-loop-k : goal.decreases-loop-k
decreases-loop-k l = l.n - l.k
