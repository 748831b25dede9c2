use mathlib.Core.Path.{◌≡◌}
use Rattle.xaplain.specs.Slices.{in_order, list_of}
use Rattle.xaplain.specs.Moves.{low_of}
use Rattle.xaplain.proofs.LoopLaws.{rest_list}
use Rattle.xaplain.proofs.Entries.in_order.Given as goal

abbrev pub invariant-loop-k : goal.invariant-loop-k
invariant-loop-k l = in_order (low_of l.last) (rest_list l.self.index.now l.self.order.now l.self.word.now l.self.marks.now l.k) ≡ in_order 0 (list_of l.self.index.now l.self.order.now l.self.word.now l.self.marks.now)
