use mathlib.Core.Path.{◌≡◌, sym, ◌∙◌}
use lib.ListN.{length}
use Rattle.xaplain.specs.Slices.{list_of}
use Rattle.xaplain.proofs.LoopLaws.{count_is}
use Rattle.xaplain.proofs.Entries.holds.Goals as goal

pub returns-then-in_order : goal.returns-then-in_order
returns-then-in_order c =
    let a = c.args in
    let e : c.count-n.result ≡ length (list_of a.self.index.now a.self.order.now a.self.word.now a.self.marks.now) =
    count_is a.self.index.now a.self.order.now a.self.word.now a.self.marks.now c.count-n.result
    c.requires.1 c.count-n.ensures in
    rw (sym c.in_order.ensures ∙ c.if-in_order.true, ← e) c.all_zero.ensures
