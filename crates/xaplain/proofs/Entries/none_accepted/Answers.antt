use Prim.Native.Nat.{◌+◌}
use Rattle.xaplain.proofs.FindLaws.{words_decide, marks_decide}
use Rattle.xaplain.proofs.Entries.none_accepted.Goals as goal

pub returns-then-f-eq-ANY_MARK : goal.returns-then-f-eq-ANY_MARK
returns-then-f-eq-ANY_MARK c =
    let h = c.requires.holds in let k = c.args.k in
    words_decide h c.args.f k (k + 8) c.requires.k_in_bounds c.if-f-eq-ANY_MARK.true c.eight_reserved.result c.eight_reserved.ensures

pub returns-else-f-eq-ANY_MARK : goal.returns-else-f-eq-ANY_MARK
returns-else-f-eq-ANY_MARK c =
    let h = c.requires.holds in let k = c.args.k in
    marks_decide h c.args.f k (k + 8) c.requires.k_in_bounds c.if-f-eq-ANY_MARK.false c.eight_unmarked.result c.eight_unmarked.ensures
