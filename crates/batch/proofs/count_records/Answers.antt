use Rattle.std.proofs.Common.{refl, sym, arith}
use Rattle.batch.proofs.BatchLaws.{read_end, read_bad, read_next}
use Rattle.batch.proofs.ParseLaws.{Onward, next_after, count_end, count_bad, count_next}
use Rattle.batch.proofs.count_records.Goals as goal

pub returns-in_default : goal.returns-in_default
returns-in_default c =
    count_bad _ _ _ c.loop-at.invariant.2 (read_bad _ _ c.loop-at-test.true c.in_default.ensures)

pub loop-at-preserved : goal.loop-at-preserved
loop-at-preserved c =
    let read = read_next _ _ c.loop-at-test.true c.in-Some.ensures refl in
    let on : Onward c.args.batch.now c.loop-at.at c.in-Some.next = next_after _ _ (sym read) in
    (omega arith, on.within, count_next _ _ _ c.loop-at.invariant.2 read)

pub returns : goal.returns
returns c =
    count_end _ _ _ c.loop-at.invariant.2 (read_end _ _ c.loop-at-test.false)
