-- `all_marks`: the three mark words of node n as one.
use native.Mathlib.Omega.{arith}
use Rattle.steps.proofs.MarkLaws.{marks_of_lem}
use Rattle.steps.proofs.all_marks.Goals as goal

pub returns : goal.returns
returns c =
    marks_of_lem _ _ _ _ _ c.mark_word.ensures c.mark_word-2.ensures
    c.mark_word-3.ensures (omega arith) (omega arith) (omega arith)
