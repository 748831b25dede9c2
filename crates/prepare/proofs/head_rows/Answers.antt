use Prim.Native.Nat.{ℕ}
use mathlib.Core.Path.{ap, ◌∙◌}
use mathlib.Core.List.{List}
use native.Mathlib.Omega.{arith}
use lib.ListN.{get_or}
use Rattle.words.proofs.FillLaws.{filled_in_lem}
use Rattle.prepare.proofs.EntryLaws.{anchor_written}
use Rattle.prepare.proofs.head_rows.Goals as goal

pub returns : goal.returns
returns c =
    let w = anchor_written c.args.table.now.rows (get_or c.args.pool.now 0 0) c.args.at.word c.args.at.marks 0
    (omega arith) in
    record {
      count_is = w.0;
      word_is = w.1;
      marks_is = w.2;
      spare_is = w.3;
      no_node = λ r h. ap (λ (y : List ℕ). get_or y r 0) c.fill.ensures
          ∙ filled_in_lem c.args.table.now.nums 0 (get_or c.args.pool.now 0 0) 24 r (omega arith) (omega arith) (omega arith);
    }
