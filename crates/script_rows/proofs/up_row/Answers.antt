use mathlib.Core.Path.{subst}
use Prim.Native.Nat.{ℕ, ◌+◌, ◌%◌}
use native.Mathlib.Omega.{arith}
use Rattle.tree.specs.Tree.{slots}
use Rattle.script_rows.specs.Row.{RunPut}
use Rattle.script_rows.proofs.PathLaws.{others_then, up_shown}
use Rattle.script_rows.proofs.up_row.Goals as goal

pub returns-clause-other_rows : goal.returns-clause-other_rows
returns-clause-other_rows c =
    others_then c.edit_run.ensures.others c.finish_row.ensures.others

pub returns-clause-shown : goal.returns-clause-shown
returns-clause-shown c =
    λ l k w m o l' μ ed lt b sh. up_shown ed (omega arith) sh lt c.requires.le_u.1 b
    (subst (λ (y : ℕ). RunPut c.args.rows.now c.edit_run.new.rows (c.args.u + 1) (y % slots) 1
    c.child_word-d.result c.marks_up-e.result) c.block_of.ensures c.edit_run.ensures)
    c.finish_row.ensures c.child_word-d.ensures c.marks_up-e.ensures.by_index c.shift_word.ensures
    c.owner_at-w.ensures
