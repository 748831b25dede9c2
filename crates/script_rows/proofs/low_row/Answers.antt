use mathlib.Core.Path.{◌≡◌, ap, subst, ◌∙◌}
use Prim.Native.Nat.{ℕ, ◌+◌, ◌/◌, ◌%◌}
use native.Mathlib.Omega.{arith}
use Rattle.tree.specs.Tree.{slots, slot_bits}
use Rattle.write.specs.Writes.{offset}
use Rattle.write.proofs.RunLaws.{run_fits, offset_own}
use Rattle.script_rows.specs.Row.{RunPut}
use Rattle.script_rows.proofs.PathLaws.{others_then, low_shown}
use Rattle.script_rows.proofs.low_row.Goals as goal

pub edit_run-requires-clause-c_bound : goal.edit_run-requires-clause-c_bound
edit_run-requires-clause-c_bound c =
    let e : c.block_of-o.result % slots ≡ offset c.args.at.base c.args.at.order = ap (λ (y : ℕ). y % slots) c.block_of-o.ensures
    ∙ offset_own c.args.at.base c.args.at.order c.requires.order_le_max_order.1 in
    (omega (arith, e, c.width_of-c.ensures.0, run_fits c.args.at.base c.args.at.order), c.width_of-c.ensures.1)

pub returns-clause-other_rows : goal.returns-clause-other_rows
returns-clause-other_rows c =
    let e : c.block_of-o.result % slots ≡ offset c.args.at.base c.args.at.order = ap (λ (y : ℕ). y % slots) c.block_of-o.ensures
    ∙ offset_own c.args.at.base c.args.at.order c.requires.order_le_max_order.1 in
    others_then c.edit_run.ensures.others c.finish_row.ensures.others

pub returns-clause-shown : goal.returns-clause-shown
returns-clause-shown c =
    let e : c.block_of-o.result % slots ≡ offset c.args.at.base c.args.at.order = ap (λ (y : ℕ). y % slots) c.block_of-o.ensures
    ∙ offset_own c.args.at.base c.args.at.order c.requires.order_le_max_order.1 in
    λ l o l' μ ed b. low_shown ed c.requires.ready.low b e
    (subst (λ (y : ℕ). RunPut c.args.rows.now c.edit_run.new.rows (c.args.at.order /
    slot_bits + 1)
    (c.block_of-o.result % slots) y c.args.at.word c.args.at.marks) c.width_of-c.ensures.0 c.edit_run.ensures)
    c.finish_row.ensures c.shift_word.ensures c.owner_at-w.ensures
