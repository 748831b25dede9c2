use Rattle.script_rows.proofs.RowWriteLaws.{Copying}
use Rattle.script_rows.proofs.copy_node.Given as goal

abbrev pub invariant-loop-f : goal.invariant-loop-f
invariant-loop-f l = Copying l.pool l.n l.initial.rows l.rows l.r l.f
