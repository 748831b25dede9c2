use native.Mathlib.Omega.{arith}
use Rattle.script.specs.Script.{script}
use Rattle.prepare.proofs.PrepareLaws.{gives_done, counted_table}
use Rattle.prepare.proofs.yield_table.Goals as goal

pub returns-clause-fact_2 : goal.returns-clause-fact_2
returns-clause-fact_2 c =
    λ s ws' t. (gives_done (script c.args.pool.now ws') c.args.out.now
    (c.table_length-number.ensures ws' (counted_table s t)) (omega arith)
    (c.table_write.ensures ws' (counted_table s t))).slice_is
