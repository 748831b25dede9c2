use native.Mathlib.Omega.{arith}
use Rattle.xaplain.proofs.ColumnLaws.{put_columns}
use Rattle.xaplain.proofs.EntriesMut.put.Goals as goal

pub returns-clause-list_after : goal.returns-clause-list_after
returns-clause-list_after c =
    λ h. put_columns h _ _ _ (omega arith) (omega arith) c.splice.ensures c.splice-2.ensures c.splice-3.ensures c.splice-4.ensures
