-- `take_out`: takes entry k out, in all four slices.
use Rattle.xaplain.proofs.EraseLaws.{take_columns}
use Rattle.xaplain.proofs.EntriesMut.take_out.Goals as goal

pub returns-clause-list_after : goal.returns-clause-list_after
returns-clause-list_after c =
    λ h. take_columns h _ c.requires.k_lt_n c.close.ensures c.close-2.ensures c.close-3.ensures c.close-4.ensures
