use Rattle.script_rows.proofs.PathLaws.{turns, begun}
use Rattle.script_rows.proofs.path_rows.Goals as goal

pub returns : goal.returns
returns c =
    λ s o l μ ed. c.put_rows.ensures s.list o l μ (turns ed)
    (begun ed c.begin_rows.ensures)
