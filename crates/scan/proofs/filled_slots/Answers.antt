-- `filled_slots`: a word whose bit j says whether slot j of node n is filled.
use Rattle.scan.proofs.FilledLaws.{joined}
use Rattle.scan.proofs.filled_slots.Goals as goal

pub returns : goal.returns
returns c =
    joined _ _ _ _ _ _ c.filled_from-a.ensures
    c.filled_from-b.ensures c.filled_from-c.ensures c.filled_from-d.ensures
