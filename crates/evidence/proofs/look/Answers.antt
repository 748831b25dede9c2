-- `look`: where the text of an index stands.
use Rattle.evidence.specs.Sheets.{look}
use Rattle.evidence.proofs.look.Goals as goal

pub returns : goal.returns
unfolding look
returns c =
    rw (c.together.ensures, c.seek-s.ensures, c.seek-b.ensures)
