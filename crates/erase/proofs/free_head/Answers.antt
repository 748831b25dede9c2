-- `free_head`: frees the head n.
use Rattle.erase.proofs.FreedLaws.{freed}
use Rattle.erase.proofs.free_head.Goals as goal

pub returns : goal.returns
returns c =
    freed _ _ c.requires c.clear_node.ensures
