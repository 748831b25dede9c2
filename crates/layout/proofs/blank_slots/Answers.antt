-- `blank_slots`: whether the slots of node n from one up to another are empty.
use Rattle.layout.proofs.PassLaws.{vacant_decides}
use Rattle.layout.proofs.blank_slots.Goals as goal

pub returns : goal.returns
returns c =
    vacant_decides c.args.pool.now c.args.n _ _ _ c.blank.ensures
