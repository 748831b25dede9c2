-- `draw`: the numbers drawn from the map are those of the places.
use Rattle.plan.specs.Plan.{free_place}
use Rattle.plan.proofs.MapNumbers.{draws_places}
use Rattle.plan.proofs.draw.Goals as goal

pub returns : goal.returns
returns c =
    λ os h M. draws_places os _ _ _ _ _ h M (c.draw.ensures (free_place os) M)
