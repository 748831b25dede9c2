-- `list`: the entries between two indices, counted first, then written if all of them fit.
use Rattle.listing.proofs.EmitLaws.{listed_short, listed_done}
use Rattle.listing.proofs.list.Goals as goal

pub returns-then-bytes-k-clause-buffer_after : goal.returns-then-bytes-k-clause-buffer_after
returns-then-bytes-k-clause-buffer_after c =
    λ s. (listed_short (c.visit_head-k.ensures s) c.if-bytes-k.true).1

pub returns-clause-buffer_after : goal.returns-clause-buffer_after
returns-clause-buffer_after c =
    λ s. (listed_done (c.visit_head-k.ensures s) c.if-bytes-k.false (c.visit_head.ensures s)).1
