-- What lies below the slots is freed, then, where the head grows, the old tree.
use Rattle.freenodes.proofs.FollowLaws.{follows_then}
use Rattle.write.proofs.clear.Goals as goal

pub returns-then-heads-clause-follows : goal.returns-then-heads-clause-follows
returns-then-heads-clause-follows c =
    follows_then c.free_slots.ensures.follows c.free_slot.ensures.follows
