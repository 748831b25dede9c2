-- `free_slot`: frees what the word of a slot leads to, of tier u.
-- `free_slots`: frees what the slots of node n from o on, c of them, lead to, of tier u.
-- `free_tree`: frees node n, of tier u, and all below it.
use Rattle.std.proofs.Common.{◌≡◌, ◌+◌, ◌*◌}
use Rattle.write.specs.Writes.{free_slots, free_tree}
use Rattle.freenodes.specs.FreeNodes.{Follows}
use Rattle.write.proofs.+free_slot_free_slots_free_tree.Given as goal

abbrev pub decreases-free_slot : goal.decreases-free_slot
decreases-free_slot l = 3 * l.u + 1

abbrev pub decreases-free_slots : goal.decreases-free_slots
decreases-free_slots l = 3 * l.u + 2

abbrev pub decreases-free_tree : goal.decreases-free_tree
decreases-free_tree l = 3 * l.u

abbrev pub invariant-free_slots-loop-j : goal.invariant-free_slots-loop-j
invariant-free_slots-loop-j l =
    (l.pool ≡ free_slots (free_tree l.top l.u) l.top l.n l.o l.initial.pool l.j) ×
    Follows l.initial.pool l.pool l.initial.map l.map
