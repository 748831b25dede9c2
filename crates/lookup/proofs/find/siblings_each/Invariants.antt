-- `siblings_each`: how many slots of node n from o on, below to, are siblings, by reading each.
use Rattle.std.proofs.Common.{◌+◌, ◌-◌, ◌≤◌, ◌≡◌, get_or}
use Rattle.layout.specs.Words.{slot_place}
use Rattle.lookup.specs.Leap.{sibling_count}
use Rattle.lookup.proofs.find.siblings_each.Given as goal

abbrev pub invariant-loop-j : goal.invariant-loop-j
invariant-loop-j l = (l.k + l.o ≤ l.j) × (l.k ≡ sibling_count (λ i. get_or l.pool (slot_place l.n i) 0) l.o (l.j - l.o))
