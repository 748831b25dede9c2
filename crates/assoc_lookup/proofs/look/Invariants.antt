use Rattle.assoc_layout.specs.WellFormed.{WellFormed, num}
use Rattle.assoc_keys.specs.Number.{key_at}
use Rattle.assoc_lookup.specs.Lookup.{At}
use Rattle.assoc_lookup.proofs.look.Given as goal

abbrev pub invariant-loop-v : goal.invariant-loop-v
invariant-loop-v l = (s : WellFormed l.pool) → At s.list (num s) l.v (key_at l.key 0) l.m

abbrev pub decreases-loop-v : goal.decreases-loop-v
decreases-loop-v l = l.v
