use Prim.Native.Nat.{ℕ, ◌*◌, ◌-◌, ◌^◌}
use Rattle.tree.specs.Tree.{top_tier, tier_order}
use Rattle.layout.specs.WellFormed.{WellFormed}
use Rattle.script_wide.specs.Climb.{At, Climbs}
use Rattle.script_wide.proofs.first_of.Given as goal

abbrev pub invariant-loop-m : goal.invariant-loop-m
invariant-loop-m l = (s : WellFormed l.pool) (b : ℕ) → At s l.m l.u b → Climbs s l.n l.t l.x (b * 2 ^ tier_order l.u)

abbrev pub decreases-loop-m : goal.decreases-loop-m
decreases-loop-m l = top_tier - l.t
