-- `top_of`: the tier of the head after a store.
use Rattle.std.proofs.Common.{ℕ, ◌<◌, ◌≤◌, ◌≡◌, false}
use Rattle.plan.specs.Plan.{fits_run}
use Rattle.plan.proofs.top_of.Given as goal

abbrev pub invariant-loop-t : goal.invariant-loop-t
invariant-loop-t l = (x : ℕ) → l.h ≤ x → x < l.t → fits_run l.index l.order x ≡ false
