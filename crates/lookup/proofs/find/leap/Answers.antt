-- `leap`: the slots of node n from o on that are passed without a match.
use Prim.Native.Nat.{ℕ, ◌+◌, ◌-◌}
use mathlib.Core.Path.{sym, subst}
use native.Mathlib.Omega.{arith}
use Rattle.lookup.proofs.LeapWordLaws.{leaps_empty}
use Rattle.lookup.specs.Leap.{Leaps}
use Rattle.layout.specs.WellFormed.{num}
use Rattle.lookup.proofs.find.leap.Goals as goal

pub returns-then-filter-eq-ANY_MARK-clause-leaps : goal.returns-then-filter-eq-ANY_MARK-clause-leaps
returns-then-filter-eq-ANY_MARK-clause-leaps c =
    let r = c.next_filled-to.ensures in
    λ s v d b q pos. subst (λ (f : ℕ). Leaps s.list (num s) f v d (d - c.args.o + c.next_filled-to.result) (c.next_filled-to.result - c.args.o))
    (sym c.if-filter-eq-ANY_MARK.true) (leaps_empty s d _ b q _ r.to (omega arith) r.empty)
