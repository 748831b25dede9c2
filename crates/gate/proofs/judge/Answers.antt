-- `judge`: the verdict.
use Rattle.gate.specs.Gate.{judge}
use borrow.Author.Tests.{eq-eqb, ne_eqb, lt-ltb, le-ltb}
use Rattle.gate.proofs.judge.Goals as goal

pub returns-then-bad_limits : goal.returns-then-bad_limits
unfolding judge
returns-then-bad_limits c =
    rw (← c.bad_limits.ensures, c.if-bad_limits.true)

pub returns-then-total-eq0 : goal.returns-then-total-eq0
unfolding judge
returns-then-total-eq0 c =
    rw (← c.bad_limits.ensures, c.if-bad_limits.false, eq-eqb _ _ c.if-total-eq0.true)

pub returns-then-total-part : goal.returns-then-total-part
unfolding judge
returns-then-total-part c =
    rw (← c.bad_limits.ensures, c.if-bad_limits.false, ne_eqb _ _ c.if-total-eq0.false, lt-ltb _ _ c.if-total-part.true)

pub returns-then-holds : goal.returns-then-holds
unfolding judge
returns-then-holds c =
    rw (
      ← c.bad_limits.ensures,
      c.if-bad_limits.false,
      ne_eqb _ _ c.if-total-eq0.false,
      le-ltb _ _
          c.if-total-part.false,
      ← c.share.ensures,
      ← c.holds.ensures,
      c.if-holds.true,
    )

pub returns : goal.returns
unfolding judge
returns c =
    rw (
      ← c.bad_limits.ensures,
      c.if-bad_limits.false,
      ne_eqb _ _ c.if-total-eq0.false,
      le-ltb _ _
          c.if-total-part.false,
      ← c.share.ensures,
      ← c.holds.ensures,
      c.if-holds.false,
    )
