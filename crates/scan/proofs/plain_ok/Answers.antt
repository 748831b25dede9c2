-- `plain_ok`: whether the slots of node n are as they must be, where none has an internal word and c are filled.
use mathlib.Core.Path.{refl}
use mathlib.Core.Bool.{true}
use mathlib.Core.Logic.{inl, inr}
use native.Mathlib.Omega.{arith}
use Rattle.steps.proofs.DecideLaws.{yes!, no! }
use Rattle.scan.proofs.PlainLaws.{plain_yes, plain_none, plain_end}
use Rattle.scan.proofs.TallyLaws.{full_tight}
use Rattle.scan.proofs.plain_ok.Goals as goal

pub returns-then-not-below_end : goal.returns-then-not-below_end
returns-then-not-below_end c =
    let s = c in
    no! (λ o. c.below_end.ensures.1 c.if-not-below_end.true
    (plain_end s.args.pool.now s.args.n _ s.requires.fact_3.plain o))

pub returns-then-m-eq0 : goal.returns-then-m-eq0
returns-then-m-eq0 c =
    let s = c in
    let m = c.all_marks-m.result in
    elim c.then-m-eq0.either [
      | inl e ↦ yes! (plain_none s.args.pool.now s.args.n _ s.requires.fact_3.plain m (omega arith)
          (c.below_end.ensures.0 c.if-not-below_end.false) c.all_marks-m.ensures e)
      | inr e ↦ yes! ((plain_yes s.args.pool.now s.args.n _ s.requires.fact_3.plain true m (omega arith)
          (c.below_end.ensures.0 c.if-not-below_end.false) c.all_marks-m.ensures
          (yes! (full_tight s.args.pool.now s.args.n m _ s.requires.fact_3 (omega (arith, e.1))))).0 refl)
    ]

pub returns : goal.returns
returns c =
    let s = c in
    plain_yes s.args.pool.now s.args.n _ s.requires.fact_3.plain _ c.all_marks-m.result (omega arith)
    (c.below_end.ensures.0 c.if-not-below_end.false)
    c.all_marks-m.ensures c.none_loose.ensures
