use Rattle.std.proofs.Common.{ℕ, ◌+◌, ◌-◌, ◌≡◌, sym, ap, ap₂, ◌∙◌, Bool, arith}
use Rattle.blocks.specs.Choice.{pick}
use Rattle.plan.specs.Plan.{before}
use Rattle.plan.proofs.AssignLaws.{before_zero, before_tier}
use Rattle.plan.proofs.count_new.Goals as goal

pub loop-u-init : goal.loop-u-init
loop-u-init c =
    let e : c.args.top - c.args.top ≡ 0 = omega arith in
    (omega arith, before_zero _ _ _ _ _ ∙ ap (before c.args.chained c.args.h c.args.v c.args.d c.args.top) (sym e))

pub loop-u-preserved : goal.loop-u-preserved
loop-u-preserved c = (
  omega (arith, c.one_if.ensures.1, c.one_if-in-loop-u.ensures.1, c.loop-u.invariant.0),
  ap₂ (λ (x y : ℕ). x + y) c.loop-u.invariant.1
      (ap₂ (λ (x y : ℕ). x + y) (c.one_if.ensures.0 ∙ ap (λ (b : Bool). pick b 1 0)
      c.in_chain.ensures)
      (c.one_if-in-loop-u.ensures.0 ∙ ap (λ (b : Bool). pick b 1 0) c.on_path.ensures)) ∙ sym
      (before_tier _ _ _ _ _ _ (omega arith) c.loop-u.auto.u),
)

pub returns : goal.returns
returns c =
    let e : c.args.top - c.loop-u.u ≡ c.args.top = omega arith in
    (c.loop-u.invariant.1 ∙ ap (before c.args.chained c.args.h c.args.v c.args.d c.args.top) e, omega arith)
