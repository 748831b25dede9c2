use Rattle.std.proofs.Common.{ℕ, ◌+◌, ◌-◌, ◌≤◌, ◌≡◌, refl, sym, ap, ap₂, ◌∙◌, add_assoc, Bool, arith, get_or, set}
use Rattle.blocks.specs.Choice.{pick}
use Rattle.plan.specs.Plan.{before, in_chain, on_path}
use Rattle.plan.proofs.AssignLaws.{before_zero, before_tier, assign_start, assign_step}
use Rattle.plan.proofs.assign.Goals as goal

zero_at : (cf : Bool) (h v d top : ℕ) → 0 ≡ before cf h v d top (top - top)
zero_at cf h v d top = let e : top - top ≡ 0 = omega arith in before_zero cf h v d top ∙ ap (before cf h v d top)
    (sym e)

pub loop-u-init : goal.loop-u-init
loop-u-init c = (omega arith, zero_at _ _ _ _ _, assign_start _ _ _ _ _ _ _ _)

pub loop-u-preserved : goal.loop-u-preserved
loop-u-preserved c =
    let g : 1 ≤ c.loop-u.u = omega arith in
    let e₁ : c.one_if-j.result ≡ pick (in_chain c.args.chained c.args.h c.args.v c.args.d c.args.top c.loop-u.u) 1 0 =
    c.one_if-j.ensures.0 ∙ ap (λ (b : Bool). pick {A = ℕ} b 1 0) c.in_chain-c.ensures in
    let e₂ : c.one_if-j-in-loop-u.result ≡ pick (on_path c.args.chained c.args.h c.args.v c.args.d c.args.top c.loop-u.u) 1 0 =
    c.one_if-j-in-loop-u.ensures.0 ∙ ap (λ (b : Bool). pick {A = ℕ} b 1 0) c.on_path-p.ensures in (
      omega (arith, c.one_if-j.ensures.1, c.one_if-j-in-loop-u.ensures.1, c.loop-u.invariant.0),
      ap₂ (λ (x y : ℕ). x + y) (ap₂ (λ (x y : ℕ). x + y) c.loop-u.invariant.1 e₁) e₂ ∙ (add_assoc _ _ _ ∙ sym
          (before_tier c.args.chained c.args.h c.args.v c.args.d c.args.top c.loop-u.u g c.loop-u.auto.u)),
      assign_step c.loop-u.invariant.2 g c.loop-u.auto.u
          (omega (arith, c.requires.top_tier_in_bounds.1, c.loop-u.auto.path))
          (omega (arith, c.requires.top_tier_in_bounds.2, c.loop-u.auto.chain))
          c.loop-u.invariant.1 refl (ap (λ (w : ℕ). get_or c.args.nums.now (c.loop-u.j + w) 0) e₁)
          (c.give_if.ensures ∙ ap (λ (b : Bool). pick b (set c.loop-u.chain c.loop-u.u
          (get_or c.args.nums.now c.loop-u.j 0)) c.loop-u.chain) c.in_chain-c.ensures)
          (c.give_if-in-loop-u.ensures ∙ ap (λ (b : Bool). pick b (set c.loop-u.path c.loop-u.u
          (get_or c.args.nums.now (c.loop-u.j + c.one_if-j.result) 0)) c.loop-u.path) c.on_path-p.ensures),
    )
