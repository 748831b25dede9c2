-- `is_power`: whether p is a power of two up to 32.
use Prim.Native.Nat.{ℕ, zero, suc, ◌<◌}
use mathlib.Core.Path.{◌≡◌, refl}
use mathlib.Core.Logic.{inl, inr}
use native.Mathlib.Omega.{arith}
use Rattle.steps.specs.Steps.{Power}
use Rattle.steps.proofs.DecideLaws.{yes!, no! }
use Rattle.steps.proofs.RunLaws.{no_power}
use Rattle.steps.proofs.is_power.Goals as goal

small : (p : ℕ) → 0 < p → p < 3 → Power p
small zero a b = absurd (omega arith)
small (suc zero) a b = (0, omega arith, refl)
small (suc (suc zero)) a b = (1, omega arith, refl)
small (suc (suc (suc p))) a b = absurd (omega arith)

pub returns-in_default-2 : goal.returns-in_default-2
returns-in_default-2 c =
    no! (λ f. let e : c.args.p ≡ 32 = no_power c.args.p (λ e. omega (arith, e)) (λ e. omega (arith, e)) (λ e. grind (arith, e))
    (λ e. grind (arith, e)) (λ e. grind (arith, e)) f in grind arith)

pub returns-in-1 : goal.returns-in-1
returns-in-1 c =
    yes! (elim c.in-1.is [
      | inl e ↦ (2, omega arith, e)
      | inr (inl e) ↦ (3, omega arith, e)
      | inr (inr (inl e)) ↦ (4, omega arith, e)
      | inr (inr (inr e)) ↦ (5, omega arith, e)
    ])

pub returns-in-1-2 : goal.returns-in-1-2
returns-in-1-2 c = yes! (small c.args.p (omega arith) (omega arith))
