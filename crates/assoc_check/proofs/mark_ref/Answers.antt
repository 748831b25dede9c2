use Prim.Native.Nat.{ℕ, ◌-◌}
use mathlib.Core.Path.{◌≡◌, subst}
use mathlib.Core.Bool.{true}
use native.Mathlib.Omega.{arith}
use Rattle.freemap.specs.FreeMap.{put}
use Rattle.assoc_check.specs.Seen.{SetOf}
use Rattle.assoc_check.proofs.SeenLaws.{set_as, names_put}
use Rattle.assoc_check.proofs.mark_ref.Goals as goal

pub returns-in-Some : goal.returns-in-Some
returns-in-Some c =
    let e : c.in-Some.x ≡ c.args.r - 1 = omega (arith, c.in-Some.ensures.0) in
    λ f s. set_as (subst (λ (x : ℕ). SetOf (put f x true) c.mark.new.seen) e (c.mark.ensures f s)) _
    (λ y. names_put f c.args.n c.args.r y (λ z. omega (arith, c.in-Some.ensures.0)) (omega (arith, c.in-Some.ensures.0, c.in-Some.ensures.1)))
