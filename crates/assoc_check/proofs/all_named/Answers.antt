use Prim.Native.Nat.{◌≤◌}
use mathlib.Core.Path.{◌≡◌}
use mathlib.Core.Bool.{true}
use native.Mathlib.Omega.{arith}
use Rattle.assoc_keys.proofs.NumberLaws.{yes!, no! }
use Rattle.assoc_layout.specs.Words.{tier_field}
use Rattle.assoc_layout.specs.Decode.{word}
use Rattle.assoc_check.proofs.PassLaws.{below_next}
use Rattle.assoc_check.proofs.all_named.Goals as goal

pub returns-then-not-named_ok : goal.returns-then-not-named_ok
returns-then-not-named_ok c =
    λ f s. no! (λ g. (c.named_ok.ensures f s).1 c.if-not-named_ok.true
    (λ h. g c.loop-m.m (record { below = c.loop-m-test.true; used = h })))

pub loop-m-preserved : goal.loop-m-preserved
loop-m-preserved c =
    λ f s. below_next (λ k. 1 ≤ word c.args.pool.now k tier_field → f k ≡ true) c.loop-m.m (c.loop-m.invariant f s)
    ((c.named_ok.ensures f s).0 c.if-not-named_ok.false)

pub returns : goal.returns
returns c =
    λ f s. yes! (λ m a. c.loop-m.invariant f s m (omega (arith, c.loop-m-test.false, a.below)) a.used)
