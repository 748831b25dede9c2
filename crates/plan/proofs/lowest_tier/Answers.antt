-- `lowest_tier`: the lowest tier of the path that is there, with the numbers from the head down to it.
use native.Mathlib.Omega.{arith}
use Rattle.plan.proofs.lowest_tier.Goals as goal

pub returns : goal.returns
returns c =
    λ s. record {
      if_same = λ e. c.walk_path.ensures s;
      if_grows = λ g. absurd
          (omega (arith, c.if-h-top.false));
    }
