-- `run_fits`: whether an entry may take p slots from slot j on.
use mathlib.Core.Path.{sym, ◌∙◌}
use native.Mathlib.Omega.{arith}
use borrow.Author.Tests.{leb-true, leb-false}
use Prim.Native.Nat.{◌+◌}
use Rattle.steps.proofs.DecideLaws.{no! }
use Rattle.steps.proofs.WordLaws.{mask_mod}
use Rattle.steps.proofs.run_fits.Goals as goal

pub returns-then-j-p-ne0 : goal.returns-then-j-p-ne0
returns-then-j-p-ne0 c =
    let k = c.is_power.ensures.0 c.if-not-is_power.false in
    no! (λ f. c.if-j-p-ne0.true (mask_mod _ _ k.0 k.2 ∙ f.aligned))

pub returns : goal.returns
returns c =
    let k = c.is_power.ensures.0 c.if-not-is_power.false in (
      (λ t. record {
        power = k;
        short = omega (arith, c.width-w.ensures);
        aligned = sym (mask_mod _ _ k.0 k.2) ∙ c.if-j-p-ne0.false;
        ends = omega (arith, c.width-w.ensures, leb-true (c.args.j + c.args.p) c.width-w.result t);
      }),
      (λ t f. absurd (omega (arith, f.ends, c.width-w.ensures, leb-false (c.args.j + c.args.p) c.width-w.result t))),
    )
