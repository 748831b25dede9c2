use Prim.Native.Nat.{◌+◌}
use mathlib.Core.Path.{◌≡◌, refl, sym, ap, ◌∙◌}
use native.Mathlib.Omega.{arith}
use Rattle.evidence.specs.Sheets.{body_bytes, seek, sought_in, rest_at}
use Rattle.evidence.specs.Reading.{newer}
use Rattle.evidence.proofs.SheetLaws.{good, rest_end, rest_bad, sought_on}
use Rattle.evidence.proofs.seek.Goals as goal

pub loop-at-init : goal.loop-at-init
unfolding seek
loop-at-init c = (omega arith, refl)

pub returns-in_default : goal.returns-in_default
returns-in_default c =
    let s = c.args.s.now in
    sym (sym c.loop-at.invariant.1 ∙ ap (sought_in s c.args.index c.loop-at.best) (rest_bad s c.loop-at.at c.loop-at-test.true c.in_default.ensures))

pub loop-at-preserved : goal.loop-at-preserved
loop-at-preserved c =
    let s = c.args.s.now in
    let at = c.loop-at.at in
    let i = c.args.index in
    let (r, e) = c.in-Some.ensures in
    let go : sought_in s i (newer s at i c.loop-at.best) (rest_at s (at + (3 + body_bytes s at))) ≡ seek s i =
    sym (sought_on s at i c.loop-at.best c.loop-at-test.true r) ∙ c.loop-at.invariant.1 in
    (omega (arith, e, (good s at r).ends), rw (c.or-best.ensures, c.named_at.ensures, e) go)

pub returns : goal.returns
returns c =
    let s = c.args.s.now in
    sym (sym c.loop-at.invariant.1 ∙ ap (sought_in s c.args.index c.loop-at.best) (rest_end s c.loop-at.at c.loop-at-test.false))
