use mathlib.Core.Path.{◌∙◌}
use native.Mathlib.Omega.{arith}
use Rattle.lookup.proofs.WayLaws.{find_paused}
use Rattle.lookup.proofs.WalkLaws.{walked_on, walked_out}
use Rattle.lookup.proofs.find.find.Goals as goal

pub loop-n-smaller : goal.loop-n-smaller
loop-n-smaller c =
    let s = c.requires.well_formed in
    let (a, b, e) = walked_on s.list _ _ _ _ _ (c.walk-t.ensures s) _ (c.loop-n.invariant.1 s) _ _
    c.in-Paused.is in
    omega (arith, a, b)

pub loop-n-preserved : goal.loop-n-preserved
loop-n-preserved c =
    let s = c.requires.well_formed in
    let (a, b, e) = walked_on s.list _ _ _ _ _ (c.walk-t.ensures s) _ (c.loop-n.invariant.1 s) _ _
    c.in-Paused.is in (
      b,
      λ s. (walked_on s.list _ _ _ _ _ (c.walk-t.ensures s) _ (c.loop-n.invariant.1 s) _ _
          c.in-Paused.is).2,
    )

pub returns : goal.returns
returns c =
    λ s. find_paused s.list _ _ _ _ _ c.loop-n-test.false ∙ c.loop-n.invariant.1 s

pub returns-in_default : goal.returns-in_default
returns-in_default c =
    λ s. walked_out s.list _ _ _ _ _ _ (c.walk-t.ensures s) c.in_default.not-Paused ∙ c.loop-n.invariant.1 s
