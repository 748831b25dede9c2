use Prim.Native.Nat.{ℕ, ◌/◌}
use mathlib.Core.Path.{sym, ap, ◌∙◌}
use native.Mathlib.Omega.{arith}
use Rattle.tree.specs.Tree.{slots}
use Rattle.lookup.proofs.WalkLaws.{stops_at, on_way_stay, walked_on, walked_out, walks_out}
use Rattle.lookup.proofs.find.walk_under.Goals as goal

pub stride-t-requires-clause-stops_at : goal.stride-t-requires-clause-stops_at
stride-t-requires-clause-stops_at c =
    let t = c.requires in
    let i = c.loop-k.invariant in
    λ s. stops_at s.valid (i.3 s).0 (c.descend-s.ensures.stopped s)

pub loop-k-preserved : goal.loop-k-preserved
loop-k-preserved c =
    let s = c.requires.well_formed in
    let (a, b, e) = walked_on s.list _ _ _ _ _ (c.stride-t.ensures s) _
    (c.loop-k.invariant.3 s).1 _ _ c.in-Paused.is in (
      c.descend-s.ensures.tier_lt_top_tier,
      omega (arith, a, c.loop-k.invariant.1),
      b,
      λ s. let (a, b, e) = walked_on s.list _ _ _ _ _ (c.stride-t.ensures s) _
          (c.loop-k.invariant.3 s).1 _ _ c.in-Paused.is in (
            on_way_stay _ (stops_at s.valid (c.loop-k.invariant.3 s).0 (c.descend-s.ensures.stopped s)).on_way_lem
                (ap (λ (x : ℕ). x / slots) (sym c.block_of.ensures) ∙ c.if-block_of.false ∙ ap
                (λ (x : ℕ). x / slots) c.block_of-in-loop-k.ensures),
            e,
          ),
    )

pub returns-in_default : goal.returns-in_default
returns-in_default c =
    λ s. walks_out s.list _ _ _ _ _ _
    (walked_out s.list _ _ _ _ _ _ (c.stride-t.ensures s) c.in_default.not-Paused ∙ (c.loop-k.invariant.3 s).1)
    c.in_default.not-Paused
