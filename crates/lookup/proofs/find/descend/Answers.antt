use Prim.Native.Nat.{suc, ◌-◌, ◌<◌}
use mathlib.Core.Path.{◌≡◌, sym, ◌∙◌}
use native.Mathlib.Omega.{arith}
use Rattle.blocks.specs.Blocks.{block}
use Rattle.tree.specs.Tree.{tier_order}
use Rattle.layout.specs.WellFormed.{WellFormed, num}
use Rattle.lookup.specs.Find.{stop_tier}
use Rattle.lookup.specs.Views.{AtNode}
use Rattle.lookup.proofs.WayLaws.{go_down, stop_here}
use Rattle.lookup.proofs.find.descend.Goals as goal

down : (c : goal.In-Some) (s : WellFormed c.args.pool.now)
    →
    (0 < c.loop-m.v) ×
    AtNode s.list (num s) (c.loop-m.v - 1)
    (block (tier_order (suc (c.loop-m.v - 1)))
    c.args.p) c.in-Some.m ×
    (stop_tier s.list c.args.filter
    c.args.p (c.loop-m.v - 1) ≡ stop_tier
    s.list c.args.filter
    c.args.p c.loop-m.v)
down c s =
    let r = c.loop-m.invariant.1 s in
    go_down s.list s.valid (num s) _ _ _ _ _ r.0 (sym (c.below.ensures s) ∙ c.in-Some.is)

pub returns-clause-stopped : goal.returns-clause-stopped
returns-clause-stopped c =
    λ s. let r = c.loop-m.invariant.1 s in
    record {
      at_node_lem = r.0;
      tier_is = stop_here s.list (num s) _ _ _
          (sym (c.below.ensures s) ∙ c.in_default.is) ∙ r.1;
    }

pub overflow_sub-v : goal.overflow_sub-v
overflow_sub-v c =
    (down c c.requires.well_formed).0

pub loop-m-smaller : goal.loop-m-smaller
loop-m-smaller c =
    omega (arith, (down c c.requires.well_formed).0)

pub loop-m-preserved : goal.loop-m-preserved
loop-m-preserved c = (
  omega (arith, c.loop-m.invariant.0),
  λ s. let r = down c s in
      (r.1, r.2 ∙ (c.loop-m.invariant.1 s).1),
)
