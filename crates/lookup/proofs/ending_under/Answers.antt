use Prim.Native.Nat.{suc, ◌+◌, ◌-◌, ◌<◌, ◌≤◌}
use mathlib.Core.Path.{◌≡◌, refl, sym, ◌∙◌}
use mathlib.Core.Bool.{false}
use native.Mathlib.Omega.{arith}
use Rattle.blocks.specs.Blocks.{block}
use Rattle.blocks.specs.Lists.{any}
use Rattle.model.specs.Model.{within}
use Rattle.tree.specs.Tree.{height, tier_order}
use Rattle.layout.specs.WellFormed.{WellFormed, num}
use Rattle.lookup.specs.Find.{stop_tier, any_mark}
use Rattle.lookup.specs.Load.{depth_to}
use Rattle.lookup.specs.Views.{AtNode, is_vacant, is_in_node}
use Rattle.lookup.proofs.WayLaws.{is_node_lem, is_gap, is_entry_lem, shown_entry, holds, down_any, down_leaf, go_down, stop_here}
use Rattle.lookup.proofs.HeadLaws.{depth_under}
use Rattle.lookup.proofs.ending_under.Goals as goal

down : (c : goal.In-Below) (s : WellFormed c.args.pool.now) →
    (0 < c.loop-m.v) ×
    AtNode s.list (num s) (c.loop-m.v - 1)
    (block (tier_order (suc (c.loop-m.v - 1)))
    c.args.i) c.in-Below.m ×
    (stop_tier s.list any_mark c.args.i
    (c.loop-m.v - 1) ≡ stop_tier s.list any_mark
    c.args.i c.loop-m.v)
down c s =
    let (t, q) = is_node_lem _ (c.look-k.ensures s) c.in-Below.is in
    go_down s.list s.valid (num s) any_mark _ _ _ _ (c.loop-m.invariant.1 s).0
    (sym (down_any s.list (num s) any_mark _ _ _ t q refl))

depth : (c : goal.In-Gap) (s : WellFormed c.args.pool.now) →
    any (within (tier_order c.loop-m.v) (block (tier_order c.loop-m.v) c.args.i))
    s.list ≡ false →
    (c.loop-m.v ≤ c.args.top + 1) ×
    (c.args.top + 1 - c.loop-m.v ≡ depth_to s.list c.args.i
    (height s.list))
depth c s t =
    depth_under s.list s.valid _ _ _ _ (c.requires.list_value s)
    (c.requires.at_node s)
    (stop_here s.list (num s) any_mark _ _ (sym (down_leaf s.list (num s) any_mark _ _ 0 t)) ∙
    (c.loop-m.invariant.1 s).1)

depth_2 : (c : goal.In-Shows) (s : WellFormed c.args.pool.now) →
    any (within (tier_order c.loop-m.v) (block (tier_order c.loop-m.v) c.args.i))
    s.list ≡ false →
    (c.loop-m.v ≤ c.args.top + 1) ×
    (c.args.top + 1 - c.loop-m.v ≡ depth_to s.list c.args.i
    (height s.list))
depth_2 c s t =
    depth_under s.list s.valid _ _ _ _ (c.requires.list_value s)
    (c.requires.at_node s)
    (stop_here s.list (num s) any_mark _ _ (sym (down_leaf s.list (num s) any_mark _ _ 0 t)) ∙
    (c.loop-m.invariant.1 s).1)

pub overflow_sub-v : goal.overflow_sub-v
overflow_sub-v c =
    (down c c.requires.well_formed).0

pub loop-m-smaller : goal.loop-m-smaller
loop-m-smaller c =
    omega (arith, (down c c.requires.well_formed).0)

pub loop-m-preserved : goal.loop-m-preserved
loop-m-preserved c = (
  omega (arith, c.loop-m.invariant.0),
  λ s. let r = down c s in
      (r.1, r.2 ∙ (c.loop-m.invariant.1 s).1),
)

pub returns-in-Gap : goal.returns-in-Gap
returns-in-Gap c =
    λ s.
    let (t, q) = is_gap (c.look-k.ensures s) c.in-Gap.is in
    let (le, d) = depth c s t in (
      le,
      c.requires.top_lt_top_tier,
      is_vacant _ _ _ t q (c.loop-m.invariant.1 s).0 c.loop-m.invariant.0 d,
    )

pub returns-in-Shows : goal.returns-in-Shows
returns-in-Shows c =
    λ s.
    let z = c in
    let w = c.look-k.ensures s in
    let g = c.in-Shows.is in
    let (e, t, r, st, a) = is_entry_lem _ w g in
    let (le, d) = depth_2 c s t in
    let top_is : height s.list ≡ z.args.top + 1 = z.requires.list_value s ∙ omega arith in
    record {
      entry = e;
      stands = st;
      at_node_lem = a;
      small = (shown_entry s any_mark 0 _ w g).small;
      tier_le = le;
      top_le = z.requires.top_lt_top_tier;
      located = is_in_node _ _ _ r (holds _ w g) top_is c.loop-m.invariant.0 d;
    }
