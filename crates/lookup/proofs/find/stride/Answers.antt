-- `stride`: the steps from p on, after n, in the node m where the way to p stops: one, or a leap where last and
use Prim.Native.Nat.{ℕ, ◌+◌, ◌*◌, ◌-◌, ◌/◌, ◌%◌, ◌^◌, ◌≤◌, ◌<◌}
use mathlib.Core.Path.{◌≡◌, refl, sym, ap, subst, ◌∙◌}
use native.Mathlib.Omega.{arith}
use Rattle.blocks.specs.Blocks.{block}
use Rattle.tree.specs.Tree.{tier_order, slots}
use Rattle.layout.specs.WellFormed.{num}
use Rattle.lookup.specs.Find.{Paused}
use Rattle.lookup.specs.Views.{AtNode}
use Rattle.lookup.specs.Leap.{Walks, Leaps}
use Rattle.lookup.proofs.WordLaws.{node_fits_lem}
use Rattle.lookup.proofs.WayLaws.{at_slot}
use Rattle.lookup.proofs.LeapLaws.{step_at_lem}
use Rattle.lookup.proofs.WalkLaws.{counted_walks, leap_walks, end_le}
use Rattle.lookup.proofs.find.stride.Goals as goal

ends : (c : goal.After-pow2) → c.block_of-c.result +
    (c.leap-g.result.to - c.block_of-c.result % slots) ≤ block (tier_order c.args.u)
    c.args.last
ends c =
    let z : ℕ = c.block_of-z.result in
    let d : ℕ = c.block_of-c.result in
    let to : ℕ = c.leap-g.result.to in
    let i3 : d ≤ z = c.if-c-z.true in
    let i4 : to - d % slots ≤ z - d = c.if-to-o.true in
    let e : z ≡ block (tier_order c.args.u)
    c.args.last =
    c.block_of-z.ensures in
    omega arith

pub leap-g-requires-clause-n_in_bounds : goal.leap-g-requires-clause-n_in_bounds
leap-g-requires-clause-n_in_bounds c =
    let t = c.requires in
    (node_fits_lem t.well_formed (t.stops_at t.well_formed).on_way_lem.at_node_lem).0

pub returns-then-to-o : goal.returns-then-to-o
returns-then-to-o c =
    λ s.
    let a = c.args in
    let st = c.requires.stops_at s in
    let d : ℕ = c.block_of-c.result in
    let to : ℕ = c.leap-g.result.to in
    let k : ℕ = c.leap-g.result.steps in
    let e : d ≡ block (tier_order a.u) a.p = c.block_of-c.ensures in
    let pos : 0 < k = c.if-k-gt0.true in
    let at : AtNode s.list (num s) a.u (d / slots) a.m = subst
    (λ (x : ℕ). AtNode s.list (num s) a.u (x / slots) a.m) (sym e) (at_slot a.p st.on_way_lem.at_node_lem) in
    let ge : d % slots ≤ to = c.leap-g.ensures.o_le_to.0 in
    let y : d - d % slots + to ≡ d + (to - d % slots) = omega arith in
    let lp : Leaps s.list (num s) a.filter a.u d (d - d % slots + to) k = c.leap-g.ensures.leaps s a.u d at
    refl pos in
    let le : d - d % slots + to ≤ block (tier_order a.u) a.last = rw y (ends c) in
    let i2 : k ≤ a.budget - a.n = c.if-k-budget.true in
    subst (λ (x : ℕ). Walks s.list a.filter a.last a.budget a.p a.n (Paused x (a.n + k)))
    (ap (λ (x : ℕ). x * 2 ^ (tier_order a.u)) y ∙ ap (λ (x : ℕ). (d + (to - d % slots)) * x) (sym c.pow2.ensures))
    (leap_walks s.valid (num s) a.filter a.last a.budget a.p a.n a.m a.u d (d - d % slots + to) k st
    e lp pos i2 (end_le a.u a.last (d - d % slots + to) le))

pub returns : goal.returns
returns c =
    λ s.
    let a = c.args in
    let t = c.requires in
    let st = t.stops_at s in
    subst (Walks s.list a.filter a.last a.budget a.p a.n) (sym c.counted.ensures)
    (counted_walks s.list a.filter a.last a.budget a.p a.n c.finish.result
    (c.finish.ensures s ∙ step_at_lem s.list a.filter a.last a.p a.u _ st.on_way_lem.through refl
    st.stops) t.n_lt_budget)
