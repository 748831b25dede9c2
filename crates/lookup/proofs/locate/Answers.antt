-- `locate`: where the way down to index i ends, with the entry there, its spot and load's count.
use mathlib.Core.Path.{refl, subst}
use native.Mathlib.Omega.{arith}
use Rattle.layout.specs.WellFormed.{WellFormed, num}
use Rattle.lookup.specs.declared.End.TheVariants.{Vacant}
use Rattle.lookup.specs.Views.{Stops, Covers}
use Rattle.lookup.proofs.WordLaws.{node_fits_lem}
use Rattle.lookup.proofs.HeadLaws.{at_spot}
use Rattle.lookup.proofs.locate.Goals as goal

gap : (c : goal.In-Vacant) (s : WellFormed c.args.pool.now) →
    Stops s.list (num s) c.args.i (Vacant c.in-Vacant.n c.in-Vacant.v c.in-Vacant.top)
gap c s = subst (Stops s.list (num s) _) c.in-Vacant.is (c.ending-k.ensures s)

within : (c : goal.In-Within) (s : WellFormed c.args.pool.now) →
    Covers s.list (num s) c.args.i c.in-Within.n c.in-Within.v c.in-Within.c c.in-Within.top
within c s = subst (Stops s.list (num s) _) c.in-Within.is (c.ending-k.ensures s)

within_2 : (c : goal.After-entry_at-e) (s : WellFormed c.args.pool.now) →
    Covers s.list (num s) c.args.i c.in-Within.n c.in-Within.v c.in-Within.c c.in-Within.top
within_2 c s = subst (Stops s.list (num s) _) c.in-Within.is (c.ending-k.ensures s)

within_3 : (c : goal.After-spot_of-at) (s : WellFormed c.args.pool.now) →
    Covers s.list (num s) c.args.i c.in-Within.n c.in-Within.v c.in-Within.c c.in-Within.top
within_3 c s = subst (Stops s.list (num s) _) c.in-Within.is (c.ending-k.ensures s)

pub overflow_add-result : goal.overflow_add-result
overflow_add-result c =
    omega (arith, (gap c c.requires).1)

pub overflow_sub-result : goal.overflow_sub-result
overflow_sub-result c =
    (gap c c.requires).0

pub entry_at-e-requires-clause-n_in_bounds : goal.entry_at-e-requires-clause-n_in_bounds
entry_at-e-requires-clause-n_in_bounds c =
    let s = c.requires in let w = within c s in
    (node_fits_lem s w.at_node_lem).0

pub entry_at-e-requires-clause-v_lt_top_tier : goal.entry_at-e-requires-clause-v_lt_top_tier
entry_at-e-requires-clause-v_lt_top_tier c =
    let s = c.requires in let w = within c s in
    (at_spot _ _ _ w.located refl).3

pub entry_at-e-requires-clause-v_bound : goal.entry_at-e-requires-clause-v_bound
entry_at-e-requires-clause-v_bound c =
    let s = c.requires in let w = within c s in
    w.small

pub spot_of-at-requires : goal.spot_of-at-requires
spot_of-at-requires c =
    (within_2 c c.requires).top_le

pub overflow_sub-result-in-Within : goal.overflow_sub-result-in-Within
overflow_sub-result-in-Within c =
    (within_3 c c.requires).tier_le

pub returns-in-Within : goal.returns-in-Within
returns-in-Within c =
    λ s. let w = within_3 c s in
    simp (c.entry_at-e.ensures s w.entry w.at_node_lem w.stands, c.spot_of-at.ensures) w.located
