-- By where the way down to the index ends.
use mathlib.Core.Path.{refl, sym, ap, subst, ◌∙◌}
use mathlib.Core.Option.{some}
use Rattle.tree.proofs.ReadLaws.{over_none}
use Rattle.layout.specs.WellFormed.{WellFormed, num}
use Rattle.lookup.specs.declared.Spot.{Spot}
use Rattle.lookup.specs.Views.{Holds, Stops, Covers}
use Rattle.lookup.proofs.WordLaws.{node_fits_lem}
use Rattle.lookup.proofs.HeadLaws.{at_apart, at_vacant, at_head, at_spot}
use Rattle.plan.specs.Plan.{Storable}
use Rattle.store.proofs.ReachLaws.{reached_apart}
use Rattle.store.proofs.OutcomeLaws.{puts_new, puts_over, puts_none}
use Rattle.plan.proofs.AfterStoreLaws.{new_store}
use Rattle.store.proofs.store.Goals as goal

fit : (z : goal.After-store_new-arg-in-Apart-1) →
    Storable (record { index = z.args.index; order = z.args.order; word = z.args.word })
fit z = record {
  index_fits = z.ranges.index.fits;
  order_le = z.requires.order_le_max_order.0;
  is_aligned_lem = z.requires.order_le_max_order.1;
  word_fits = z.ranges.word.fits;
  is_entry_lem = z.requires.t;
}

fit_2 : (z : goal.After-store_at_gap-arg-in-Vacant-1) →
    Storable (record { index = z.args.index; order = z.args.order; word = z.args.word })
fit_2 z = record {
  index_fits = z.ranges.index.fits;
  order_le = z.requires.order_le_max_order.0;
  is_aligned_lem = z.requires.order_le_max_order.1;
  word_fits = z.ranges.word.fits;
  is_entry_lem = z.requires.t;
}

covers : (c : goal.Then-word-eq-RESERVED-2) (s : WellFormed c.args.pool.now) →
    Covers s.list (num s) c.args.index c.in-Within.n c.in-Within.v c.in-Within.c c.in-Within.top
covers c s = subst (Stops s.list (num s) _) c.in-Within.is (c.ending-found.ensures s)

covers_2 : (c : goal.Else-word-eq-RESERVED-2) (s : WellFormed c.args.pool.now) →
    Covers s.list (num s) c.args.index c.in-Within.n c.in-Within.v c.in-Within.c c.in-Within.top
covers_2 c s = subst (Stops s.list (num s) _) c.in-Within.is (c.ending-found.ensures s)

covers_3 : (c : goal.After-entry_at-e) (s : WellFormed c.args.pool.now) →
    Covers s.list (num s) c.args.index c.in-Within.n c.in-Within.v c.in-Within.c c.in-Within.top
covers_3 c s = subst (Stops s.list (num s) _) c.in-Within.is (c.ending-found.ensures s)

covers_4 : (c : goal.After-store_in_node-arg-in-Within-1) (s : WellFormed c.args.pool.now) →
    Covers s.list (num s) c.args.index c.in-Within.n c.in-Within.v c.in-Within.c c.in-Within.top
covers_4 c s = subst (Stops s.list (num s) _) c.in-Within.is (c.ending-found.ensures s)

pub store_new-requires-clause-list_value : goal.store_new-requires-clause-list_value
store_new-requires-clause-list_value c =
    λ s. let (q, d) = at_apart (subst (Stops s.list (num s) _) c.in-Apart.is (c.ending-found.ensures s)) refl in (
      over_none s.list _ _ q,
      reached_apart (new_store s.valid (fit c) (over_none s.list _ _ q)) d,
    )

pub store_at_gap-requires-clause-u_lt_top_tier : goal.store_at_gap-requires-clause-u_lt_top_tier
store_at_gap-requires-clause-u_lt_top_tier c =
    (at_vacant _ _ _ (subst (Stops c.requires.well_formed.list (num c.requires.well_formed) _) c.in-Vacant.is (c.ending-found.ensures c.requires.well_formed)).2 refl).3

pub store_at_gap-requires-clause-at_gap : goal.store_at_gap-requires-clause-at_gap
store_at_gap-requires-clause-at_gap c =
    λ s. let (t, q, a, le, d) = at_vacant _ _ _ (subst (Stops s.list (num s) _) c.in-Vacant.is (c.ending-found.ensures s)).2 refl in
    record { new = new_store s.valid (fit_2 c) (over_none s.list _ _ q); at_node_lem = a; nothing = t }

pub returns-then-word-eq-RESERVED-clause-puts : goal.returns-then-word-eq-RESERVED-clause-puts
returns-then-word-eq-RESERVED-clause-puts c =
    λ s. let (h, q) = at_head _ (subst (Stops s.list (num s) _) c.in-AtHead.is (c.ending-found.ensures s)) refl in
    puts_none s c.args.index c.args.order c.args.word c.if-word-eq-RESERVED.true q refl refl

pub store_at_head-requires-clause-list_value : goal.store_at_head-requires-clause-list_value
store_at_head-requires-clause-list_value c =
    λ s. at_head _ (subst (Stops s.list (num s) _) c.in-AtHead.is (c.ending-found.ensures s)) refl

pub returns-then-word-eq-RESERVED-2-clause-puts : goal.returns-then-word-eq-RESERVED-2-clause-puts
returns-then-word-eq-RESERVED-2-clause-puts c =
    λ s. let (q, h, t, le, d) = at_spot _ _ _ (covers c s).located refl in
    puts_none s c.args.index c.args.order c.args.word c.if-word-eq-RESERVED-2.true q refl refl

pub entry_at-e-requires-clause-n_in_bounds : goal.entry_at-e-requires-clause-n_in_bounds
entry_at-e-requires-clause-n_in_bounds c =
    let s = c.requires.well_formed in let w = covers_2 c s in
    (node_fits_lem s w.at_node_lem).0

pub entry_at-e-requires-clause-v_lt_top_tier : goal.entry_at-e-requires-clause-v_lt_top_tier
entry_at-e-requires-clause-v_lt_top_tier c =
    let s = c.requires.well_formed in let w = covers_2 c s in
    (at_spot _ _ _ w.located refl).3

pub entry_at-e-requires-clause-v_bound : goal.entry_at-e-requires-clause-v_bound
entry_at-e-requires-clause-v_bound c =
    let s = c.requires.well_formed in let w = covers_2 c s in
    w.small

pub spot_of-at-requires : goal.spot_of-at-requires
spot_of-at-requires c =
    (covers_3 c c.requires.well_formed).top_le

pub store_in_node-requires-clause-index_value : goal.store_in_node-requires-clause-index_value
store_in_node-requires-clause-index_value c =
    let z = c in
    λ s. let w = covers_4 c s in let (q, h, t, le, d) = at_spot _ _ _ w.located refl in (
      q ∙ ap some (sym (c.entry_at-e.ensures s w.entry w.at_node_lem w.stands)),
      subst (λ (p : Spot). Holds s.list (num s) z.args.index p.node p.tier p.slot) (sym c.spot_of-at.ensures) h,
    )

pub returns-in-Apart-clause-puts : goal.returns-in-Apart-clause-puts
returns-in-Apart-clause-puts c =
    λ s. puts_new s c.args.index c.args.order c.args.word c.requires.t
    (at_apart (subst (Stops s.list (num s) _) c.in-Apart.is (c.ending-found.ensures s)) refl).0
    (c.store_new.ensures.stores_new s)

pub returns-in-Vacant-clause-puts : goal.returns-in-Vacant-clause-puts
returns-in-Vacant-clause-puts c =
    λ s. let (t, q, b, le, d) = at_vacant _ _ _
    (subst (Stops s.list (num s) _) c.in-Vacant.is (c.ending-found.ensures s)).2 refl in
    puts_new s c.args.index c.args.order c.args.word c.requires.t q (c.store_at_gap.ensures.stores_new s)

pub returns-else-word-eq-RESERVED-2-clause-puts : goal.returns-else-word-eq-RESERVED-2-clause-puts
returns-else-word-eq-RESERVED-2-clause-puts c =
    λ s. puts_over s _ _ _ c.if-word-eq-RESERVED-2.false (c.store_in_node.ensures.stores_any s)
