use Prim.Native.Nat.{ℕ, suc, ◌+◌, ◌*◌, ◌-◌, ◌^◌, ◌≤◌, ◌<◌}
use mathlib.Core.Path.{◌≡◌, sym, ap, subst, ◌∙◌}
use mathlib.Core.List.{List, [], ◌∷◌}
use native.Mathlib.Omega.{arith}
use Rattle.blocks.specs.Blocks.{block}
use Rattle.blocks.proofs.BlockLaws.{pow_pos, block_at}
use Rattle.model.specs.declared.Entry.{Entry}
use Rattle.tree.specs.Tree.{slots, tier_order, top_tier}
use Rattle.layout.specs.WellFormed.{num}
use Rattle.lookup.proofs.WordLaws.{node_fits_lem}
use Rattle.lookup.proofs.WalkLaws.{end_le}
use Rattle.lookup.proofs.StandLaws.{end_fits}
use Rattle.lookup.specs.declared.Sight.TheVariants.{Shows}
use Rattle.listing.specs.Listing.{listed}
use Rattle.listing.specs.Visits.{between, Emits}
use Rattle.listing.proofs.EmitLaws.{emits_nothing}
use Rattle.listing.proofs.VisitLaws.{node_begins, node_goes_on, node_ends, node_stops, slot_ready, count_fits, node_before, towards, seen_gap, seen_sibling, seen_entry, seen_node, below_ready, below_last}
use Rattle.listing.proofs.+visit_node_visit_slot.Goals as goal

-- a slot that starts at or before an index
slot_small : (v c z : ℕ) → c ≤ block (tier_order v) z → z < 2 ^ 64 → c * 2 ^ tier_order v < 2 ^ 64
slot_small v c z h lt = omega (arith, end_le v z c h)

slot_end : (v c : ℕ) → c * 2 ^ tier_order v < 2 ^ 64 → v < top_tier → c * 2 ^ tier_order v + 2 ^ tier_order v ≤ 2 ^ 64
slot_end v c h lt =
    subst (λ (x : ℕ). x * 2 ^ tier_order v + 2 ^ tier_order v ≤ 2 ^ 64) (block_at (tier_order v) c)
    (end_fits (tier_order v) (c * 2 ^ tier_order v) (omega arith) h)

pub visit_node-loop-o-init : goal.visit_node-loop-o-init
visit_node-loop-o-init t c =
    let a = c.args in
    λ s. node_begins s.valid a.range.room a.range.first a.range.last a.v a.b _ a.k

pub visit_node-returns-then-z-c : goal.visit_node-returns-then-z-c
visit_node-returns-then-z-c t c =
    λ s.
    let a = c.args in
    let l = c.loop-o in
    node_stops s.valid a.range.room a.range.first a.range.last a.v a.b l.o l.auto.o-end
    (subst (λ (x : ℕ). x < slots * a.b + l.o) c.block_of-z.ensures c.if-z-c.true) (l.invariant s)

pub visit_node-visit_slot-at-requires : goal.visit_node-visit_slot-at-requires
visit_node-visit_slot-at-requires t c =
    let a = c.args in
    let p = c.requires in
    let l = c.loop-o in (
      omega (arith, c.decreases),
      (
        p.well_formed,
        (
          p.v_lt_top_tier,
          (
            omega (arith, c.block_of-z.ensures, c.if-z-c.false),
            (
              (p.last_bound.0, omega (arith, p.last_bound.1, l.auto.buffer)),
              λ s. slot_ready s.valid a.range.room a.range.first a.range.last a.v a.b (num s) a.n l.o
                  c.loop-o-test.true (p.ready s) (l.invariant s),
            ),
          ),
        ),
      ),
    )

pub visit_node-loop-o-preserved : goal.visit_node-loop-o-preserved
visit_node-loop-o-preserved t c =
    let a = c.args in
    let l = c.loop-o in
    λ s. node_goes_on s.valid a.range.room a.range.first a.range.last a.v a.b l.o (l.invariant s)
    (c.visit_slot-at.ensures s)

pub visit_node-returns : goal.visit_node-returns
visit_node-returns t c =
    λ s.
    let a = c.args in
    let l = c.loop-o in
    node_ends s.valid a.range.room a.range.first a.range.last a.v a.b l.o
    (omega (arith, l.auto.o-end, c.loop-o-test.false)) (l.invariant s)

pub visit_slot-look-seen-requires-clause-at_node : goal.visit_slot-look-seen-requires-clause-at_node
visit_slot-look-seen-requires-clause-at_node t c =
    let a = c.args in
    λ s. towards a.v a.c a.n _ (ap (λ (x : ℕ). a.c * x) c.pow2-w.ensures) (c.requires.ready s).at_node_lem

pub visit_slot-returns-then-d-c : goal.visit_slot-returns-then-d-c
visit_slot-returns-then-d-c t c =
    λ s.
    let a = c.args in
    emits_nothing a.range.room _ a.k (ap (λ (es : List Entry). listed es a.range.first a.range.last)
    (seen_sibling s a.v a.c _ (ap (λ (x : ℕ). a.c * x) c.pow2-w.ensures)
    (c.look-seen.ensures s) _
    c.in-Shows.is c.if-d-c.true))

pub visit_slot-entry_at-requires-clause-n_in_bounds : goal.visit_slot-entry_at-requires-clause-n_in_bounds
visit_slot-entry_at-requires-clause-n_in_bounds t c =
    let s = c.requires.well_formed in
    let a = c.args in
    let w = seen_entry s a.v a.c _ (ap (λ (x : ℕ). a.c * x) c.pow2-w.ensures)
    (c.look-seen.ensures s)
    (cc) in
    (node_fits_lem s w.at_node_lem).0

pub visit_slot-offer-requires-clause-k_bound : goal.visit_slot-offer-requires-clause-k_bound
visit_slot-offer-requires-clause-k_bound t c =
    let s = c.requires.well_formed in
    count_fits s _ c.args.k (c.requires.ready s).counted

pub visit_slot-offer-requires-clause-order_le_max_order : goal.visit_slot-offer-requires-clause-order_le_max_order
visit_slot-offer-requires-clause-order_le_max_order t c =
    let s = c.requires.well_formed in
    let a = c.args in
    let w = seen_entry s a.v a.c _ (ap (λ (x : ℕ). a.c * x) c.pow2-w.ensures)
    (c.look-seen.ensures s)
    (cc) in
    let e = c.entry_at.ensures s w.entry w.at_node_lem w.stands in
    rw e w.order_le

pub visit_slot-offer-requires-clause-order_bound : goal.visit_slot-offer-requires-clause-order_bound
visit_slot-offer-requires-clause-order_bound t c =
    let s = c.requires.well_formed in
    let a = c.args in
    let w = seen_entry s a.v a.c _ (ap (λ (x : ℕ). a.c * x) c.pow2-w.ensures)
    (c.look-seen.ensures s)
    (cc) in
    let e = c.entry_at.ensures s w.entry w.at_node_lem w.stands in
    rw e w.ends

pub visit_slot-overflow_add-c : goal.visit_slot-overflow_add-c
visit_slot-overflow_add-c t c =
    let a = c.args in
    let small : a.c * 2 ^ tier_order a.v < 2 ^ 64 = slot_small a.v a.c a.range.last
    c.requires.c_bound
    c.requires.last_bound.0 in
    record {
      fits = rw c.pow2-w.ensures (omega (
        arith,
        slot_end a.v a.c small
            c.requires.v_lt_top_tier,
        pow_pos (tier_order a.v),
      ));
    }

pub visit_slot-returns-then-c-w : goal.visit_slot-returns-then-c-w
visit_slot-returns-then-c-w t c =
    λ s.
    let a = c.args in
    let q : suc a.c * 2 ^ tier_order a.v ≤ a.range.first = omega (
      arith,
      ap (λ (x : ℕ). a.c * x) c.pow2-w.ensures,
      c.pow2-w.ensures,
      c.if-c-w.true,
      pow_pos (tier_order a.v),
    ) in
    emits_nothing a.range.room _ a.k (node_before s.valid a.v a.c
    (seen_node s a.v a.c _ (ap (λ (x : ℕ). a.c * x) c.pow2-w.ensures)
    (c.look-seen.ensures s) _
    c.in-Below.is).0 a.range.first a.range.last q)

pub visit_slot-overflow_sub-v : goal.visit_slot-overflow_sub-v
visit_slot-overflow_sub-v t c =
    let s = c.requires.well_formed in
    let a = c.args in
    let pos : 0 < a.v = (below_ready s a.v a.c _ (ap (λ (x : ℕ). a.c * x)
    c.pow2-w.ensures) (c.look-seen.ensures s)
    a.k _
    (c.requires.ready s)
    c.in-Below.is).0 in
    omega arith

pub visit_slot-visit_node-requires : goal.visit_slot-visit_node-requires
visit_slot-visit_node-requires t c =
    let s = c.requires.well_formed in
    let a = c.args in
    let pos : 0 < a.v = (below_ready s a.v a.c _ (ap (λ (x : ℕ). a.c * x)
    c.pow2-w.ensures)
    (c.look-seen.ensures s) a.k _
    (c.requires.ready s)
    c.in-Below.is).0 in (
      omega (arith, c.decreases),
      (
        s,
        (
          omega (arith, c.requires.v_lt_top_tier),
          (
            below_last a.v a.c a.range.last pos c.requires.c_bound,
            (
              c.requires.last_bound,
              λ s. (below_ready s a.v a.c _ (ap (λ (x : ℕ). a.c * x)
                  c.pow2-w.ensures)
                  (c.look-seen.ensures s) a.k _
                  (c.requires.ready s)
                  c.in-Below.is).1,
            ),
          ),
        ),
      ),
    )

pub visit_slot-returns-in-Gap : goal.visit_slot-returns-in-Gap
visit_slot-returns-in-Gap t c =
    λ s.
    let a = c.args in
    emits_nothing a.range.room _ a.k (ap (λ (es : List Entry). listed es a.range.first a.range.last)
    (seen_gap s a.v a.c _ (ap (λ (x : ℕ). a.c * x) c.pow2-w.ensures) (c.look-seen.ensures s)
    c.in-Gap.is))

pub visit_slot-returns-else-d-c : goal.visit_slot-returns-else-d-c
visit_slot-returns-else-d-c t c =
    λ s.
    let a = c.args in
    let w = seen_entry s a.v a.c _ (ap (λ (x : ℕ). a.c * x)
    c.pow2-w.ensures)
    (c.look-seen.ensures s)
    (c.in-Shows.is ∙ ap Shows
    c.if-d-c.false) in
    let e = c.entry_at.ensures s w.entry w.at_node_lem w.stands in
    subst (λ (es : List Entry). Emits a.range.room (listed es a.range.first a.range.last) a.buffer.now a.k
    c.offer.new.buffer c.offer.result) (ap (λ (x : Entry). x ∷ []) e ∙ sym w.only)
    c.offer.ensures

pub visit_slot-returns-else-c-w : goal.visit_slot-returns-else-c-w
visit_slot-returns-else-c-w t c =
    λ s.
    let a = c.args in
    let pos : 0 < a.v = (below_ready s a.v a.c _ (ap (λ (x : ℕ). a.c * x)
    c.pow2-w.ensures)
    (c.look-seen.ensures s) a.k _
    (c.requires.ready s)
    c.in-Below.is).0 in
    let up : suc (a.v - 1) ≡ a.v = omega arith in
    subst (λ (u : ℕ). Emits a.range.room (listed (between s.list (a.c * 2 ^ tier_order u) (suc a.c * 2 ^ tier_order u))
    a.range.first a.range.last) a.buffer.now a.k c.visit_node.new.buffer
    c.visit_node.result) up
    (c.visit_node.ensures s)
