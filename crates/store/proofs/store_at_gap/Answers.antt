-- The slots alone by GapLaws, or one of the other ways.
use Prim.Native.Nat.{ℕ, ◌+◌, ◌/◌, ◌<◌}
use mathlib.Core.Path.{◌≡◌, ap, subst, ◌∙◌}
use native.Mathlib.Omega.{arith}
use lib.ListN.{length, get_or}
use Rattle.tree.specs.Tree.{slot_bits}
use Rattle.layout.specs.Words.{last_place, slot_place}
use Rattle.lookup.proofs.WordLaws.{node_at, node_fits_lem}
use Rattle.write.specs.declared.Seat.{Seat}
use Rattle.write.specs.Writes.{settled}
use Rattle.store.proofs.FilledWordLaws.{filled_bound}
use Rattle.store.proofs.ReachLaws.{reached_gap}
use Rattle.store.proofs.GapLaws.{slots_done, slots_map}
use Rattle.store.proofs.store_at_gap.Goals as goal

node_ok : (c : goal.After-struct_known-2-1) → last_place c.seat_of-seat.result.node < length c.args.pool.now
node_ok c = omega (
  arith,
  ap (λ (e : Seat). e.node) c.seat_of-seat.ensures.value,
  (node_fits_lem c.requires.well_formed (c.requires.at_gap c.requires.well_formed).at_node_lem).0,
)

node_ok_2 : (c : goal.After-settle-arg-1) → last_place c.seat_of-seat.result.node < length c.args.pool.now
node_ok_2 c = omega (
  arith,
  ap (λ (e : Seat). e.node) c.seat_of-seat.ensures.value,
  (node_fits_lem c.requires.well_formed (c.requires.at_gap c.requires.well_formed).at_node_lem).0,
)

node_lt : (c : goal.After-settle-arg-1) → c.seat_of-seat.result.node < c.requires.well_formed.n
node_lt c = omega (
  arith,
  ap (λ (e : Seat). e.node) c.seat_of-seat.ensures.value,
  (node_at c.requires.well_formed (c.requires.at_gap c.requires.well_formed).at_node_lem).0,
)

pub store_new-requires-clause-list_value : goal.store_new-requires-clause-list_value
store_new-requires-clause-list_value c =
    λ s. (
      (c.requires.at_gap s).new.is_new,
      reached_gap (c.requires.at_gap s).at_node_lem (omega (arith, c.if-u-v.true)),
    )

pub vacant-requires-clause-n_in_bounds : goal.vacant-requires-clause-n_in_bounds
vacant-requires-clause-n_in_bounds c =
    node_ok c

pub settle-requires-clause-node_bound : goal.settle-requires-clause-node_bound
settle-requires-clause-node_bound c =
    node_ok_2 c

pub settle-requires-clause-node_bound_2 : goal.settle-requires-clause-node_bound_2
settle-requires-clause-node_bound_2 c =
    filled_bound c.requires.well_formed _ (node_lt c)

pub returns-clause-stores_new : goal.returns-clause-stores_new
returns-clause-stores_new c =
    let tier_is : c.args.target.order / slot_bits ≡ c.args.u = omega (arith, c.if-v-u.false, c.if-u-v.false) in
    let r : Seat = c.seat_of-seat.result in
    let none = subst (λ (e : Seat). (j : ℕ) → j < e.count → get_or c.args.pool.now (slot_place e.node (e.slot + j)) 0 ≡ 0) c.seat_of-seat.ensures.value
    (λ j lt. c.vacant.ensures.0 c.if-not-vacant.false (r.slot + j) (omega arith) (omega arith)) in
    let words = c.settle.ensures ∙ ap (λ (e : Seat). settled c.args.pool.now e.node e.slot e.count
    c.args.target.word) c.seat_of-seat.ensures.value in
    λ s. slots_done s (c.requires.at_gap s) tier_is
    none c.requires.storable.0.is_entry_lem c.entry_of.ensures words

pub returns-clause-free_map : goal.returns-clause-free_map
returns-clause-free_map c =
    let tier_is : c.args.target.order / slot_bits ≡ c.args.u = omega (arith, c.if-v-u.false, c.if-u-v.false) in
    let r : Seat = c.seat_of-seat.result in
    let none = subst (λ (e : Seat). (j : ℕ) → j < e.count → get_or c.args.pool.now (slot_place e.node (e.slot + j)) 0 ≡ 0) c.seat_of-seat.ensures.value
    (λ j lt. c.vacant.ensures.0 c.if-not-vacant.false (r.slot + j) (omega arith) (omega arith)) in
    let words = c.settle.ensures ∙ ap (λ (e : Seat). settled c.args.pool.now e.node e.slot e.count
    c.args.target.word) c.seat_of-seat.ensures.value in
    slots_map c.requires.well_formed (c.requires.at_gap c.requires.well_formed)
    tier_is none c.requires.storable.0.is_entry_lem c.requires.storable.0.word_fits c.requires.storable.1 words
