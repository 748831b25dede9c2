-- The word alone by ReplaceLaws, or a new entry.
use native.Mathlib.Omega.{arith}
use Rattle.layout.specs.Words.{slot_place}
use Rattle.layout.proofs.RenderWordLaws.{pool_length_lem}
use Rattle.store.proofs.ReachLaws.{reached_entry}
use Rattle.store.proofs.OutcomeLaws.{new_if, as_new, node_over, spot_fits, free_set}
use Rattle.store.proofs.store_in_node.Goals as goal

pub store_new-requires-clause-list_value : goal.store_new-requires-clause-list_value
store_new-requires-clause-list_value c =
    λ s. (
      new_if s c.args.target (c.requires.index_value s).0 c.if-e-target.true,
      reached_entry (c.requires.index_value s).0 c.if-e-target.true,
    )

pub returns-then-e-target-clause-stores_any : goal.returns-then-e-target-clause-stores_any
returns-then-e-target-clause-stores_any c =
    λ s. as_new s c.args.target.index c.args.target.order c.args.target.word
    (new_if s c.args.target (c.requires.index_value s).0 c.if-e-target.true)
    (c.store_new.ensures.stores_new s)

pub put_slot-requires : goal.put_slot-requires
put_slot-requires c =
    let q = spot_fits c.requires.well_formed (c.requires.index_value c.requires.well_formed).1 in
    omega (arith, q.0, q.1, pool_length_lem c.requires.well_formed)

pub returns-clause-stores_any : goal.returns-clause-stores_any
returns-clause-stores_any c =
    let z = c in
    let q = spot_fits z.requires.well_formed (z.requires.index_value z.requires.well_formed).1 in
    λ s. rw c.put_slot.ensures (node_over s z.args.target (z.requires.index_value s).0
    c.if-e-target.false z.requires.storable.0 z.requires.storable.2 c.with_word.ensures (z.requires.index_value s).1)

pub returns-clause-free_map : goal.returns-clause-free_map
returns-clause-free_map c =
    let z = c in
    let q = spot_fits z.requires.well_formed (z.requires.index_value z.requires.well_formed).1 in
    rw c.put_slot.ensures (free_set (slot_place z.args.at.node z.args.at.slot) z.args.target.word
    (λ z. omega arith) (λ m z. omega (arith, q.1)) z.requires.storable.1)
