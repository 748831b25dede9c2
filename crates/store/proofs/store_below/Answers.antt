-- GapLaws, where the numbers of the nodes below the empty slot are drawn.
use Prim.Native.Nat.{ℕ, ◌+◌}
use mathlib.Core.Path.{sym, subst}
use mathlib.Core.List.{List}
use native.Mathlib.Omega.{arith}
use Rattle.layout.proofs.RenderWordLaws.{pool_length_lem}
use Rattle.freenodes.specs.FreeNodes.{FreeMap}
use Rattle.plan.proofs.MapNumbers.{map_places, places_fit}
use Rattle.store.proofs.FilledWordLaws.{filled_bound}
use Rattle.store.proofs.GapLaws.{below_short, below_done, below_map, laid_lt}
use Rattle.store.proofs.store_below.Goals as goal

pub returns-then-not-enough-clause-stores_new : goal.returns-then-not-enough-clause-stores_new
returns-then-not-enough-clause-stores_new c =
    let no = c.if-not-enough.true in
    λ s. let d = c.draw-enough.ensures s.places (places_fit s) (map_places s c.requires.storable.1) in
    below_short s c.requires.slot_bits_bound.0 (c.requires.at_gap s) (d.short no)

pub returns-then-not-enough-clause-free_map : goal.returns-then-not-enough-clause-free_map
returns-then-not-enough-clause-free_map c =
    let no = c.if-not-enough.true in
    let d = c.draw-enough.ensures c.requires.well_formed.places (places_fit c.requires.well_formed) (map_places c.requires.well_formed c.requires.storable.1) in
    subst (λ (ms : List ℕ). FreeMap c.args.pool.now ms) (sym (d.same no)) c.requires.storable.1

pub build-requires-clause-by_index : goal.build-requires-clause-by_index
build-requires-clause-by_index c =
    let x = c in
    let yes = c.if-not-enough.false in
    let d = x.draw-enough.ensures x.requires.well_formed.places (places_fit x.requires.well_formed) (map_places x.requires.well_formed x.requires.storable.1) in
    let lt = laid_lt x.requires.well_formed x.requires.slot_bits_bound.0 (x.requires.at_gap x.requires.well_formed) (d.enough yes) (d.drawn yes) c.lay.ensures in
    λ u lo hi. omega (arith, pool_length_lem x.requires.well_formed, lt u (omega arith) hi)

pub build-requires-clause-u_bound : goal.build-requires-clause-u_bound
build-requires-clause-u_bound c =
    let x = c in
    let yes = c.if-not-enough.false in
    let d = x.draw-enough.ensures x.requires.well_formed.places (places_fit x.requires.well_formed) (map_places x.requires.well_formed x.requires.storable.1) in
    let lt = laid_lt x.requires.well_formed x.requires.slot_bits_bound.0 (x.requires.at_gap x.requires.well_formed) (d.enough yes) (d.drawn yes) c.lay.ensures in
    filled_bound x.requires.well_formed _ (lt (x.args.u + 1) (omega arith) (omega arith))

pub returns-clause-stores_new : goal.returns-clause-stores_new
returns-clause-stores_new c =
    let x = c in
    let yes = c.if-not-enough.false in
    λ s. let d = x.draw-enough.ensures s.places (places_fit s) (map_places s x.requires.storable.1) in
    below_done s x.requires.slot_bits_bound.0 (x.requires.at_gap s) (d.enough yes) (d.drawn yes) c.lay.ensures
    x.requires.storable.0.is_entry_lem c.entry_of.ensures c.build.ensures

pub returns-clause-free_map : goal.returns-clause-free_map
returns-clause-free_map c =
    let x = c in
    let yes = c.if-not-enough.false in
    let d = x.draw-enough.ensures x.requires.well_formed.places (places_fit x.requires.well_formed) (map_places x.requires.well_formed x.requires.storable.1) in
    below_map x.requires.well_formed x.requires.slot_bits_bound.0 (x.requires.at_gap x.requires.well_formed) (d.enough yes) (d.drawn yes) c.lay.ensures
    x.requires.storable.0.is_entry_lem x.requires.storable.0.word_fits c.build.ensures
