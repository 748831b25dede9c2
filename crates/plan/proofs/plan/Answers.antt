-- Each step of planning by its law (PlanLaws): the lowest tier there is, the count of the new nodes, their numbers from the map.
use Prim.Native.Nat.{◌≤◌}
use mathlib.Core.Path.{◌≡◌, ap, subst, ◌∙◌}
use mathlib.Core.Bool.{Bool, not}
use native.Mathlib.Omega.{arith}
use lib.Dec.{eqb}
use lib.ListN.{length, length-set}
use Rattle.blocks.specs.Choice.{both}
use Rattle.blocks.specs.Blocks.{block}
use Rattle.tree.specs.Tree.{top_tier}
use Rattle.layout.specs.WellFormed.{WellFormed}
use Rattle.plan.specs.Plan.{Draws}
use Rattle.plan.proofs.MapNumbers.{map_places, places_fit}
use Rattle.plan.proofs.PlanLaws.{low_tier, top_small, h_le_top, path_head, planned_no, planned_yes}
use Rattle.plan.proofs.plan.Goals as goal

small : (c : goal.After-lowest_tier-arg-1) → c.args.heads.new ≤ top_tier
small c = top_small c.requires.well_formed (c.requires.known c.requires.well_formed)

small_2 : (c : goal.After-chained_of-chained) → c.args.heads.new ≤ top_tier
small_2 c = top_small c.requires.well_formed (c.requires.known c.requires.well_formed)

small_3 : (c : goal.Else-not-enough) → c.args.heads.new ≤ top_tier
small_3 c = top_small c.requires.well_formed (c.requires.known c.requires.well_formed)

small_4 : (c : goal.After-assign-arg-2-1) → c.args.heads.new ≤ top_tier
small_4 c = top_small c.requires.well_formed (c.requires.known c.requires.well_formed)

small_5 : (c : goal.After-slice_known-7-1) → c.args.heads.new ≤ top_tier
small_5 c = top_small c.requires.well_formed (c.requires.known c.requires.well_formed)

small_6 : (c : goal.After-slice_known-8-1) → c.args.heads.new ≤ top_tier
small_6 c = top_small c.requires.well_formed (c.requires.known c.requires.well_formed)

below : (c : goal.After-lowest_tier-arg-1) → c.args.heads.old ≤ c.args.heads.new
below c = h_le_top c.requires.well_formed (c.requires.known c.requires.well_formed)

below_2 : (c : goal.Else-not-enough) → c.args.heads.old ≤ c.args.heads.new
below_2 c = h_le_top c.requires.well_formed (c.requires.known c.requires.well_formed)

below_3 : (c : goal.After-slice_known-8-1) → c.args.heads.old ≤ c.args.heads.new
below_3 c = h_le_top c.requires.well_formed (c.requires.known c.requires.well_formed)

chained_is : (c : goal.Then-not-enough) →
    c.chained_of-chained.result ≡ both (not (eqb c.args.heads.word 0)) (not (eqb (block c.args.target.order c.args.target.index) 0))
chained_is c = c.chained_of-chained.ensures ∙
    ap (λ (b : Bool). both (not (eqb c.args.heads.word 0)) (not b)) c.starts_at_0.ensures

chained_is_2 : (c : goal.After-slice_known-8-1) →
    c.chained_of-chained.result ≡ both (not (eqb c.args.heads.word 0)) (not (eqb (block c.args.target.order c.args.target.index) 0))
chained_is_2 c = c.chained_of-chained.ensures ∙
    ap (λ (b : Bool). both (not (eqb c.args.heads.word 0)) (not b)) c.starts_at_0.ensures

chain_long : (c : goal.After-slice_known-8-1) → length c.assign.new.chain ≡ length c.args.chain.now
chain_long c = c.assign.auto.chain ∙
    length-set c.args.chain.now c.args.heads.old c.node_number-first.result

abbrev Drew : (c : goal.Then-not-enough) → WellFormed c.args.pool.now → Bool → Type 0
Drew c s b = Draws s.places c.count_new-need.result c.draw-enough.new.nums c.args.map.now
    c.draw-enough.new.map b

abbrev Drew_2 : (c : goal.After-slice_known-8-1) → WellFormed c.args.pool.now → Bool → Type 0
Drew_2 c s b = Draws s.places c.count_new-need.result c.draw-enough.new.nums c.args.map.now
    c.draw-enough.new.map b

drew : (c : goal.Then-not-enough) (s : WellFormed c.args.pool.now) → Drew c s c.draw-enough.result
drew c s = c.draw-enough.ensures s.places (places_fit s) (map_places s c.requires.free_map)

drew_2 : (c : goal.After-slice_known-8-1) (s : WellFormed c.args.pool.now) → Drew_2 c s c.draw-enough.result
drew_2 c s = c.draw-enough.ensures s.places (places_fit s) (map_places s c.requires.free_map)

pub lowest_tier-d-requires-clause-v_lt_top : goal.lowest_tier-d-requires-clause-v_lt_top
lowest_tier-d-requires-clause-v_lt_top c =
    (low_tier c.requires.well_formed (c.requires.known c.requires.well_formed), small c, below c, c.requires.word_value.1)

pub lowest_tier-d-requires-clause-h_value : goal.lowest_tier-d-requires-clause-h_value
lowest_tier-d-requires-clause-h_value c =
    λ s. (
      (c.requires.known s).h_is,
      path_head s (c.requires.known s) c.requires.word_value.0 c.node_number-first.ensures,
    )

pub count_new-need-requires : goal.count_new-need-requires
count_new-need-requires c =
    small_2 c

pub returns-then-not-enough : goal.returns-then-not-enough
returns-then-not-enough c =
    λ s. planned_no s (c.requires.known s) c.requires.word_value.0 (chained_is c) (c.lowest_tier-d.ensures s) c.count_new-need.ensures.0
    (subst (Drew c s) c.if-not-enough.true (drew c s))

pub offset_bounds-chain-h : goal.offset_bounds-chain-h
offset_bounds-chain-h c =
    omega (arith, below_2 c, small_3 c)

pub bounds-chain-h : goal.bounds-chain-h
bounds-chain-h c =
    omega (arith, c.requires.word_value.2, below_2 c, small_3 c)

pub assign-requires-clause-top_le_top_tier : goal.assign-requires-clause-top_le_top_tier
assign-requires-clause-top_le_top_tier c =
    let d = c in
    small_4 c

pub offset_bounds-path-top : goal.offset_bounds-path-top
offset_bounds-path-top c =
    omega (arith, small_5 c)

pub bounds-path-top : goal.bounds-path-top
bounds-path-top c =
    omega (
      arith,
      c.assign.auto.path,
      c.lowest_tier-d.auto.path,
      c.requires.word_value.1,
      small_6 c,
    )

pub offset_bounds-chain-top : goal.offset_bounds-chain-top
offset_bounds-chain-top c =
    omega (arith, small_6 c)

pub bounds-chain-top : goal.bounds-chain-top
bounds-chain-top c =
    let z = c in
    omega (arith, chain_long c, z.requires.word_value.2, small_6 z)

pub returns : goal.returns
returns c =
    λ s. planned_yes s (c.requires.known s) c.requires.word_value.0 (chained_is_2 c) (c.lowest_tier-d.ensures s) c.node_number-first.ensures
    c.args.chain.now c.count_new-need.ensures.0 (subst (Drew_2 c s) c.if-not-enough.false (drew_2 c s))
    c.assign.ensures (omega (arith, c.requires.word_value.2, below_3 c, small_6 c)) (omega (arith, chain_long c, c.requires.word_value.2, small_6 c))
