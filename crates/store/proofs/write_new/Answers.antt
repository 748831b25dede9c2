-- Beside the old tree by ExtendLaws, else by RebuildLaws.
use Prim.Native.Nat.{ℕ}
use mathlib.Core.Path.{◌≡◌, sym, ap, ◌∙◌}
use mathlib.Core.Bool.{Bool, not}
use native.Mathlib.Omega.{arith}
use lib.Dec.{eqb, ltb}
use Rattle.blocks.specs.Choice.{both, either}
use Rattle.blocks.specs.Blocks.{block}
use Rattle.layout.specs.Words.{pool_words}
use Rattle.layout.proofs.RenderWordLaws.{pool_length_lem}
use Rattle.store.proofs.RebuildLaws.{top_le, low_top, path_lt, map_way, rebuild_is}
use Rattle.store.proofs.FilledWordLaws.{filled_bound}
use Rattle.store.proofs.ExtendLaws.{beside_fits, beside_done, beside_map}
use Rattle.store.proofs.OutcomeLaws.{size_word, node_lt, stores_new_lem}
use Rattle.store.proofs.write_new.Goals as goal

way : (c : goal.After-extend-arg-1) → c.grows_beside.result ≡
    both (ltb c.args.heads.old c.args.heads.new)
    (either (eqb c.args.heads.word 0) (not (eqb (block c.args.target.order c.args.target.index) 0)))
way c = c.grows_beside.ensures ∙ ap
    (λ (b : Bool). both (ltb c.args.heads.old c.args.heads.new) (either (eqb c.args.heads.word 0) (not b)))
    c.starts_at_0.ensures

way_2 : (c : goal.After-entry_of) → c.grows_beside.result ≡
    both (ltb c.args.heads.old c.args.heads.new)
    (either (eqb c.args.heads.word 0) (not (eqb (block c.args.target.order c.args.target.index) 0)))
way_2 c = c.grows_beside.ensures ∙ ap
    (λ (b : Bool). both (ltb c.args.heads.old c.args.heads.new) (either (eqb c.args.heads.word 0) (not b)))
    c.starts_at_0.ensures

way_3 : (c : goal.After-new_entry) → c.grows_beside.result ≡
    both (ltb c.args.heads.old c.args.heads.new)
    (either (eqb c.args.heads.word 0) (not (eqb (block c.args.target.order c.args.target.index) 0)))
way_3 c = c.grows_beside.ensures ∙ ap
    (λ (b : Bool). both (ltb c.args.heads.old c.args.heads.new) (either (eqb c.args.heads.word 0) (not b)))
    c.starts_at_0.ensures

pub extend-requires-clause-storable : goal.extend-requires-clause-storable
extend-requires-clause-storable c =
    let r = c.requires.prepared c.requires.well_formed in
    let f = beside_fits c.requires.well_formed r c.requires.word_value.0 c.requires.word_value.1
    (sym (way c) ∙ c.if-grows_beside.true) in
    (c.requires.storable, low_top c.requires.well_formed r, top_le c.requires.well_formed r, f.0)

pub extend-requires-clause-by_index : goal.extend-requires-clause-by_index
extend-requires-clause-by_index c =
    let r = c.requires.prepared c.requires.well_formed in
    let f = beside_fits c.requires.well_formed r c.requires.word_value.0 c.requires.word_value.1
    (sym (way c) ∙ c.if-grows_beside.true) in
    f.1

pub extend-requires-clause-u_in_bounds : goal.extend-requires-clause-u_in_bounds
extend-requires-clause-u_in_bounds c =
    let r = c.requires.prepared c.requires.well_formed in
    let f = beside_fits c.requires.well_formed r c.requires.word_value.0 c.requires.word_value.1
    (sym (way c) ∙ c.if-grows_beside.true) in
    f.2

pub returns-then-grows_beside-clause-stores_new : goal.returns-then-grows_beside-clause-stores_new
returns-then-grows_beside-clause-stores_new c =
    let beside = sym (way_2 c) ∙ c.if-grows_beside.true in
    λ s. beside_done s (c.requires.prepared s) c.requires.word_value.0 c.requires.word_value.1 beside
    c.requires.storable.is_entry_lem c.entry_of.ensures c.extend.ensures

pub returns-then-grows_beside-clause-free_map : goal.returns-then-grows_beside-clause-free_map
returns-then-grows_beside-clause-free_map c =
    let beside = sym (way_2 c) ∙ c.if-grows_beside.true in
    beside_map c.requires.well_formed (c.requires.prepared c.requires.well_formed) c.requires.word_value.0 c.requires.word_value.1 beside
    c.requires.storable.is_entry_lem c.requires.storable.word_fits c.extend.ensures

pub rebuild-requires-clause-pool_len : goal.rebuild-requires-clause-pool_len
rebuild-requires-clause-pool_len c =
    let r = c.requires.prepared c.requires.well_formed in
    pool_length_lem c.requires.well_formed ∙ ap (λ (n : ℕ). pool_words n) (sym (size_word c.requires.well_formed))

pub rebuild-requires-clause-storable : goal.rebuild-requires-clause-storable
rebuild-requires-clause-storable c =
    let r = c.requires.prepared c.requires.well_formed in
    (c.requires.storable, low_top c.requires.well_formed r, top_le c.requires.well_formed r, c.requires.word_value.2)

pub rebuild-requires-clause-by_index : goal.rebuild-requires-clause-by_index
rebuild-requires-clause-by_index c =
    let r = c.requires.prepared c.requires.well_formed in
    λ u a b. omega (arith, size_word c.requires.well_formed, path_lt c.requires.well_formed r u a b)

pub rebuild-requires-clause-slot_bits_bound : goal.rebuild-requires-clause-slot_bits_bound
rebuild-requires-clause-slot_bits_bound c =
    let r = c.requires.prepared c.requires.well_formed in
    filled_bound c.requires.well_formed _ (node_lt c.requires.well_formed r)

pub new_entry-requires-clause-a_in_bounds : goal.new_entry-requires-clause-a_in_bounds
new_entry-requires-clause-a_in_bounds c =
    let p = c.requires in
    omega (
      arith,
      node_lt p.well_formed (p.prepared p.well_formed),
      c.rebuild.auto.pool,
      pool_length_lem p.well_formed,
    )

pub returns-clause-stores_new : goal.returns-clause-stores_new
returns-clause-stores_new c =
    let no = sym (way_3 c) ∙ c.if-grows_beside.false in
    λ s. stores_new_lem s (c.requires.prepared s) c.requires.storable.is_entry_lem c.requires.storable.word_fits
    (c.rebuild.ensures.pool_after ∙ rebuild_is s (c.requires.prepared s) c.requires.word_value.0 c.requires.word_value.1 no (size_word s)
    c.requires.storable.is_entry_lem) c.new_entry.result c.new_entry.ensures

pub returns-clause-free_map : goal.returns-clause-free_map
returns-clause-free_map c =
    let no = sym (way_3 c) ∙ c.if-grows_beside.false in
    map_way c.requires.well_formed (c.requires.prepared c.requires.well_formed) c.requires.word_value.0 c.requires.word_value.1 no (size_word c.requires.well_formed)
    c.requires.storable.is_entry_lem c.requires.storable.word_fits (c.rebuild.ensures.pool_after ∙ rebuild_is c.requires.well_formed (c.requires.prepared c.requires.well_formed) c.requires.word_value.0
    c.requires.word_value.1 no (size_word c.requires.well_formed) c.requires.storable.is_entry_lem) c.rebuild.ensures.follows
