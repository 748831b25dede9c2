use mathlib.Core.Path.{sym, subst, ◌∙◌}
use Prim.Native.Nat.{ℕ, ◌/◌}
use native.Mathlib.Omega.{arith}
use native.Mathlib.Nat.{le_refl}
use Rattle.tree.specs.Tree.{slot_bits}
use Rattle.layout.proofs.RenderWordLaws.{pool_length_lem, pool_anchor}
use Rattle.script_rows.proofs.PathLaws.{roomy_ready}
use Rattle.script_table.specs.Table.{row_count}
use Rattle.script_new.specs.Chain.{NewNumbers}
use Rattle.script_new.proofs.NewLaws.{stays_of, in_low, low_bounds, low, top_le, old_le, path_lt, new_roomy, chain_room_lem, turns_new}
use Rattle.script_new.proofs.BeginLaws.{begun_new, chains_new}
use Rattle.script_new.proofs.FinalLaws.{new_rows_are}
use Rattle.script_new.proofs.new_rows.Goals as goal

pub begin_new-requires-clause-roomy : goal.begin_new-requires-clause-roomy
begin_new-requires-clause-roomy c =
    let np = c.requires.new_planned c.requires.well_formed in
    let st = stays_of c.requires.well_formed c.args.heads c.args.at.base c.args.at.order c.requires.word_value.0 in
    new_roomy c.requires.well_formed np c.requires.row_count_in_bounds.2 c.requires.row_count_in_bounds.0

pub begin_new-requires-clause-top_tier_in_bounds : goal.begin_new-requires-clause-top_tier_in_bounds
begin_new-requires-clause-top_tier_in_bounds c =
    let np = c.requires.new_planned c.requires.well_formed in
    let st = stays_of c.requires.well_formed c.args.heads c.args.at.base c.args.at.order c.requires.word_value.0 in
    (c.requires.row_count_in_bounds.3, λ t. (st (sym c.is_beside-beside.ensures ∙ t)).grows, λ t. chain_room_lem c.requires.well_formed np (st (sym c.is_beside-beside.ensures ∙ t)))

pub put_rows-requires-clause-ready : goal.put_rows-requires-clause-ready
put_rows-requires-clause-ready c =
    let np = c.requires.new_planned c.requires.well_formed in
    roomy_ready {rs = c.args.rows.now} (new_roomy c.requires.well_formed np c.requires.row_count_in_bounds.2 c.requires.row_count_in_bounds.0) c.begin_new.auto.rows

pub chain_rows-requires-clause-heads_bound : goal.chain_rows-requires-clause-heads_bound
chain_rows-requires-clause-heads_bound c =
    let np = c.requires.new_planned c.requires.well_formed in
    ((low_bounds c.requires.well_formed c.args.heads c.args.at.base c.args.at.order c.requires.word_value.0 c.is_beside-beside.ensures c.low_chain-low.ensures (old_le c.requires.well_formed np) np.known.some_node).0, top_le c.requires.well_formed np)

pub chain_rows-requires-clause-chain_room : goal.chain_rows-requires-clause-chain_room
chain_rows-requires-clause-chain_room c =
    let np = c.requires.new_planned c.requires.well_formed in
    λ h. chain_room_lem c.requires.well_formed np (in_low c.requires.well_formed c.args.heads c.args.at.base c.args.at.order c.requires.word_value.0 c.is_beside-beside.ensures c.low_chain-low.ensures h)

pub offset_bounds-path-top : goal.offset_bounds-path-top
offset_bounds-path-top c =
    omega (arith, top_le c.requires.well_formed (c.requires.new_planned c.requires.well_formed))

pub bounds-path-top : goal.bounds-path-top
bounds-path-top c =
    omega (
      arith,
      top_le c.requires.well_formed (c.requires.new_planned c.requires.well_formed),
      c.requires.row_count_in_bounds.2,
    )

pub node_word-w-requires : goal.node_word-w-requires
node_word-w-requires c =
    let np = c.requires.new_planned c.requires.well_formed in
    omega (arith, path_lt c.requires.well_formed np c.args.heads.new (low c.requires.well_formed np) (le_refl c.args.heads.new), c.requires.well_formed.most)

pub anchor_row-requires : goal.anchor_row-requires
anchor_row-requires c =
    let np = c.requires.new_planned c.requires.well_formed in (
      omega (arith, pool_length_lem c.requires.well_formed),
      omega (
        arith,
        top_le c.requires.well_formed np,
        c.requires.row_count_in_bounds.0,
        c.chain_rows.auto.rows,
        c.put_rows.auto.rows,
        c.begin_new.auto.rows,
      ),
    )

pub number_rows-requires-clause-v_le_top_tier : goal.number_rows-requires-clause-v_le_top_tier
number_rows-requires-clause-v_le_top_tier c =
    let np = c.requires.new_planned c.requires.well_formed in
    let lb = low_bounds c.requires.well_formed c.args.heads c.args.at.base c.args.at.order c.requires.word_value.0 c.is_beside-beside.ensures c.low_chain-low.ensures
    (old_le c.requires.well_formed np) np.known.some_node in
    (omega (arith, low c.requires.well_formed np, top_le c.requires.well_formed np), top_le c.requires.well_formed np, omega (arith, lb.1, top_le c.requires.well_formed np), c.requires.row_count_in_bounds.2, c.requires.row_count_in_bounds.3)

pub returns : goal.returns
returns c =
    λ s o l nl. let np = c.requires.new_planned s in
    new_rows_are s np nl c.requires.word_value.0 c.is_beside-beside.ensures c.low_chain-low.ensures
    (c.put_rows.ensures s.list o l _ (turns_new s np nl)
    (begun_new s np nl c.requires.word_value.0 c.requires.word_value.1 (old_le s np) c.is_beside-beside.ensures c.begin_new.ensures))
    c.chain_rows.ensures.by_index
    (λ st. c.chain_rows.ensures.chain_shown l _ (chains_new
    s np nl st c.requires.word_value.0 c.requires.word_value.1))
    c.anchor_row.ensures c.node_word-w.ensures
    (subst (λ (n : ℕ). NewNumbers c.number_rows.new.nums c.args.path.now c.args.chain.now (c.args.at.order / slot_bits) c.args.heads.new
    c.low_chain-low.result n row_count) (pool_anchor s 0 (omega arith)) c.number_rows.ensures)
