use Rattle.prepare.proofs.PrepareLaws.{gives_same}
use Rattle.prepare.proofs.StaysLaws.{entry_there_lem}
use Rattle.prepare.proofs.StoreLaws.{over_stays, over_done}
use Rattle.prepare.proofs.over_entry.Goals as goal

pub edit_entry-requires-clause-entry_there : goal.edit_entry-requires-clause-entry_there
edit_entry-requires-clause-entry_there c =
    (λ y. entry_there_lem y c.args.i (c.requires.i_value y).0 (c.requires.i_value y).1)

pub edit_entry-requires-clause-edited : goal.edit_entry-requires-clause-edited
edit_entry-requires-clause-edited c =
    record {
      formed = c.requires.well_formed;
      option = _;
      list = _;
      stays = over_stays c.requires.well_formed c.args.out.now c.args.i c.args.k c.args.w c.requires.k_le_order.1 c.requires.k_le_order.2 c.requires.k_le_order.3 (c.requires.i_value c.requires.well_formed).0
          c.requires.k_le_order.0 c.ranges.i.fits c.ranges.w.fits c.with_bit-marks.ensures;
    }

pub returns-clause-fact : goal.returns-clause-fact
returns-clause-fact c =
    λ s. let (q, h) = c.requires.i_value s in
    let st = over_stays s c.args.out.now c.args.i c.args.k c.args.w c.requires.k_le_order.1 c.requires.k_le_order.2 c.requires.k_le_order.3 q c.requires.k_le_order.0
    c.ranges.i.fits c.ranges.w.fits c.with_bit-marks.ensures in
    (gives_same (over_done s c.args.out.now c.args.i c.args.k c.args.w c.requires.k_le_order.1 c.requires.k_le_order.2 c.requires.k_le_order.3 q c.requires.k_le_order.0 st)
    (record { result_is = c.edit_entry.ensures.fact s _ _ st; slice_is = c.edit_entry.ensures.fact_2 s _ _ st })
    ).result_is

pub returns-clause-fact_2 : goal.returns-clause-fact_2
returns-clause-fact_2 c =
    λ s. let (q, h) = c.requires.i_value s in
    let st = over_stays s c.args.out.now c.args.i c.args.k c.args.w c.requires.k_le_order.1 c.requires.k_le_order.2 c.requires.k_le_order.3 q c.requires.k_le_order.0
    c.ranges.i.fits c.ranges.w.fits c.with_bit-marks.ensures in
    (gives_same (over_done s c.args.out.now c.args.i c.args.k c.args.w c.requires.k_le_order.1 c.requires.k_le_order.2 c.requires.k_le_order.3 q c.requires.k_le_order.0 st)
    (record { result_is = c.edit_entry.ensures.fact s _ _ st; slice_is = c.edit_entry.ensures.fact_2 s _ _ st })
    ).slice_is
