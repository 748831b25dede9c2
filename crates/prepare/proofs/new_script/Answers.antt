use Rattle.prepare.proofs.PrepareLaws.{gives_same}
use Rattle.prepare.proofs.PutLaws.{target_words, target_wide, target_done}
use Rattle.prepare.proofs.new_script.Goals as goal

pub yield_wide-requires-clause-widely : goal.yield_wide-requires-clause-widely
yield_wide-requires-clause-widely c =
    let e = c.kept_marks-marks.ensures c.requires.well_formed in
    record {
      formed = c.requires.well_formed;
      words = target_words c.requires.well_formed c.requires.storable.0 c.requires.storable.1 (c.requires.new_planned c.requires.well_formed) e;
      wide = target_wide c.requires.well_formed c.requires.storable.0 c.requires.storable.1 (c.requires.new_planned c.requires.well_formed) e (c.new_rows.ensures c.requires.well_formed);
    }

pub returns-clause-fact : goal.returns-clause-fact
returns-clause-fact c =
    λ s. let pl = c.requires.new_planned s in let e = c.kept_marks-marks.ensures s in let w = target_wide s c.requires.storable.0 c.requires.storable.1 pl e (c.new_rows.ensures s) in
    (gives_same (target_done s c.requires.storable.0 c.requires.storable.1 pl e c.args.out.now)
    (record { result_is = c.yield_wide.ensures.fact s _ w; slice_is = c.yield_wide.ensures.fact_2 s _ w })).result_is

pub returns-clause-fact_2 : goal.returns-clause-fact_2
returns-clause-fact_2 c =
    λ s. let pl = c.requires.new_planned s in let e = c.kept_marks-marks.ensures s in let w = target_wide s c.requires.storable.0 c.requires.storable.1 pl e (c.new_rows.ensures s) in
    (gives_same (target_done s c.requires.storable.0 c.requires.storable.1 pl e c.args.out.now)
    (record { result_is = c.yield_wide.ensures.fact s _ w; slice_is = c.yield_wide.ensures.fact_2 s _ w })).slice_is
