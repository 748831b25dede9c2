use Rattle.answers.proofs.ReportLaws.{of_refused}
use Rattle.std.proofs.Common.{refl}
use mathlib.Core.Path.{◌≡◌, sym, ◌∙◌}
use mathlib.Core.Bool.{true, false}
use Rattle.answers.specs.Answers.{absent}
use Rattle.model.specs.Model.{reserved}
use Rattle.prepare.proofs.PrepareLaws.{gives_same, gives_refused, remark_none, remark_some, absent_at, present_at}
use Rattle.prepare.proofs.StaysLaws.{entry_there_lem, remark_stays}
use Rattle.prepare.proofs.remark_entry.Goals as goal

pub returns-then-is_reserved-clause-fact : goal.returns-then-is_reserved-clause-fact
returns-then-is_reserved-clause-fact c =
    let t : reserved c.args.e ≡ true = sym c.is_reserved.ensures ∙ c.if-is_reserved.true in
    λ s. (gives_refused absent (of_refused _ c.from.ensures refl) (remark_none s c.args.out.now c.args.i c.args.m
    c.args.on c.requires.m_lt_mark_count (absent_at s.list c.args.i (c.requires.i_value s).0 t))).result_is

pub returns-then-is_reserved-clause-fact_2 : goal.returns-then-is_reserved-clause-fact_2
returns-then-is_reserved-clause-fact_2 c =
    let t : reserved c.args.e ≡ true = sym c.is_reserved.ensures ∙ c.if-is_reserved.true in
    λ s. (gives_refused absent (of_refused _ c.from.ensures refl) (remark_none s c.args.out.now c.args.i c.args.m
    c.args.on c.requires.m_lt_mark_count (absent_at s.list c.args.i (c.requires.i_value s).0 t))).slice_is

pub edit_entry-requires-clause-entry_there : goal.edit_entry-requires-clause-entry_there
edit_entry-requires-clause-entry_there c =
    let r : reserved c.args.e ≡ false = sym c.is_reserved.ensures ∙ c.if-is_reserved.false in
    (λ y. entry_there_lem y c.args.i (c.requires.i_value y).0 (c.requires.i_value y).1)

pub edit_entry-requires-clause-edited : goal.edit_entry-requires-clause-edited
edit_entry-requires-clause-edited c =
    let r : reserved c.args.e ≡ false = sym c.is_reserved.ensures ∙ c.if-is_reserved.false in
    record {
      formed = c.requires.well_formed;
      option = _;
      list = _;
      stays = remark_stays c.requires.well_formed c.args.i (c.requires.i_value c.requires.well_formed).0 c.args.m c.args.on c.requires.m_lt_mark_count r c.with_bit-marks.ensures;
    }

pub returns-clause-fact : goal.returns-clause-fact
returns-clause-fact c =
    let r : reserved c.args.e ≡ false = sym c.is_reserved.ensures ∙ c.if-is_reserved.false in
    λ s. let (q, h) = c.requires.i_value s in
    let st = remark_stays s c.args.i q c.args.m c.args.on c.requires.m_lt_mark_count r c.with_bit-marks.ensures in
    (gives_same (remark_some s c.args.out.now c.args.i c.args.m c.args.on c.requires.m_lt_mark_count
    (present_at s.list c.args.i q r))
    (record { result_is = c.edit_entry.ensures.fact s _ _ st; slice_is = c.edit_entry.ensures.fact_2 s _ _ st })
    ).result_is

pub returns-clause-fact_2 : goal.returns-clause-fact_2
returns-clause-fact_2 c =
    let r : reserved c.args.e ≡ false = sym c.is_reserved.ensures ∙ c.if-is_reserved.false in
    λ s. let (q, h) = c.requires.i_value s in
    let st = remark_stays s c.args.i q c.args.m c.args.on c.requires.m_lt_mark_count r c.with_bit-marks.ensures in
    (gives_same (remark_some s c.args.out.now c.args.i c.args.m c.args.on c.requires.m_lt_mark_count
    (present_at s.list c.args.i q r))
    (record { result_is = c.edit_entry.ensures.fact s _ _ st; slice_is = c.edit_entry.ensures.fact_2 s _ _ st })
    ).slice_is
