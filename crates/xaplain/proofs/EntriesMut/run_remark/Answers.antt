-- `run_remark`: a mark or an unmark, its reply and the marks.
use mathlib.Core.Path.{refl, sym, ap, ◌∙◌}
use borrow.Author.Tests.{eqb-true, eqb-false}
use Rattle.model.specs.declared.Entry.{Entry}
use Rattle.model.specs.Model.{present}
use Rattle.xaplain.proofs.LentLaws.{held, within, same_entry}
use Rattle.xaplain.proofs.PlaceLaws.{searchable, place_none, place_in, place_some, place_reserved}
use Rattle.xaplain.proofs.RemarkLaws.{remark_refused, remark_none, remarks}
use Rattle.xaplain.proofs.EntriesMut.run_remark.Goals as goal

pub returns-then-m-ge-MARKS-clause-executes : goal.returns-then-m-ge-MARKS-clause-executes
returns-then-m-ge-MARKS-clause-executes c =
    λ h. remark_refused h c.args.i c.args.m c.args.on c.if-m-ge-MARKS.true c.remarked_tag-tag.ensures c.refused.ensures

pub place-requires : goal.place-requires
place-requires c = searchable (held c.lent-s.ensures c.requires)

pub returns-in_default-clause-executes : goal.returns-in_default-clause-executes
returns-in_default-clause-executes c =
    λ h. remark_none h c.args.i c.args.m c.args.on c.if-m-ge-MARKS.false
    (ap present (place_none (held c.lent-s.ensures h) c.args.i c.in_default.ensures)) c.remarked_tag-tag.ensures c.refused-in_default.ensures

pub returns-then-is_reserved-clause-executes : goal.returns-then-is_reserved-clause-executes
returns-then-is_reserved-clause-executes c =
    λ h. remark_none h c.args.i c.args.m c.args.on c.if-m-ge-MARKS.false
    (place_reserved (held c.lent-s.ensures h) c.args.i c.in-Some.k c.in-Some.ensures
    (sym (ap (λ (e : Entry). e.word) c.entry_at-e.ensures) ∙ eqb-true _ _ (sym c.is_reserved.ensures ∙ c.if-is_reserved.true))) c.remarked_tag-tag.ensures c.refused-then-is_reserved.ensures

pub returns-clause-executes : goal.returns-clause-executes
returns-clause-executes c =
    λ h. let a = c.args in let k = c.in-Some.k in let d = c.in-Some.ensures in
    remarks h a.i a.m a.on c.if-m-ge-MARKS.false k c.with_bit-x.result
    (place_in (held c.lent-s.ensures h) a.i k d) (place_some (held c.lent-s.ensures h) a.i k d)
    c.entry_at-e.result (c.entry_at-e.ensures ∙ same_entry c.lent-s.ensures k) (eqb-false _ _ (sym c.is_reserved.ensures ∙ c.if-is_reserved.false)) c.with_bit-x.ensures c.remarked_tag-tag.ensures c.answered_by.ensures refl

pub entry_at-e-requires : goal.entry_at-e-requires
entry_at-e-requires c =
    let h = held c.lent-s.ensures c.requires in
    within h (place_in h c.args.i c.in-Some.k c.in-Some.ensures)
