use Rattle.answers.proofs.ReportLaws.{of_refused}
use Rattle.std.proofs.Common.{refl}
use native.Mathlib.Omega.{arith}
use Rattle.answers.specs.Answers.{absent, bad_mark}
use Rattle.lookup.proofs.HeadLaws.{at_head, at_spot}
use Rattle.prepare.proofs.PrepareLaws.{gives_refused, remark_refused, remark_none, none_at, uncovered}
use Rattle.prepare.proofs.prepare_remark.Goals as goal

pub returns-then-m-ge-MARKS-clause-fact : goal.returns-then-m-ge-MARKS-clause-fact
returns-then-m-ge-MARKS-clause-fact c =
    λ s. (gives_refused bad_mark (of_refused _ c.from.ensures refl)
    (remark_refused s c.args.out.now c.args.i c.args.m c.args.on (omega arith))).result_is

pub returns-then-m-ge-MARKS-clause-fact_2 : goal.returns-then-m-ge-MARKS-clause-fact_2
returns-then-m-ge-MARKS-clause-fact_2 c =
    λ s. (gives_refused bad_mark (of_refused _ c.from.ensures refl)
    (remark_refused s c.args.out.now c.args.i c.args.m c.args.on (omega arith))).slice_is

pub remark_entry-requires-clause-i_value : goal.remark_entry-requires-clause-i_value
remark_entry-requires-clause-i_value c =
    λ s. let (h, q) = at_head _
    (c.locate-k.ensures s) c.in-AtHead.is in (q, h)

pub remark_entry-requires-in-InNode-clause-i_value : goal.remark_entry-requires-in-InNode-clause-i_value
remark_entry-requires-in-InNode-clause-i_value c =
    λ s. let (q, h, y, le, d) = at_spot _ _ _ (c.locate-k.ensures s)
    c.in-InNode.is in (q, y)

pub returns-in-Apart-clause-fact : goal.returns-in-Apart-clause-fact
returns-in-Apart-clause-fact c =
    λ s. let q = uncovered (c.locate-k.ensures s) c.in-Apart.is in
    (gives_refused absent (of_refused _ c.from-in-Apart.ensures refl) (remark_none s c.args.out.now c.args.i c.args.m c.args.on
    (omega arith) (none_at s.list c.args.i q))).result_is

pub returns-in-Apart-clause-fact_2 : goal.returns-in-Apart-clause-fact_2
returns-in-Apart-clause-fact_2 c =
    λ s. let q = uncovered (c.locate-k.ensures s) c.in-Apart.is in
    (gives_refused absent (of_refused _ c.from-in-Apart.ensures refl) (remark_none s c.args.out.now c.args.i c.args.m c.args.on
    (omega arith) (none_at s.list c.args.i q))).slice_is
