use Rattle.answers.proofs.ReportLaws.{of_refused}
use Rattle.std.proofs.Common.{refl}
use Rattle.answers.specs.Answers.{absent}
use Rattle.lookup.proofs.HeadLaws.{at_head, at_spot}
use Rattle.prepare.proofs.PrepareLaws.{gives_refused, uncovered}
use Rattle.prepare.proofs.EraseLaws.{erase_refused}
use Rattle.prepare.proofs.prepare_erase.Goals as goal

pub erase_entry-requires-clause-i_value : goal.erase_entry-requires-clause-i_value
erase_entry-requires-clause-i_value c =
    λ s. let (h, q) = at_head _ (c.locate-k.ensures s) c.in-AtHead.is in (q, h)

pub erase_entry-requires-in-InNode-clause-i_value : goal.erase_entry-requires-in-InNode-clause-i_value
erase_entry-requires-in-InNode-clause-i_value c =
    λ s. let (q, h, y, le, d) = at_spot _ _ _ (c.locate-k.ensures s) c.in-InNode.is in (q, y)

pub returns-in-Apart-clause-fact : goal.returns-in-Apart-clause-fact
returns-in-Apart-clause-fact c =
    λ s. let q = uncovered (c.locate-k.ensures s) c.in-Apart.is in
    (gives_refused absent (of_refused _ c.from.ensures refl) (erase_refused s c.args.out.now c.args.i q)).result_is

pub returns-in-Apart-clause-fact_2 : goal.returns-in-Apart-clause-fact_2
returns-in-Apart-clause-fact_2 c =
    λ s. let q = uncovered (c.locate-k.ensures s) c.in-Apart.is in
    (gives_refused absent (of_refused _ c.from.ensures refl) (erase_refused s c.args.out.now c.args.i q)).slice_is
