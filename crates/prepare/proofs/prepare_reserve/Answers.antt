use Rattle.answers.proofs.ReportLaws.{of_refused}
use Rattle.std.proofs.Common.{refl}
use Rattle.answers.specs.Answers.{is_covered}
use Rattle.prepare.proofs.PrepareLaws.{gives_refused, uncovered, covered}
use Rattle.prepare.proofs.StoreLaws.{reserve_refused}
use Rattle.prepare.proofs.prepare_reserve.Goals as goal

pub reserve_free-requires-clause-i_value : goal.reserve_free-requires-clause-i_value
reserve_free-requires-clause-i_value c = λ s. uncovered (c.locate-k.ensures s) c.in-Apart.is

pub returns-in-AtHead-clause-fact : goal.returns-in-AtHead-clause-fact
returns-in-AtHead-clause-fact c =
    λ s. (gives_refused is_covered (of_refused _ c.from.ensures refl) (reserve_refused s c.args.out.now c.args.i (covered (c.locate-k.ensures s) c.in-AtHead.is).1)).result_is

pub returns-in-AtHead-clause-fact_2 : goal.returns-in-AtHead-clause-fact_2
returns-in-AtHead-clause-fact_2 c =
    λ s. (gives_refused is_covered (of_refused _ c.from.ensures refl) (reserve_refused s c.args.out.now c.args.i (covered (c.locate-k.ensures s) c.in-AtHead.is).1)).slice_is
