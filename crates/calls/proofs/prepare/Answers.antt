-- `prepare`: the script of the words that a run of one record would change.
use Rattle.std.proofs.Common.{sym, ◌∙◌, refl, ◌≡◌, inl, inr}
use Rattle.std.proofs.Math.Option.{none}
use Rattle.preparing.specs.Prepare.{the_one}
use Rattle.answers.proofs.ReportLaws.{told, went_on, was_no, of_err, of_refused}
use Rattle.freemap.proofs.MapLaws.{blank_map_lem}
use Rattle.preparing.proofs.OneLaws.{end_none, bad_none}
use Rattle.preparing.proofs.PrepareLaws.{told_unchecked, told_none}
use Rattle.calls.proofs.prepare.Goals as goal

pub check_map-requires : goal.check_map-requires
check_map-requires c =
    blank_map_lem

pub returns-in_err-check_map-clause-value : goal.returns-in_err-check_map-clause-value
returns-in_err-check_map-clause-value c =
    told _ _ c.in_err-check_map.was c.from_residual.ensures.1 c.check_map.ensures.value
    ∙ (told_unchecked _ _ _ refl (was_no c.in_err-check_map.was c.check_map.ensures.value)).0

pub returns-in_err-check_map-clause-script_after : goal.returns-in_err-check_map-clause-script_after
returns-in_err-check_map-clause-script_after c =
    (told_unchecked _ _ _ refl (was_no c.in_err-check_map.was c.check_map.ensures.value)).1

pub returns-in-End-clause-value : goal.returns-in-End-clause-value
returns-in-End-clause-value c =
    let none_is : the_one c.args.bytes.now ≡ none =
    elim c.in-End.is [ inl e ↦ end_none _ (sym e ∙ c.read_at.ensures) | inr e ↦ bad_none _ (sym e ∙ c.read_at.ensures) ] in
    of_refused _ c.from.ensures refl
    ∙ (told_none _ _ _ (sym (went_on c.in_ok-check_map.was c.check_map.ensures.value)) none_is).0

pub returns-in-End-clause-script_after : goal.returns-in-End-clause-script_after
returns-in-End-clause-script_after c =
    let none_is : the_one c.args.bytes.now ≡ none =
    elim c.in-End.is [ inl e ↦ end_none _ (sym e ∙ c.read_at.ensures) | inr e ↦ bad_none _ (sym e ∙ c.read_at.ensures) ] in
    (told_none _ _ _ (sym (went_on c.in_ok-check_map.was c.check_map.ensures.value)) none_is).1
