-- `run_erase`: an erase, its reply and the slices.
use mathlib.Core.Path.{refl, ◌∙◌}
use Rattle.xaplain.proofs.LentLaws.{held, within, same_entry}
use Rattle.xaplain.proofs.PlaceLaws.{searchable, place_none, place_in, place_some}
use Rattle.xaplain.proofs.EraseLaws.{erases_none, erases}
use Rattle.xaplain.proofs.EntriesMut.run_erase.Goals as goal

pub place-requires : goal.place-requires
place-requires c = searchable (held c.lent-s.ensures c.requires)

pub returns-in_default-clause-executes : goal.returns-in_default-clause-executes
returns-in_default-clause-executes c = λ h. erases_none h c.args.i (place_none (held c.lent-s.ensures h) c.args.i c.in_default.ensures) c.refused.ensures

pub returns-clause-executes : goal.returns-clause-executes
returns-clause-executes c =
    λ h. let i = c.args.i in let k = c.in-Some.k in
    erases h i k (place_in (held c.lent-s.ensures h) i k c.in-Some.ensures) (place_some (held c.lent-s.ensures h) i k c.in-Some.ensures) (c.entry_at-e.ensures ∙ same_entry c.lent-s.ensures k) c.answered_by.ensures refl
    (c.take_out.ensures.list_after h)

pub entry_at-e-requires : goal.entry_at-e-requires
entry_at-e-requires c =
    let h = held c.lent-s.ensures c.requires in
    within h (place_in h c.args.i c.in-Some.k c.in-Some.ensures)
