-- `init`: four slices of one length become those of the empty list.
use mathlib.Core.Path.{sym, ap, ◌∙◌}
use Rattle.xaplain.specs.Slices.{is_sized}
use Rattle.xaplain.proofs.LentLaws.{same}
use Rattle.xaplain.proofs.KeepLaws.{init_slices_lem}
use Rattle.xaplain.proofs.EntriesMut.init.Goals as goal

pub returns-clause-marks_after : goal.returns-clause-marks_after
returns-clause-marks_after c =
    init_slices_lem _ _ _ _ (sym (ap is_sized (same c.lent.ensures)) ∙ sym c.is_sized.ensures ∙ c.if-not-is_sized.false) (c.fill.ensures.after (λ y e. e)) (c.fill-2.ensures.after (λ y e. e))
    (c.fill-3.ensures.after (λ y e. e)) (c.fill-4.ensures.after (λ y e. e))
