-- `covering`: what covers an index.
use mathlib.Core.Path.{sym, ap, ◌∙◌}
use Rattle.std.specs.Prelude.{Some}
use Rattle.model.specs.Model.{covered}
use Rattle.xaplain.proofs.PlaceLaws.{searchable, entry_is, place_none, place_in, place_some}
use Rattle.xaplain.proofs.Entries.covering.Goals as goal

pub place-requires : goal.place-requires
place-requires c = searchable c.requires

pub returns-in_err-k : goal.returns-in_err-k
returns-in_err-k c = λ h. c.from_residual.ensures ∙ sym (ap covered (place_none h c.args.i c.in_err-k.ensures))

pub returns : goal.returns
returns c =
    λ h. let k = c.in_ok-k.k in
    ap Some (c.entry_at.ensures ∙ entry_is h k (place_in h c.args.i k c.in_ok-k.ensures))
    ∙ sym (ap covered (place_some h c.args.i k c.in_ok-k.ensures))
