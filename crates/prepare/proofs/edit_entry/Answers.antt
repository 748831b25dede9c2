-- `edit_entry`: the script of another entry in the place of one.
use mathlib.Core.Path.{refl}
use Rattle.layout.specs.Places.{render}
use Rattle.prepare.specs.Entries.{edited}
use Rattle.prepare.proofs.AfterLaws.{there_at}
use Rattle.prepare.proofs.edit_entry.Goals as goal

pub entry_script-requires-clause-entry_there : goal.entry_script-requires-clause-entry_there
entry_script-requires-clause-entry_there c =
    λ s. there_at s _ refl (c.requires.entry_there s)

pub entry_script-requires-clause-after_there : goal.entry_script-requires-clause-after_there
entry_script-requires-clause-after_there c =
    record {
      formed = c.requires.edited.formed;
      words = render c.requires.edited.list c.requires.edited.formed.places c.requires.edited.formed.n;
      after = edited _ c.requires.edited.option c.requires.edited.list c.requires.edited.stays;
    }

pub returns-clause-fact : goal.returns-clause-fact
returns-clause-fact c =
    λ s o l st. c.entry_script.ensures.fact s (render l s.places s.n) (edited _ o l st)

pub returns-clause-fact_2 : goal.returns-clause-fact_2
returns-clause-fact_2 c =
    λ s o l st. c.entry_script.ensures.fact_2 s (render l s.places s.n) (edited _ o l st)
