-- `leads_to`: whether w is the word of node n.
use mathlib.Core.Path.{sym, ◌∙◌}
use Rattle.layout.specs.declared.Slot.TheVariants.{Child}
use Rattle.blocks.proofs.BoolLaws.{decide_eqb}
use Rattle.layout.proofs.SaysLaws.{said, word_of_lem}
use Rattle.scan.proofs.leads_to.Goals as goal

pub returns : goal.returns
returns c =
    decide_eqb _ _ (λ e. said _ (Child _) (e ∙ c.node_word.ensures))
    (λ h. word_of_lem _ (Child _) h ∙ sym c.node_word.ensures)
