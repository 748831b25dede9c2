-- `after_rows`: the rows after an entry becomes another, or is erased.
use Rattle.prepare.proofs.AfterLaws.{after_erased, after_edited}
use Rattle.prepare.proofs.after_rows.Goals as goal

pub returns-in-None : goal.returns-in-None
returns-in-None c =
    λ s ws' a.
    after_erased s c.in-None.is
    (λ l x v. c.erased_rows.ensures s l x v) a

pub returns-in-Some : goal.returns-in-Some
returns-in-Some c =
    λ s ws' a.
    after_edited s c.in-Some.is
    (λ o l x. c.entry_rows.ensures s o l x) a
