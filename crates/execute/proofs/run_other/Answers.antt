-- `run_other`: any command but a store and a reservation.
use Rattle.execute.proofs.ReplyLaws.{by_command, leaves_words}
use Rattle.execute.proofs.ExecuteLaws.{load_list, find_list}
use Rattle.execute.proofs.run_other.Goals as goal

pub returns-in-Load-clause-executes : goal.returns-in-Load-clause-executes
returns-in-Load-clause-executes c =
    (λ s. by_command s c.in-Load.is
    (leaves_words s _ (load_list s.n s.list _) (c.run_load.ensures s)))

pub returns-in-Erase-clause-executes : goal.returns-in-Erase-clause-executes
returns-in-Erase-clause-executes c =
    (λ s. by_command s c.in-Erase.is (c.run_erase.ensures.executes s))

pub returns-in-Mark-clause-executes : goal.returns-in-Mark-clause-executes
returns-in-Mark-clause-executes c =
    (λ s. by_command s c.in-Mark.is (c.run_remark.ensures.executes s))

pub returns-in-Unmark-clause-executes : goal.returns-in-Unmark-clause-executes
returns-in-Unmark-clause-executes c =
    (λ s. by_command s c.in-Unmark.is (c.run_remark-in-Unmark.ensures.executes s))

pub returns-in-Find-clause-executes : goal.returns-in-Find-clause-executes
returns-in-Find-clause-executes c =
    (λ s. by_command s c.in-Find.is
    (leaves_words s _ (find_list s.n s.list _ _ _ _) (c.run_find.ensures s)))
