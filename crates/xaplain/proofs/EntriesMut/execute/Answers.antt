-- `execute`: one command, by what it is.
use mathlib.Core.Path.{ap, ◌∙◌}
use lib.ListN.{length}
use Rattle.batch.specs.declared.Command.TheVariants.{Load, Find}
use Rattle.xaplain.specs.Engine.{execute}
use Rattle.xaplain.proofs.LentLaws.{held}
use Rattle.xaplain.proofs.CommandLaws.{by_command, reads, load_list, find_list}
use Rattle.xaplain.proofs.EntriesMut.execute.Goals as goal

pub returns-in-Load-clause-executes : goal.returns-in-Load-clause-executes
returns-in-Load-clause-executes c =
    λ h. by_command h c.in-Load.is (reads h _ (load_list _ h.list _) (c.run_load.ensures (held c.lent.ensures h)
    ∙ ap (λ x. (execute (length x) h.list (Load c.in-Load.i)).reply) c.lent.ensures.index_is))

pub returns-in-Find-clause-executes : goal.returns-in-Find-clause-executes
returns-in-Find-clause-executes c =
    λ h. by_command h c.in-Find.is (reads h _ (find_list _ h.list _ _ _ _) (c.run_find.ensures (held c.lent-in-Find.ensures h)
    ∙ ap (λ x. (execute (length x) h.list (Find c.in-Find.first c.in-Find.last c.in-Find.filter c.in-Find.budget)).reply) c.lent-in-Find.ensures.index_is))

pub run_load-requires : goal.run_load-requires
run_load-requires c = held c.lent.ensures c.requires

pub run_find-requires : goal.run_find-requires
run_find-requires c = held c.lent-in-Find.ensures c.requires
