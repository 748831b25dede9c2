-- `run_reserve`: a store where nothing covers the index.
use mathlib.Core.Path.{sym, ◌∙◌}
use Rattle.batch.specs.declared.Command.TheVariants.{Reserve}
use Rattle.model.specs.Model.{store, reserved_word}
use Rattle.xaplain.proofs.LentLaws.{held}
use Rattle.xaplain.proofs.StoredLaws.{leaves, turns, reserve_some, reserve_none}
use Rattle.xaplain.proofs.EntriesMut.run_reserve.Goals as goal

pub returns-in-None-clause-executes : goal.returns-in-None-clause-executes
returns-in-None-clause-executes c =
    let i = c.args.i in
    λ h. turns h (Reserve i) 135 i (store h.list i 0 reserved_word)
    (reserve_none h i (sym c.in-None.is ∙ c.covering.ensures (held c.lent.ensures h))) (c.store-s.ensures.stores h) c.stored_turn.ensures

pub returns-in-Some-clause-executes : goal.returns-in-Some-clause-executes
returns-in-Some-clause-executes c =
    let i = c.args.i in
    λ h. leaves h (Reserve i) (reserve_some h i _ (sym c.in-Some.is ∙ c.covering.ensures (held c.lent.ensures h))) c.refused.ensures

pub covering-requires : goal.covering-requires
covering-requires c = held c.lent.ensures c.requires
