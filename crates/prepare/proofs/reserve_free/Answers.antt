use Rattle.tree.proofs.ReadLaws.{over_none}
use Rattle.prepare.proofs.reserve_free.Goals as goal

pub prepare_new-requires-clause-list_value : goal.prepare_new-requires-clause-list_value
prepare_new-requires-clause-list_value c =
    λ s. over_none s.list c.args.i 0 (c.requires.i_value s)
