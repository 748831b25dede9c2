use Rattle.tree.proofs.ReadLaws.{over_none}
use Rattle.lookup.proofs.HeadLaws.{at_head, at_spot}
use Rattle.prepare.proofs.PrepareLaws.{uncovered}
use Rattle.prepare.proofs.store_taken.Goals as goal

pub prepare_new-requires-clause-list_value : goal.prepare_new-requires-clause-list_value
prepare_new-requires-clause-list_value c =
    λ s. over_none s.list _ _ (uncovered (c.locate-k.ensures s) c.in-Apart.is)

pub store_over-requires-clause-index_value : goal.store_over-requires-clause-index_value
store_over-requires-clause-index_value c =
    λ s. let (h, q) = at_head _ (c.locate-k.ensures s) c.in-AtHead.is in (q, h)

pub store_over-requires-in-InNode-clause-index_value : goal.store_over-requires-in-InNode-clause-index_value
store_over-requires-in-InNode-clause-index_value c =
    λ s. let (q, h, y, le, d) = at_spot _ _ _ (c.locate-k.ensures s) c.in-InNode.is in (q, y)
