-- `next_bit`: the least bit from o on that is set.
use Rattle.std.proofs.Common.{arith}
use Rattle.blocks.proofs.NextBitLaws.{next_none, next_at_lem}
use Rattle.words.proofs.next_bit.Goals as goal

pub returns-then-o-t : goal.returns-then-o-t
returns-then-o-t c = next_none _ _ _ _ c.requires c.from-t.ensures c.if-o-t.true

pub returns : goal.returns
returns c = next_at_lem _ _ _ _ c.requires c.from-t.ensures (omega arith)
