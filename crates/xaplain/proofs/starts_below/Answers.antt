use lib.Dec.{ltb}
use Rattle.std.proofs.Common.{rules, of_calls}
use Rattle.std.proofs.lemmas.Fn.{always_returns_same}
use Rattle.xaplain.proofs.SearchLaws.{parts, below}
use Rattle.xaplain.proofs.starts_below.Goals as goal

pub returns : goal.returns
returns c =
    let xs = c.args.index.now in let n = c.args.n in let i = c.args.i in
    parts xs n c.requires.n_in_bounds i c.partition_point.result c.partition_point.ensures.bound
    (c.partition_point.ensures.partitioned (λ y. ltb y i) (always_returns_same _ _ _ (λ a r f k. search (rules, of_calls)))
    (below xs n c.requires.n_in_bounds i c.requires.rising))
