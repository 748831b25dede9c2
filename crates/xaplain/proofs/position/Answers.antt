use lib.Dec.{leb}
use Rattle.std.proofs.Common.{rules, of_calls}
use Rattle.std.proofs.lemmas.Fn.{always_returns_same}
use Rattle.xaplain.proofs.SearchLaws.{splits, at_most}
use Rattle.xaplain.proofs.position.Goals as goal

pub returns : goal.returns
returns c =
    let xs = c.args.index.now in let n = c.args.n in let i = c.args.i in
    splits xs n c.requires.n_in_bounds i c.partition_point.result c.partition_point.ensures.bound
    (c.partition_point.ensures.partitioned (λ y. leb y i) (always_returns_same _ _ _ (λ a r f k. search (rules, of_calls)))
    (at_most xs n c.requires.n_in_bounds i c.requires.rising))
