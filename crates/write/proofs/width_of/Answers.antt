-- `width_of`: how many slots an entry takes.
use mathlib.Core.Path.{refl}
use Rattle.write.proofs.RunLaws.{width_some, width_small}
use Rattle.write.proofs.width_of.Goals as goal

pub returns : goal.returns
returns c =
    rw c.pow2.ensures (refl, width_some 0 c.args.order, width_small 0 c.args.order)
