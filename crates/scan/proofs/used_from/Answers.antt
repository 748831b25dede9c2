-- `used_from`: whether a slot from the given one on is in use.
use Rattle.scan.proofs.PlainLaws.{used_decides}
use Rattle.scan.proofs.used_from.Goals as goal

pub returns : goal.returns
returns c =
    used_decides c.args.pool.now c.args.n _ c.args.from c.blank_slots.ensures
