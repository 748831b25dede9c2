-- `set_bit`: one bit of one word.
use Rattle.freemap.proofs.FlipLaws.{set_flips}
use Rattle.freemap.proofs.set_bit.Goals as goal

pub returns : goal.returns
returns c = rw c.with_bit.ensures (set_flips _ _ c.requires.0 c.args.on)
