-- `even_part`: 0 only if w is odd or 0.
use Rattle.scan.proofs.TallyLaws.{even_bits}
use Rattle.scan.proofs.even_part.Goals as goal

pub returns : goal.returns
returns c =
    even_bits c.args.w c.ranges.w.fits
