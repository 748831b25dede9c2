-- `lowest`: the lowest bit of w that is set, all others cleared.
use native.Mathlib.Omega.{arith}
use Rattle.scan.proofs.TallyLaws.{lowest_by}
use Rattle.scan.proofs.lowest.Goals as goal

pub returns : goal.returns
returns c =
    lowest_by c.args.w c.wrapping_neg.result c.ranges.w.fits (omega arith) c.wrapping_neg.ensures
