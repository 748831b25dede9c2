-- `crc32c`: the digest of a region that goes on from `crc`.
use mathlib.Core.Path.{ap}
use Rattle.crc32c.specs.Crc.{complement, crc32c}
use Rattle.crc32c.proofs.crc32c.Goals as goal

pub returns-then-s-lt-LONG : goal.returns-then-s-lt-LONG
unfolding crc32c
returns-then-s-lt-LONG c =
    ap complement c.by_bytes.ensures

pub returns : goal.returns
unfolding crc32c
returns c =
    ap complement c.by_eights.ensures
