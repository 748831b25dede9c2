-- `four`: four bytes by look-ups.
use mathlib.Core.Path.{sym, ap₂, ◌∙◌}
use native.Mathlib.Omega.{arith}
use lib.Bits.{bit_xor}
use Rattle.crc32c.proofs.WordLaws.{by_four}
use Rattle.crc32c.proofs.four.Goals as goal

pub returns : goal.returns
returns c =
    let s = c in
    let r = c in
    ap₂ bit_xor (ap₂ bit_xor (ap₂ bit_xor r.part-a.ensures r.part-b.ensures) c.part-c.ensures) c.part-d.ensures
    ∙ sym (by_four s.args.level s.args.x (omega arith))
