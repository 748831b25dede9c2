-- `word`: four bytes as one number, the first lowest.
use Rattle.std.proofs.Common.{◌∙◌}
use Rattle.crc32c.proofs.WordLaws.{word_four}
use Rattle.crc32c.proofs.word.Goals as goal

pub returns : goal.returns
returns c = c.from_le_bytes.ensures ∙ word_four c.args.s.now c.args.at (λ i. (c.type_inv.s i).fits)
