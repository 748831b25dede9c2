-- Whether a new region holds what the old one held, and the number of that for a host (R165 to R169). Assumes nothing: these are definitions.
use Rattle.std.specs.Prelude.{Bool, List, ℕ, eqb, length}
use Rattle.blocks.specs.Choice.{pick, either}
use Rattle.blocks.specs.Lists.{equal}
use Rattle.crc32c.specs.Crc.{crc32c}
pub use Rattle.region.specs.declared.Matching.{Matching}
pub use Rattle.region.specs.declared.Matching.TheVariants.{Nothing, Matched, Different}
pub use Rattle.region.specs.declared.Compared.{Compared}

-- R165: a region without a byte, old or new, leaves nothing to compare
abbrev pub any_empty : (old new : List ℕ) → Bool
any_empty old new = either (eqb (length old) 0) (eqb (length new) 0)

-- R165 to R167
unfoldable pub compare : (old new : List ℕ) → Matching
compare old new = pick (any_empty old new) Nothing (pick (equal old new) Matched Different)

-- R168: 0 is no match: it is what memory holds that nobody wrote
abbrev pub number : Matching → ℕ
number Nothing = 0
number Matched = 1
number Different = 2

-- R169: the comparison with both digests
abbrev pub compared : (old new : List ℕ) → Compared
compared old new = record { verdict = compare old new; old_crc = crc32c 0 old; new_crc = crc32c 0 new }
