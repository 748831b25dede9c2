-- The calls on regions: what a comparison gives a host (R168, R169). The digest's own is `crc32c`.
use Rattle.std.specs.Prelude.{List, ℕ}
use Rattle.crc32c.specs.Crc.{crc32c}
use Rattle.region.specs.Region.{compare, number}
pub use Rattle.xapool.specs.declared.regions.Comparison.{Comparison}

abbrev pub compare_result : (old new : List ℕ) → Comparison
compare_result old new =
    record { verdict = number (compare old new); old_crc = crc32c 0 old; new_crc = crc32c 0 new }
