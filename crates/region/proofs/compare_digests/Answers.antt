-- `compare_digests`: the comparison with the digests of both regions.
use mathlib.Core.Path.{◌≡◌, sym, ap, ◌∙◌}
use Rattle.std.proofs.Common.{rules}
use Rattle.crc32c.specs.Crc.{crc32c}
use Rattle.region.specs.Region.{Matched}
use Rattle.region.proofs.RegionLaws.{matched_same, compared_is}
use Rattle.region.proofs.compare_digests.Goals as goal

pub returns-then-eq : goal.returns-then-eq
returns-then-eq c =
    let old = c.args.old.now in
    let new = c.args.new.now in
    let m : c.compare-verdict.result ≡ Matched = search rules in
    compared_is old new c.compare-verdict.ensures c.crc32c-old_crc.ensures
    (c.crc32c-old_crc.ensures ∙ ap (crc32c 0) (matched_same old new (sym c.compare-verdict.ensures ∙ m)))
