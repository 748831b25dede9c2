-- `check`: the check, with a map of its own.
use Rattle.freemap.proofs.MapLaws.{blank_map_lem}
use Rattle.assoc_check.proofs.check.Goals as goal

pub check_map-requires : goal.check_map-requires
check_map-requires c =
    blank_map_lem
