use Rattle.tree.proofs.HeightLaws.{height_most}
use native.Mathlib.Omega.{arith}
use Rattle.prepare.proofs.heads_of.Goals as goal

pub top_of-top-requires-clause-h_le_top_tier : goal.top_of-top-requires-clause-h_le_top_tier
top_of-top-requires-clause-h_le_top_tier c =
    omega (arith, c.height_of-h.ensures c.requires.well_formed, height_most c.requires.well_formed.list)
