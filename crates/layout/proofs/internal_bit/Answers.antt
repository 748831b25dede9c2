-- `internal_bit`: odd for the word of a sibling slot or of a node.
use Rattle.blocks.proofs.TwoWordLaws.{not_inner, inner_not}
use Rattle.blocks.proofs.BoolLaws.{decide_eqb}
use Rattle.layout.proofs.internal_bit.Goals as goal

pub returns : goal.returns
returns c =
    decide_eqb _ 0 (not_inner c.args.w c.ranges.w.fits) (inner_not c.args.w c.ranges.w.fits)
