use native.Mathlib.Omega.{arith}
use Rattle.layout.proofs.RenderWordLaws.{pool_length_lem}
use Rattle.script_wide.proofs.GoesLaws.{count_is}
use Rattle.script_wide.proofs.WideLaws.{node_counted, zeros_agree}
use Rattle.script_wide.proofs.free_length.Goals as goal

pub span_length-requires : goal.span_length-requires
span_length-requires c =
    (omega (arith, c.requires.m_bound.0, count_is c.requires.well_formed, pool_length_lem c.requires.well_formed), omega arith, omega arith, c.requires.m_bound.1)

pub returns-clause-by_index : goal.returns-clause-by_index
returns-clause-by_index c =
    λ ws' g. node_counted c.args.m (c.span_length.ensures.by_index ws' (zeros_agree g))
