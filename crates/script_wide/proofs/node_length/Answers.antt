use native.Mathlib.Omega.{arith}
use Rattle.layout.proofs.RenderWordLaws.{pool_length_lem}
use Rattle.script_table.proofs.TableLaws.{row_none, row_some}
use Rattle.script_wide.proofs.GoesLaws.{count_is}
use Rattle.script_wide.proofs.WideLaws.{node_counted, wide_one, wide_row}
use Rattle.script_wide.proofs.node_length.Goals as goal

pub returns-in-None-clause-by_index : goal.returns-in-None-clause-by_index
returns-in-None-clause-by_index c =
    λ ws' W. c.frees_length.ensures.by_index ws' (wide_one W c.requires.m_bound.0 (row_none _ _ (omega arith) c.in-None.ensures))

pub overflow_mul-m : goal.overflow_mul-m
overflow_mul-m c = omega (arith, c.requires.m_bound.0, count_is c.requires.well_formed, c.requires.well_formed.most)

pub overflow_add-m-in-Some : goal.overflow_add-m-in-Some
overflow_add-m-in-Some c = omega (arith, c.requires.m_bound.0, count_is c.requires.well_formed, c.requires.well_formed.most)

pub span_length-requires : goal.span_length-requires
span_length-requires c =
    let f = row_some c.args.nums.now c.args.m c.in-Some.r (omega arith) c.in-Some.ensures in (
      omega (arith, c.requires.m_bound.0, count_is c.requires.well_formed, pool_length_lem c.requires.well_formed),
      omega (arith, f.0),
      omega arith,
      omega (arith, c.requires.m_bound.0, c.requires.m_bound.1, count_is c.requires.well_formed, c.requires.well_formed.most),
    )

pub returns-in-Some-clause-by_index : goal.returns-in-Some-clause-by_index
returns-in-Some-clause-by_index c =
    λ ws' W. let f = row_some c.args.nums.now c.args.m c.in-Some.r (omega arith) c.in-Some.ensures in
    node_counted c.args.m (c.span_length.ensures.by_index ws' (wide_row W c.requires.m_bound.0 f.0 f.1))
