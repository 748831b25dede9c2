use native.Mathlib.Omega.{arith}
use Rattle.layout.proofs.RenderWordLaws.{pool_length_lem}
use Rattle.script_table.proofs.TableLaws.{row_none, row_some}
use Rattle.script_wide.proofs.GoesLaws.{count_is}
use Rattle.script_wide.proofs.WideLaws.{node_wrote, wide_one, wide_row}
use Rattle.script_wide.proofs.node_write.Goals as goal

pub frees_write-requires-clause-freed_fits : goal.frees_write-requires-clause-freed_fits
frees_write-requires-clause-freed_fits c =
    record {
      words = c.requires.node_fits.words;
      freed = wide_one c.requires.node_fits.wide c.requires.m_bound (row_none _ _ (omega arith) c.in-None.ensures);
      room = c.requires.node_fits.room;
    }

pub returns-in-None : goal.returns-in-None
returns-in-None c =
    λ ws' W. c.frees_write.ensures ws' (wide_one W c.requires.m_bound (row_none _ _ (omega arith) c.in-None.ensures))

pub overflow_mul-m : goal.overflow_mul-m
overflow_mul-m c = omega (arith, c.requires.m_bound, count_is c.requires.well_formed, c.requires.well_formed.most)

pub overflow_add-m-in-Some : goal.overflow_add-m-in-Some
overflow_add-m-in-Some c = omega (arith, c.requires.m_bound, count_is c.requires.well_formed, c.requires.well_formed.most)

pub span_write-requires : goal.span_write-requires
span_write-requires c =
    let f = row_some c.args.nums.now c.args.m c.in-Some.r (omega arith) c.in-Some.ensures in
    record {
      in_pool = omega (arith, c.requires.m_bound, count_is c.requires.well_formed, pool_length_lem c.requires.well_formed);
      in_rows = omega (arith, f.0);
      words = c.requires.node_fits.words;
      agrees = wide_row c.requires.node_fits.wide c.requires.m_bound f.0 f.1;
      room = c.requires.node_fits.room;
    }

pub returns-in-Some : goal.returns-in-Some
returns-in-Some c =
    λ ws' W. let f = row_some c.args.nums.now c.args.m c.in-Some.r (omega arith) c.in-Some.ensures in
    node_wrote c.args.m (c.span_write.ensures ws' (wide_row W c.requires.m_bound f.0 f.1))
