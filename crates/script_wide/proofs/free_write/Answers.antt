use native.Mathlib.Omega.{arith}
use Rattle.layout.proofs.RenderWordLaws.{pool_length_lem}
use Rattle.script_wide.proofs.GoesLaws.{count_is}
use Rattle.script_wide.proofs.WideLaws.{node_wrote, zeros_agree}
use Rattle.script_wide.proofs.free_write.Goals as goal

pub span_write-requires : goal.span_write-requires
span_write-requires c =
    record {
      in_pool = omega (arith, c.requires.m_bound, count_is c.requires.well_formed, pool_length_lem c.requires.well_formed);
      in_rows = omega arith;
      words = c.requires.gone_fits.words;
      agrees = zeros_agree c.requires.gone_fits.gone;
      room = c.requires.gone_fits.room;
    }

pub returns : goal.returns
returns c =
    λ ws' g. node_wrote c.args.m (c.span_write.ensures ws'
    (zeros_agree g))
