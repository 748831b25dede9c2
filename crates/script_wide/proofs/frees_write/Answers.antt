use mathlib.Core.Path.{◌∙◌}
use native.Mathlib.Omega.{arith}
use native.Mathlib.Nat.{le_refl}
use Rattle.layout.proofs.RenderWordLaws.{pool_length_lem}
use Rattle.script_table.proofs.TableLaws.{wrote_pass, wrote_then}
use Rattle.script_wide.proofs.GoesLaws.{count_is}
use Rattle.script_wide.proofs.WideLaws.{stays_pass, next_gone}
use Rattle.script_wide.proofs.frees_write.Goals as goal

pub free_write-y-requires-clause-gone_fits : goal.free_write-y-requires-clause-gone_fits
free_write-y-requires-clause-gone_fits c =
    let w = wrote_then (c.loop-q.invariant.3 c.requires.freed_fits.words c.requires.freed_fits.freed) (wrote_pass _ _ _ _ (stays_pass c.requires.freed_fits.freed
    (omega (arith, c.requires.m_le_end.1, count_is c.requires.well_formed, pool_length_lem c.requires.well_formed))
    c.loop-q.invariant.0 c.in-Some.ensures.0 (omega (arith, c.in-Some.ensures.1)) c.in-Some.ensures.3)) in
    record {
      words = c.requires.freed_fits.words;
      gone = next_gone c.requires.freed_fits.freed c.loop-q.invariant.0 c.in-Some.ensures;
      room = omega (arith, w.count, c.requires.freed_fits.room, c.loop-q.invariant.2);
    }

pub loop-q-preserved : goal.loop-q-preserved
loop-q-preserved c = (
  omega (arith, c.loop-q.invariant.0, c.in-Some.ensures.0),
  omega (arith, c.in-Some.ensures.1),
  c.free_write-y.auto.out ∙ c.loop-q.invariant.2,
  λ ws' d. wrote_then
      (wrote_then (c.loop-q.invariant.3 ws' d) (wrote_pass _ _ _ _ (stays_pass d (omega (arith, c.requires.m_le_end.1, count_is c.requires.well_formed, pool_length_lem c.requires.well_formed)) c.loop-q.invariant.0 c.in-Some.ensures.0 (omega (arith, c.in-Some.ensures.1)) c.in-Some.ensures.3)))
      (c.free_write-y.ensures ws' (next_gone d c.loop-q.invariant.0 c.in-Some.ensures)),
)

pub returns : goal.returns
returns c =
    λ ws' d. wrote_then (c.loop-q.invariant.3 ws' d) (wrote_pass _ _ _ _
    (stays_pass d (omega (arith, c.requires.m_le_end.1, count_is c.requires.well_formed, pool_length_lem c.requires.well_formed)) c.loop-q.invariant.0 c.loop-q.invariant.1 (le_refl c.args.end) c.in_default.ensures))
