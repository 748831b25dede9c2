use native.Mathlib.Omega.{arith}
use native.Mathlib.Nat.{le_refl}
use Rattle.layout.proofs.RenderWordLaws.{pool_length_lem}
use Rattle.script_wide.proofs.GoesLaws.{count_is}
use Rattle.script_wide.proofs.WideLaws.{counted_then, counted_pass, stays_pass, next_gone}
use Rattle.script_wide.proofs.frees_length.Goals as goal

pub loop-q-preserved : goal.loop-q-preserved
loop-q-preserved c = (
  omega (arith, c.loop-q.invariant.0, c.in-Some.ensures.0),
  omega (arith, c.in-Some.ensures.1),
  omega (arith, c.loop-q.invariant.2, c.in-Some.ensures.0, c.free_length-y.ensures.upper_bound),
  λ ws' d. counted_then
      (counted_then (c.loop-q.invariant.3 ws' d) (counted_pass _ _ _ (stays_pass d (omega (arith, c.requires.m_le_end.1, count_is c.requires.well_formed, pool_length_lem c.requires.well_formed)) c.loop-q.invariant.0 c.in-Some.ensures.0 (omega (arith, c.in-Some.ensures.1)) c.in-Some.ensures.3)))
      (c.free_length-y.ensures.by_index ws' (next_gone d c.loop-q.invariant.0 c.in-Some.ensures)),
)

pub returns-clause-by_index : goal.returns-clause-by_index
returns-clause-by_index c =
    λ ws' d. counted_then (c.loop-q.invariant.3 ws' d) (counted_pass _ _ _ (stays_pass d (omega (arith, c.requires.m_le_end.1, count_is c.requires.well_formed, pool_length_lem c.requires.well_formed)) c.loop-q.invariant.0
    c.loop-q.invariant.1 (le_refl c.args.end) c.in_default.ensures))
