use Prim.Native.Nat.{ℕ, ◌+◌}
use mathlib.Core.Path.{◌≡◌, sym, ap, ◌∙◌}
use native.Mathlib.Omega.{arith}
use lib.ListN.{length, get_or}
use Rattle.script_table.proofs.TableLaws.{after, count_step}
use Rattle.script_table.proofs.span_length.Goals as goal

pub loop-t-preserved : goal.loop-t-preserved
loop-t-preserved c = (
  omega (arith, c.counted-y.ensures.1),
  λ ws' g. let z : c.args.p + c.loop-t.t + 1 ≡ c.args.p + (c.loop-t.t + 1) = omega arith in
      ap (λ (x : ℕ). c.counted-y.result + length (after c.args.pool.now ws' (length c.args.pool.now) x)) (sym z)
      ∙ count_step c.args.pool.now ws' (length c.args.pool.now) (c.args.p + c.loop-t.t) c.loop-t.y _ c.counted-y.result (get_or c.args.rows.now (c.args.q + c.loop-t.t) 0)
      (omega arith) (c.loop-t.invariant.1 ws' g) (g.words c.loop-t.t (omega arith)) c.counted-y.ensures.0,
)
