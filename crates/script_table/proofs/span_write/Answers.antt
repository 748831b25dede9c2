use Prim.Native.Nat.{◌+◌}
use mathlib.Core.Path.{◌∙◌}
use native.Mathlib.Omega.{arith}
use lib.ListN.{length, get_or}
use Rattle.script_table.proofs.TableLaws.{write_room, wrote_step}
use Rattle.script_table.proofs.span_write.Goals as goal

pub emit-y-requires : goal.emit-y-requires
emit-y-requires c =
    λ n. write_room c.args.pool.now c.requires.words (length c.args.pool.now) (c.args.p + c.loop-j.j) c.loop-j.y (length c.loop-j.out) (get_or c.args.rows.now (c.args.q + c.loop-j.j) 0)
    (omega (arith, c.requires.in_pool)) (omega (arith, (c.loop-j.invariant.1 c.requires.words c.requires.agrees).count, c.requires.room, c.loop-j.invariant.0)) (c.requires.agrees.words c.loop-j.j (omega arith)) n

pub loop-j-preserved : goal.loop-j-preserved
loop-j-preserved c = (
  c.emit-y.auto.out ∙ c.loop-j.invariant.0,
  λ ws' g.
      wrote_step (c.loop-j.invariant.1 ws' g) (get_or c.args.rows.now (c.args.q + c.loop-j.j) 0) c.emit-y.result (c.args.p + (c.loop-j.j + 1))
      c.emit-y.new.out (omega (arith, c.requires.in_pool)) (g.words c.loop-j.j (omega arith)) c.emit-y.ensures.value
      c.emit-y.ensures.out_after (omega arith),
)
