use native.Mathlib.Omega.{arith}
use Rattle.std.proofs.Common.{below_more}
use Rattle.freenodes.proofs.BuildLaws.{build_start, build_step}
use Rattle.scan.proofs.nodes_ok.Goals as goal

pub loop-n-init : goal.loop-n-init
loop-n-init c = (
  (λ k a. absurd (omega arith)),
  build_start c.args.pool.now c.args.map.now c.requires.fact_2,
)

pub loop-n-preserved : goal.loop-n-preserved
loop-n-preserved c = (
  below_more _ _ c.loop-n.invariant.0 (c.node_ok.ensures.0 c.if-not-node_ok.false),
  build_step c.args.pool.now c.loop-n.n c.shift_of.result c.shift_of.ensures
      c.enter.ensures c.loop-n.invariant.1,
)
