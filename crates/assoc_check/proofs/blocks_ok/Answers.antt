use mathlib.Core.Path.{◌≡◌}
use native.Mathlib.Omega.{arith}
use Rattle.assoc_keys.proofs.NumberLaws.{yes! }
use Rattle.assoc_local.specs.Local.{BlockOk}
use Rattle.assoc_check.proofs.PassLaws.{below_next, named_start, named_next, build_start, build_step}
use Rattle.assoc_check.proofs.blocks_ok.Goals as goal

pub loop-m-init : goal.loop-m-init
loop-m-init c =
    ((λ k a. absurd (omega arith)), named_start c.args.pool.now c.args.n c.requires.set_of.0, build_start c.args.pool.now c.args.map.now c.requires.set_of.1)

pub note_slots-requires : goal.note_slots-requires
note_slots-requires c = (
  record { size = c.requires.sized.size; few = c.requires.sized.few; there = c.loop-m-test.true },
  record { set = _; is = c.loop-m.invariant.1 },
  c.field-t.ensures,
  c.block_ok.ensures.0 c.if-not-block_ok.false,
)

pub loop-m-preserved : goal.loop-m-preserved
loop-m-preserved c = (
  below_next (BlockOk c.args.pool.now c.args.n) c.loop-m.m c.loop-m.invariant.0 (c.block_ok.ensures.0 c.if-not-block_ok.false),
  named_next c.args.pool.now c.args.n c.loop-m.m (c.note_slots.ensures _ c.loop-m.invariant.1),
  build_step c.args.pool.now c.loop-m.m c.field-t.result c.field-t.ensures c.enter.ensures c.loop-m.invariant.2,
)

pub returns-clause-decides : goal.returns-clause-decides
returns-clause-decides c =
    let e : c.loop-m.m ≡ c.args.n = omega arith in
    yes! (λ k h. c.loop-m.invariant.0 k (omega arith))
