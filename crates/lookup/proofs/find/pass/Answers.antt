-- `pass`: the position after the slot of tier v that p lies in.
use Prim.Native.Nat.{◌+◌, ◌*◌, ◌^◌, ◌<◌, ◌≤◌}
use mathlib.Core.Path.{◌≡◌, refl}
use native.Mathlib.Omega.{arith}
use lib.Pow.{pow_pos}
use Rattle.blocks.specs.Blocks.{block}
use Rattle.tree.specs.Tree.{tier_order, top_tier}
use Rattle.lookup.proofs.StandLaws.{end_fits}
use Rattle.lookup.proofs.find.pass.Goals as goal

sizes : (c : goal.After-pow2-w) → (c.block_of-c.result * c.pow2-w.result ≡ block
    (tier_order c.args.v) c.args.p * 2 ^
    (tier_order c.args.v)) × (c.pow2-w.result ≡ 2 ^ (tier_order c.args.v)) ×
    (block (tier_order c.args.v) c.args.p * 2 ^
    (tier_order c.args.v) + 2 ^ (tier_order c.args.v) ≤ 2 ^ 64) ×
    (0 < 2 ^ (tier_order c.args.v))
sizes c =
    let a = c.args in
    let h : a.v < top_tier = c.requires in (
      rw (c.block_of-c.ensures, c.pow2-w.ensures) refl,
      c.pow2-w.ensures,
      end_fits (tier_order a.v) a.p (omega arith) c.ranges.p.fits,
      pow_pos (tier_order a.v),
    )

pub overflow_add-c : goal.overflow_add-c
overflow_add-c c =
    let (a, b, d, e) = sizes c in omega arith
