use Prim.Native.Nat.{◌+◌, ◌*◌, ◌<◌}
use mathlib.Core.Path.{◌≡◌, sym, ◌∙◌}
use native.Mathlib.Omega.{arith}
use mathlib.Core.List.{[]}
use lib.ListN.{length, get_or}
use Rattle.std.proofs.Common.{rules}
use Rattle.script.proofs.ApplyLaws.{pair_in, pair_rest, pair_applied, end_applied, whole, chunk_place, chunk_word}
use Rattle.script.proofs.write_all.Goals as goal

pub bounds-pool-p : goal.bounds-pool-p
bounds-pool-p c =
    let ss = c.args.script.now in
    let i = c.loop-p.p-index in
    let e = c.as_chunks.ensures.front in
    let l = c.as_chunks.ensures.front_len in
    let m = pair_in ss (2 * i) (whole ss _ e l i c.loop-p-test.true) (length c.args.pool.now) c.loop-p.invariant.0 in
    omega (arith, m, chunk_place ss _ e l i c.loop-p-test.true)

pub offset_bounds-pool-p : goal.offset_bounds-pool-p
offset_bounds-pool-p c =
    let ss = c.args.script.now in
    let i = c.loop-p.p-index in
    let e = c.as_chunks.ensures.front in
    let l = c.as_chunks.ensures.front_len in
    let m = pair_in ss (2 * i) (whole ss _ e l i c.loop-p-test.true) (length c.args.pool.now) c.loop-p.invariant.0 in
    let b : get_or (get_or c.as_chunks.result.0.now i []) 0 0 < length c.loop-p.pool = omega (arith, m, chunk_place ss _ e l i c.loop-p-test.true) in
    search rules

pub loop-p-preserved : goal.loop-p-preserved
loop-p-preserved c =
    let ss = c.args.script.now in
    let i = c.loop-p.p-index in
    let e = c.as_chunks.ensures.front in
    let l = c.as_chunks.ensures.front_len in
    let h = whole ss _ e l i c.loop-p-test.true in
    let d : 2 * (i + 1) ≡ 2 * i + 2 = omega arith in (
      rw d (pair_rest ss (2 * i) h (length c.args.pool.now) c.loop-p.invariant.0),
      rw (d, chunk_place ss _ e l i c.loop-p-test.true, chunk_word ss _ e l i c.loop-p-test.true)
          (c.loop-p.invariant.1 ∙ pair_applied ss (2 * i) h c.loop-p.pool),
    )

pub returns : goal.returns
returns c =
    let l = c.as_chunks.ensures.front_len in
    sym (c.loop-p.invariant.1 ∙ end_applied c.loop-p.pool (2 * c.loop-p.p-index) c.args.script.now (omega arith))
