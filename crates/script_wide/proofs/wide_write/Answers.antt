use mathlib.Core.Path.{refl, ap, ◌∙◌}
use native.Mathlib.Omega.{arith}
use native.Mathlib.Nat.{le_refl}
use lib.ListN.{length}
use Rattle.layout.proofs.RenderWordLaws.{pool_length_lem}
use Rattle.script_table.proofs.LaidLaws.{script_start}
use Rattle.script_table.proofs.TableLaws.{wrote_then, wrote_all, NoneBelow, some_below, none_below}
use Rattle.script_wide.proofs.GoesLaws.{count_is}
use Rattle.script_wide.proofs.WideLaws.{anchor_wrote, wide_anchor, wide_next}
use Rattle.script_wide.proofs.wide_write.Goals as goal

pub frees_write-t-requires-clause-m_le_end : goal.frees_write-t-requires-clause-m_le_end
frees_write-t-requires-clause-m_le_end c =
    let b : NoneBelow c.args.nums.now c.loop-q.m c.in-Some.q = some_below (omega arith) c.in-Some.ensures in
    (b.least, omega (arith, c.in-Some.ensures.1, c.requires.n_value), c.requires.row_count_in_bounds.2)

pub frees_write-t-requires-clause-freed_fits : goal.frees_write-t-requires-clause-freed_fits
frees_write-t-requires-clause-freed_fits c =
    let b : NoneBelow c.args.nums.now c.loop-q.m c.in-Some.q = some_below (omega arith) c.in-Some.ensures in
    let W = c.requires.wide_fits.wide in
    let w = wrote_then (anchor_wrote (c.span_write-t.ensures c.requires.wide_fits.words (wide_anchor W)))
    (c.loop-q.invariant.2 c.requires.wide_fits.words W) in
    record {
      words = c.requires.wide_fits.words;
      freed = wide_next W c.requires.n_value (omega (arith, c.in-Some.ensures.1)) b;
      room = omega (
        arith,
        w.count,
        c.requires.wide_fits.room,
        c.loop-q.invariant.1,
        c.span_write-t.auto.out,
        ap length (script_start c.args.pool.now c.requires.wide_fits.words (length c.args.pool.now) refl),
      );
    }

pub node_write-t-requires-clause-node_fits : goal.node_write-t-requires-clause-node_fits
node_write-t-requires-clause-node_fits c =
    let b : NoneBelow c.args.nums.now c.loop-q.m c.in-Some.q = some_below (omega arith) c.in-Some.ensures in
    let W = c.requires.wide_fits.wide in
    let w = wrote_then (wrote_then (anchor_wrote (c.span_write-t.ensures c.requires.wide_fits.words (wide_anchor W)))
    (c.loop-q.invariant.2 c.requires.wide_fits.words W))
    (c.frees_write-t.ensures c.requires.wide_fits.words (wide_next W c.requires.n_value (omega (arith, c.in-Some.ensures.1)) b)) in
    record {
      words = c.requires.wide_fits.words;
      wide = W;
      room = omega (
        arith,
        w.count,
        c.requires.wide_fits.room,
        c.loop-q.invariant.1,
        c.span_write-t.auto.out,
        c.frees_write-t.auto.out,
        ap length (script_start c.args.pool.now c.requires.wide_fits.words (length c.args.pool.now) refl),
      );
    }

pub loop-q-preserved : goal.loop-q-preserved
loop-q-preserved c =
    let b : NoneBelow c.args.nums.now c.loop-q.m c.in-Some.q = some_below (omega arith) c.in-Some.ensures in (
      omega (arith, c.in-Some.ensures.1),
      c.node_write-t.auto.out ∙ (c.frees_write-t.auto.out ∙ c.loop-q.invariant.1),
      λ ws' W. wrote_then (wrote_then (c.loop-q.invariant.2 ws' W) (c.frees_write-t.ensures ws' (wide_next W
          c.requires.n_value (omega (arith, c.in-Some.ensures.1)) b)))
          (c.node_write-t.ensures ws' W),
    )

pub frees_write-requires-clause-freed_fits : goal.frees_write-requires-clause-freed_fits
frees_write-requires-clause-freed_fits c =
    let W = c.requires.wide_fits.wide in
    let w = wrote_then (anchor_wrote (c.span_write-t.ensures c.requires.wide_fits.words (wide_anchor W)))
    (c.loop-q.invariant.2 c.requires.wide_fits.words W) in
    record {
      words = c.requires.wide_fits.words;
      freed = wide_next W c.requires.n_value (le_refl c.args.n)
          (none_below (omega arith) c.loop-q.invariant.0 c.in_default.ensures);
      room = omega (
        arith,
        w.count,
        c.requires.wide_fits.room,
        c.loop-q.invariant.1,
        c.span_write-t.auto.out,
        ap length (script_start c.args.pool.now c.requires.wide_fits.words (length c.args.pool.now) refl),
      );
    }

pub returns : goal.returns
returns c =
    λ ws' w. wrote_all (wrote_then (wrote_then (anchor_wrote (c.span_write-t.ensures ws' (wide_anchor w))) (c.loop-q.invariant.2 ws' w))
    (c.frees_write.ensures ws' (wide_next w c.requires.n_value (le_refl c.args.n)
    (none_below (omega arith) c.loop-q.invariant.0 c.in_default.ensures))))
    (omega (arith, c.requires.n_value, count_is c.requires.well_formed, pool_length_lem c.requires.well_formed))
