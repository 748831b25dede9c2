use Prim.Native.Nat.{ℕ, ◌+◌}
use mathlib.Core.Path.{refl, ap, ◌∙◌}
use mathlib.Core.List.{List}
use native.Mathlib.Omega.{arith}
use native.Mathlib.Nat.{le_refl}
use lib.ListN.{length}
use Rattle.layout.specs.Words.{pool_words}
use Rattle.script_table.proofs.LaidLaws.{script_start}
use Rattle.script_table.specs.Table.{Wrote}
use Rattle.script_table.proofs.TableLaws.{NoneBelow, pass_nodes, anchor_agrees, wrote_then, wrote_pass, wrote_all, some_below, none_below}
use Rattle.script_table.proofs.table_write.Goals as goal

first-nodes : {ws ws' : List ℕ} {t : ℕ} {out out' : List ℕ} → Wrote ws ws' 0 (0 + 4) 0 t out out' → Wrote ws ws' 0 (pool_words 0) 0 t out out'
first-nodes w = w

pub node_write-t-requires-clause-node_fits : goal.node_write-t-requires-clause-node_fits
node_write-t-requires-clause-node_fits c =
    let T = c.requires.all_fits.tables in
    let b : NoneBelow c.args.nums.now c.loop-m.from c.in-Some.m = some_below (omega arith) c.in-Some.ensures in
    let w = first-nodes (c.span_write-t.ensures c.requires.all_fits.words (anchor_agrees T)) in
    record {
      n = c.args.n;
      below = c.in-Some.ensures.1;
      words = c.requires.all_fits.words;
      tables = T;
      room = omega (
        arith,
        (wrote_then (c.loop-m.invariant.2 c.requires.all_fits.words T) (wrote_pass _ _ _ _ (pass_nodes T (length c.args.pool.now)
            c.loop-m.from c.in-Some.m T.size (omega (arith, c.in-Some.ensures.1)) b))).count,
        w.count,
        c.requires.all_fits.room,
        c.loop-m.invariant.1,
        c.span_write-t.auto.out,
        ap length (script_start c.args.pool.now c.requires.all_fits.words (length c.args.pool.now) refl),
      );
    }

pub loop-m-preserved : goal.loop-m-preserved
loop-m-preserved c =
    let b : NoneBelow c.args.nums.now c.loop-m.from c.in-Some.m = some_below (omega arith) c.in-Some.ensures in (
      omega (arith, c.in-Some.ensures.1),
      c.node_write-t.auto.out ∙ c.loop-m.invariant.1,
      λ ws' T.
          wrote_then (wrote_then (c.loop-m.invariant.2 ws' T) (wrote_pass _ _ _ _ (pass_nodes T (length c.args.pool.now) c.loop-m.from c.in-Some.m T.size
          (omega (arith, c.in-Some.ensures.1)) b))) (c.node_write-t.ensures c.args.n ws' T c.in-Some.ensures.1),
    )

pub returns : goal.returns
returns c =
    λ ws' T. wrote_all (wrote_then (wrote_then (first-nodes (c.span_write-t.ensures ws' (anchor_agrees T))) (c.loop-m.invariant.2 ws' T))
    (wrote_pass _ _ _ _ (pass_nodes T (length c.args.pool.now) c.loop-m.from c.args.n T.size (le_refl c.args.n)
    (none_below (omega arith) c.loop-m.invariant.0 c.in_default.ensures)))) (omega (arith, T.size))
