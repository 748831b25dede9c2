use Prim.Native.Nat.{ℕ, ◌+◌}
use mathlib.Core.Path.{◌≡◌, subst}
use native.Mathlib.Omega.{arith}
use lib.ListN.{length}
use Rattle.layout.specs.Words.{pool_words, node_words}
use Rattle.script_table.specs.Table.{Wrote}
use Rattle.script_table.proofs.TableLaws.{no_row, wrote_pass, row_none, row_some, row_agrees}
use Rattle.script_table.proofs.node_write.Goals as goal

pub returns-in-None : goal.returns-in-None
returns-in-None c =
    λ n ws' T h. wrote_pass (pool_words c.args.m) (pool_words (c.args.m + 1)) c.args.t
    c.args.out.now (no_row T (length c.args.pool.now) c.args.m T.size h (row_none _ _ (omega arith) c.in-None.ensures))

pub span_write-requires : goal.span_write-requires
span_write-requires c =
    let f = row_some c.args.nums.now c.args.m c.in-Some.r (omega arith) c.in-Some.ensures in
    let T = c.requires.node_fits.tables in
    record {
      in_pool = omega (arith, T.size, c.requires.node_fits.below);
      in_rows = omega (arith, f.0);
      words = c.requires.node_fits.words;
      agrees = row_agrees T c.args.m c.in-Some.r c.requires.node_fits.below f.0 f.1;
      room = c.requires.node_fits.room;
    }

pub returns-in-Some : goal.returns-in-Some
returns-in-Some c =
    λ n ws' T h. let f = row_some c.args.nums.now c.args.m c.in-Some.r (omega arith) c.in-Some.ensures in
    let z : pool_words c.args.m + node_words ≡ pool_words (c.args.m + 1) = omega arith in
    subst (λ (p : ℕ). Wrote c.args.pool.now ws' (pool_words c.args.m) p c.args.t c.span_write.result c.args.out.now c.span_write.new.out) z
    (c.span_write.ensures ws' (row_agrees T c.args.m c.in-Some.r h f.0 f.1))
