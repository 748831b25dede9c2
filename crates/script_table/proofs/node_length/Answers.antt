use Prim.Native.Nat.{ℕ, ◌+◌}
use mathlib.Core.Path.{◌≡◌, sym, ap, ◌∙◌}
use mathlib.Core.List.{List}
use native.Mathlib.Omega.{arith}
use lib.ListN.{length}
use Rattle.layout.specs.Words.{pool_words, node_words}
use Rattle.script_table.proofs.TableLaws.{after, no_row, row_none, row_some, row_agrees}
use Rattle.script_table.proofs.node_length.Goals as goal

pub returns-in-None-clause-by_index : goal.returns-in-None-clause-by_index
returns-in-None-clause-by_index c =
    λ n ws' T h. ap (λ (x : List ℕ). c.args.k + length x)
    (sym (no_row T (length c.args.pool.now) c.args.m T.size h (row_none _ _ (omega (arith, c.well_formed)) c.in-None.ensures)))

pub returns-in-Some-clause-by_index : goal.returns-in-Some-clause-by_index
returns-in-Some-clause-by_index c =
    λ n ws' T h. let f = row_some c.args.nums.now c.args.m c.in-Some.r (omega arith) c.in-Some.ensures in
    let z : pool_words (c.args.m + 1) ≡ pool_words c.args.m + node_words = omega arith in
    ap (λ (p : ℕ). c.span_length.result + length (after c.args.pool.now ws' (length c.args.pool.now) p)) z
    ∙ c.span_length.ensures.by_index ws' (row_agrees T c.args.m c.in-Some.r h f.0 f.1)
