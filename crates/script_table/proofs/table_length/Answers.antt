use Prim.Native.Nat.{ℕ, ◌+◌}
use mathlib.Core.Path.{sym, ap, ◌∙◌}
use mathlib.Core.List.{List}
use native.Mathlib.Omega.{arith}
use lib.ListN.{length}
use native.Mathlib.Nat.{le_refl}
use Rattle.layout.specs.Words.{pool_words}
use Rattle.script_table.proofs.LaidLaws.{script_end}
use Rattle.script_table.proofs.TableLaws.{NoneBelow, pass_nodes, some_below, none_below}
use Rattle.script_table.proofs.table_length.Goals as goal

pub loop-m-preserved : goal.loop-m-preserved
loop-m-preserved c =
    let b : NoneBelow c.args.nums.now c.loop-m.from c.in-Some.m = some_below (omega arith) c.in-Some.ensures in (
      omega (arith, c.in-Some.ensures.1),
      omega (arith, b.least, c.loop-m.invariant.1, c.node_length-k.ensures.upper_bound),
      λ ws' T.
          c.node_length-k.ensures.by_index c.args.n ws' T c.in-Some.ensures.1
          ∙ (ap (λ (q : List ℕ). c.loop-m.k + length q) (sym (pass_nodes T (length c.args.pool.now) c.loop-m.from c.in-Some.m
          T.size (omega (arith, c.in-Some.ensures.1)) b)) ∙ c.loop-m.invariant.2 ws' T),
    )

pub returns : goal.returns
returns c =
    λ ws' T. omega (
      arith,
      c.loop-m.invariant.2 ws' T,
      ap length (pass_nodes T (length c.args.pool.now) c.loop-m.from c.args.n T.size (le_refl c.args.n)
          (none_below (omega arith) c.loop-m.invariant.0 c.in_default.ensures)),
      ap length (script_end c.args.pool.now ws' (length c.args.pool.now) (pool_words c.args.n) (omega (arith, T.size))),
    )
