use native.Mathlib.Omega.{arith}
use native.Mathlib.Nat.{le_refl}
use Rattle.layout.proofs.RenderWordLaws.{pool_length_lem}
use Rattle.script_table.proofs.TableLaws.{NoneBelow, some_below, none_below}
use Rattle.script_wide.proofs.GoesLaws.{count_is}
use Rattle.script_wide.proofs.WideLaws.{counted_then, counted_all, wide_next}
use Rattle.script_wide.proofs.wide_length.Goals as goal

pub frees_length-k-requires-clause-m_le_end : goal.frees_length-k-requires-clause-m_le_end
frees_length-k-requires-clause-m_le_end c =
    let b : NoneBelow c.args.nums.now c.loop-q.m c.in-Some.q = some_below (omega arith) c.in-Some.ensures in
    (b.least, omega (arith, c.in-Some.ensures.1, c.requires.n_value), c.requires.row_count_in_bounds.2, c.loop-q.invariant.1)

pub loop-q-preserved : goal.loop-q-preserved
loop-q-preserved c =
    let b : NoneBelow c.args.nums.now c.loop-q.m c.in-Some.q = some_below (omega arith) c.in-Some.ensures in (
      omega (arith, c.in-Some.ensures.1),
      c.node_length-k.ensures.upper_bound,
      λ ws' W. counted_then (counted_then (c.loop-q.invariant.2 ws' W) (c.frees_length-k.ensures.by_index ws'
          (wide_next W c.requires.n_value (omega (arith, c.in-Some.ensures.1)) b)))
          (c.node_length-k.ensures.by_index ws' W),
    )

pub returns : goal.returns
returns c =
    λ ws' w. counted_all (counted_then (c.loop-q.invariant.2 ws' w) (c.frees_length.ensures.by_index ws'
    (wide_next w c.requires.n_value (le_refl c.args.n) (none_below (omega arith) c.loop-q.invariant.0 c.in_default.ensures))))
    (omega (arith, c.requires.n_value, count_is c.requires.well_formed, pool_length_lem c.requires.well_formed))
