use native.Mathlib.Omega.{arith}
use Rattle.script_wide.proofs.WideLaws.{wide_narrow}
use Rattle.prepare.proofs.yield_wide.Goals as goal

pub yield_table-requires-clause-tabled : goal.yield_table-requires-clause-tabled
yield_table-requires-clause-tabled c =
    record {
      formed = c.requires.widely.formed;
      words = c.requires.widely.words;
      tables = wide_narrow c.requires.widely.wide (omega (arith, c.if-order-lt-SLOT_BITS.true));
    }

pub returns-then-order-lt-SLOT_BITS-clause-fact : goal.returns-then-order-lt-SLOT_BITS-clause-fact
returns-then-order-lt-SLOT_BITS-clause-fact c =
    λ s ws' w. c.yield_table.ensures.fact s ws' (wide_narrow w (omega (arith, c.if-order-lt-SLOT_BITS.true)))

pub returns-then-order-lt-SLOT_BITS-clause-fact_2 : goal.returns-then-order-lt-SLOT_BITS-clause-fact_2
returns-then-order-lt-SLOT_BITS-clause-fact_2 c =
    λ s ws' w. c.yield_table.ensures.fact_2 s ws' (wide_narrow w (omega (arith, c.if-order-lt-SLOT_BITS.true)))
