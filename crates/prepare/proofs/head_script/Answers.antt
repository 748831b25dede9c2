use lib.ListN.{set}
use Rattle.prepare.proofs.PutLaws.{word_table}
use Rattle.prepare.proofs.head_script.Goals as goal

pub yield_table-requires-clause-tabled : goal.yield_table-requires-clause-tabled
yield_table-requires-clause-tabled c =
    record {
      formed = c.requires;
      words = set c.args.pool.now 1 c.args.word;
      tables = word_table c.requires c.args.word c.head_rows.ensures;
    }

pub returns-clause-fact : goal.returns-clause-fact
returns-clause-fact c =
    λ s. c.yield_table.ensures.fact s (set c.args.pool.now 1 c.args.word) (word_table s c.args.word c.head_rows.ensures)

pub returns-clause-fact_2 : goal.returns-clause-fact_2
returns-clause-fact_2 c =
    λ s. c.yield_table.ensures.fact_2 s (set c.args.pool.now 1 c.args.word) (word_table s c.args.word c.head_rows.ensures)
