-- `entry_script`: the script of an entry that becomes another, or is erased.
use Rattle.prepare.proofs.entry_script.Goals as goal

pub yield_table-requires-clause-tabled : goal.yield_table-requires-clause-tabled
yield_table-requires-clause-tabled c =
    record {
      formed = c.requires.after_there.formed;
      words = c.requires.after_there.words;
      tables = c.after_rows.ensures c.requires.after_there.formed c.requires.after_there.words c.requires.after_there.after;
    }

pub returns-clause-fact : goal.returns-clause-fact
returns-clause-fact c =
    λ s ws' a. c.yield_table.ensures.fact s ws' (c.after_rows.ensures s ws' a)

pub returns-clause-fact_2 : goal.returns-clause-fact_2
returns-clause-fact_2 c =
    λ s ws' a. c.yield_table.ensures.fact_2 s ws' (c.after_rows.ensures s ws' a)

pub after_rows-requires-clause-entry_there : goal.after_rows-requires-clause-entry_there
after_rows-requires-clause-entry_there c =
    λ s. rw (c.height_of-top.ensures s) (c.requires.entry_there s)
