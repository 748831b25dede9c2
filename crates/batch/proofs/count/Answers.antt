-- `count`: how many commands a batch has, or the place of its first bad record.
use mathlib.Core.Path.{sym, ap, ◌∙◌}
use Rattle.batch.specs.Batch.{counted}
use Rattle.batch.proofs.ParseLaws.{parse_long, parse_rest}
use Rattle.batch.proofs.count.Goals as goal

pub returns-then-batch-gt-MAX_BATCH : goal.returns-then-batch-gt-MAX_BATCH
returns-then-batch-gt-MAX_BATCH c =
    sym (ap counted (parse_long _ c.if-batch-gt-MAX_BATCH.true))

pub returns : goal.returns
returns c =
    c.count_records.ensures ∙ sym (ap counted (parse_rest _ c.if-batch-gt-MAX_BATCH.false))
