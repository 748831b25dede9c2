-- `read_at`: what stands at a place of a batch.
use Rattle.std.proofs.Common.{ℕ, ◌+◌, ap, ◌∙◌}
use Rattle.batch.specs.Batch.{head_bytes, command_at}
use Rattle.batch.proofs.BatchLaws.{read_end, read_bad, read_next}
use Rattle.words.proofs.NumberLaws.{one_byte}
use Rattle.batch.proofs.read_at.Goals as goal

pub returns-then-batch-at : goal.returns-then-batch-at
returns-then-batch-at c =
    read_end _ _ c.if-batch-at.true

pub returns-in_default : goal.returns-in_default
returns-in_default c =
    read_bad _ _ c.if-batch-at.false c.in_default.ensures

pub returns : goal.returns
returns c =
    let a = c.args in
    read_next a.batch.now a.at c.if-batch-at.false c.in-Some.ensures
    (c.command_at.ensures ∙ ap (λ (y : ℕ). command_at a.batch.now y (a.at + head_bytes))
    (one_byte a.batch.now a.at c.number1-tag.ensures.0))
