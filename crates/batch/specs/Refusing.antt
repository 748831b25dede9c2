-- A batch with a bad record as a call refuses it.
use Rattle.answers.specs.declared.Answer.TheVariants.{BadBatch}
use Rattle.answers.specs.declared.Refusal.{Refusal}
use Rattle.batch.specs.declared.BadRecord.{BadRecord}

abbrev pub refusal_of : BadRecord → Refusal
refusal_of bad = record { answer = BadBatch; number = bad.at }
