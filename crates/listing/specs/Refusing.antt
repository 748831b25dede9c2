-- Entries that do not fit as a call refuses them.
use Rattle.answers.specs.declared.Answer.TheVariants.{ReplySpace}
use Rattle.answers.specs.declared.Refusal.{Refusal}
use Rattle.listing.specs.declared.Short.{Short}

abbrev pub refusal_of : Short → Refusal
refusal_of short = record { answer = ReplySpace; number = short.entries }
