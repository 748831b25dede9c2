-- What the functions of this crate promise of replies.
use Rattle.std.specs.Prelude.{ℕ, Option, None, Some}
use Rattle.answers.specs.Answers.{absent}
use Rattle.model.specs.declared.Entry.{Entry}
use Rattle.batch.specs.declared.Reply.{Reply}
use Rattle.batch.specs.Reply.{answered, answered_by}

-- the reply by what covers the index
abbrev pub covered_reply : ℕ → Option Entry → Reply
covered_reply t None = answered t absent 0 0
covered_reply t (Some e) = answered_by t e 0
