-- The plain engine: what it adds to what a command means (crate commands). It counts nothing, and no find of it pauses (R305 to R307).
use Rattle.std.specs.Prelude.{ℕ, List, ltb, length}
use Rattle.std.proofs.Math.Option.{Option, none, some}
use Rattle.answers.specs.Answers.{ended}
use Rattle.model.specs.declared.Entry.{Entry}
use Rattle.model.specs.Matches.{first_match}
use Rattle.batch.specs.declared.Command.{Command}
use Rattle.batch.specs.declared.Reply.{Reply}
use Rattle.batch.specs.Reply.{reply_tag, answered, answered_by}
use Rattle.commands.specs.Commands.{Executed, Engine, execute_as}

-- R306: a find by the first match
abbrev pub sighted : (tag : ℕ) → Option Entry → Reply
sighted t none = answered t ended 0 0
sighted t (some e) = answered_by t e 0

-- R307: room for so many entries
abbrev pub xaplain : (room : ℕ) → Engine
xaplain r = record {
  lacks = λ l l'. ltb r (length l');
  count = λ l i. 0;
  finds = λ t l a z f k. sighted t (first_match l a z f);
}

module _ (room : ℕ) (l : List Entry) where
  unfoldable pub execute : Command → Executed
  execute c = execute_as (xaplain room) l (reply_tag c) c
