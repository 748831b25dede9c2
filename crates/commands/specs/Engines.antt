-- Two engines on one list: what agrees of what a command comes to, and where.
use Rattle.std.specs.Prelude.{ℕ, ◌≤◌, ◌≡◌, ◌≢◌, Bool, List, eqb}
use Rattle.blocks.specs.Choice.{pick, either}
use Rattle.model.specs.declared.Entry.{Entry}
use Rattle.model.specs.Model.{mark_count}
use Rattle.batch.specs.declared.Command.{Command}
use Rattle.batch.specs.declared.Command.TheVariants.{Find}
use Rattle.batch.specs.declared.Reply.{Reply}
use Rattle.batch.specs.Reply.{reply_tag}
use Rattle.commands.specs.Commands.{Executed, Engine}

-- the replies of loads and finds count (R49, R78)
abbrev pub counting : (tag : ℕ) → Bool
counting t = either (eqb t 130) (eqb t 134)

-- a reply without its count, where it is a load's or a find's
abbrev pub uncounted : Reply → Reply
uncounted r =
    record {
      tag = r.tag;
      answer = r.answer;
      index = r.index;
      order = r.order;
      word = r.word;
      marks = r.marks;
      count = pick (counting r.tag) 0 r.count;
    }

-- the replies but for those counts, and the lists
abbrev pub Agree : Executed → Executed → Type 0
Agree x y = (uncounted x.reply ≡ uncounted y.reply) × (x.list ≡ y.list)

-- the find that the command is, if it is one and nothing refuses it, comes to the same
abbrev pub SameFind : (E F : Engine) → List Entry → Command → Type 0
SameFind E F l c = (a z f k : ℕ) → c ≡ Find a z f k → f ≤ mark_count → a ≤ z → k ≢ 0 →
    uncounted (E.finds (reply_tag c) l a z f k) ≡ uncounted (F.finds (reply_tag c) l a z f k)
