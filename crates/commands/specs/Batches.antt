-- The commands of a batch in order (R68, R96), by whatever gives each its reply and the list that it leaves.
use Rattle.std.specs.Prelude.{ℕ, ◌+◌, ◌*◌, ◌≤◌, ◌≡◌, List, [], ◌∷◌, ◌++◌, ltb, length}
use Rattle.blocks.specs.Choice.{pick}
use Rattle.model.specs.declared.Entry.{Entry}
use Rattle.batch.specs.declared.Command.{Command}
use Rattle.batch.specs.Batch.{Parsed, Parsed.commands, Parsed.refused, rest_at}
use Rattle.batch.specs.Reply.{reply_bytes, encode}
use Rattle.commands.specs.Commands.{Executed}

module _ (does : List Entry → Command → Executed) where
  -- the replies, each of that moment's list
  abbrev pub replies_by : List Entry → List Command → List ℕ
  replies_by l [] = []
  replies_by l (c ∷ cs) = encode (does l c).reply ++ replies_by (does l c).list cs

  -- the list after the last
  abbrev pub list_by : List Entry → List Command → List Entry
  list_by l [] = l
  list_by l (c ∷ cs) = list_by (does l c).list cs

  -- R95: the list after a batch, by what it parses to and how long the reply space is
  abbrev pub feed_by : List Entry → (reply_length : ℕ) → Parsed → List Entry
  feed_by l k (refused at) = l
  feed_by l k (commands cs) = pick (ltb k (reply_bytes * length cs)) l (list_by l cs)

-- the batch from a place on is a list of commands, and their replies have room from `out` on
pub record Ahead (batch : List ℕ) (at : ℕ) (reply_length out : ℕ) : Type 0 where
  pub rest : List Command
  pub rest_is : rest_at batch at ≡ Parsed.commands rest
  pub room : out + reply_bytes * length rest ≤ reply_length
