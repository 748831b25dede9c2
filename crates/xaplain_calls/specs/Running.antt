-- What the loop over a batch's commands keeps.
use Rattle.std.specs.Prelude.{ℕ, ◌≡◌, List, length}
use Rattle.words.specs.Bytes.{overwrite}
use Rattle.model.specs.declared.Entry.{Entry}
use Rattle.batch.specs.declared.Command.{Command}
use Rattle.batch.specs.Batch.{Parsed, rest_at}
use Rattle.batch.specs.Reply.{encode}
use Rattle.commands.specs.Batches.{replies_by, list_by, Ahead}
use Rattle.xaplain.specs.Moves.{Holds, Columns}
use Rattle.xaplain.specs.Engine.{execute}
use Rattle.xaplain.specs.declared.EntriesMut.{EntriesMut}
use Rattle.xaplain.specs.Lent.{Kept}

-- what a batch that runs leaves, from any list and place on
pub record Ends (room : ℕ) (l : List Entry) (cs : List Command) (out : ℕ) (reply index order word marks reply' : List ℕ) : Type 0 where
  pub columns : Columns index order word marks room (list_by (execute room) l cs)
  pub reply_is : reply' ≡ overwrite reply out (replies_by (execute room) l cs)

-- one command, with its reply written at `out`: r entries
pub record Turns {is os ws ms : List ℕ} {n : ℕ} (h : Holds is os ws ms n) (c : Command) (out : ℕ) (reply : List ℕ) (r : ℕ)
    (is' os' ws' ms' reply' : List ℕ) : Type 0
  where
    pub count_is : r ≡ length (execute (length is) h.list c).list
    pub columns : Columns is' os' ws' ms' (length is) (execute (length is) h.list c).list
    pub reply_is : reply' ≡ overwrite reply out (encode (execute (length is) h.list c).reply)

-- between two commands: what is left of the batch leads to what the whole batch leads to
pub record Running (is₀ os₀ ws₀ ms₀ reply₀ batch is os ws ms reply : List ℕ) (n₀ n at out : ℕ) : Type 0 where
  pub held : Holds is os ws ms n
  pub ahead : Ahead batch at (length reply) out
  pub same_room : length is ≡ length is₀
  pub same_length : length reply ≡ length reply₀
  pub leads : (h₀ : Holds is₀ os₀ ws₀ ms₀ n₀) (cs : List Command) → rest_at batch 0 ≡ Parsed.commands cs →
      (is' os' ws' ms' reply' : List ℕ) → Ends (length is) held.list ahead.rest out reply is' os' ws' ms' reply' →
      Ends (length is₀) h₀.list cs 0 reply₀ is' os' ws' ms' reply'

-- the same of slices that are lent to write
abbrev pub EndsIn : (room : ℕ) (l : List Entry) (cs : List Command) (out : ℕ) (reply : List ℕ) → EntriesMut → (reply' : List ℕ) → Type 0
EndsIn r l cs out reply s reply' = Ends r l cs out reply s.index.now s.order.now s.word.now s.marks.now reply'

abbrev pub TurnsIn : {is os ws ms : List ℕ} {n : ℕ} (h : Holds is os ws ms n) (c : Command) (out : ℕ) (reply : List ℕ) (r : ℕ) → EntriesMut →
    (reply' : List ℕ) → Type 0
TurnsIn h c out reply r s reply' = Turns h c out reply r s.index.now s.order.now s.word.now s.marks.now reply'

pub record RunningIn (s₀ : EntriesMut) (reply₀ batch : List ℕ) (s : EntriesMut) (reply : List ℕ) (n₀ n at out : ℕ) : Type 0 where
  pub running : Running s₀.index.now s₀.order.now s₀.word.now s₀.marks.now reply₀ batch s.index.now s.order.now s.word.now s.marks.now
      reply n₀ n at out
  pub kept : Kept s₀ s
