-- What the functions of this crate promise.
use Rattle.std.specs.Prelude.{ℕ, ◌≡◌, Bool, true, false, List, Option, Some, None, Ok, Err}
use Rattle.std.proofs.Math.Option.{some}
use Rattle.model.specs.declared.Entry.{Entry}
use Rattle.model.specs.Model.{reserved_word, matched_mark, covering, covered, remark}
use Rattle.layout.specs.Places.{render}
use Rattle.layout.specs.WellFormed.{WellFormed}
use Rattle.lookup.specs.declared.Loaded.{Loaded}
use Rattle.batch.specs.declared.Command.{Command}
use Rattle.batch.specs.declared.Command.TheVariants.{Store, Load, Erase, Mark, Unmark, Find, Reserve}
use Rattle.batch.specs.declared.Reply.{Reply}
use Rattle.batch.specs.Reply.{answered, answered_by, store_reply, reserve_reply}
use Rattle.commands.specs.Replies.{covered_reply}
use Rattle.store.specs.Stored.{Stored}
use Rattle.store.specs.declared.Refused.TheVariants.{Short, Taken}
pub use Rattle.execute.specs.declared.Put.{Put}
use Rattle.execute.specs.Execute.{execute}
use Rattle.answers.specs.Answers.{absent, too_few_nodes, is_covered}
use Rattle.execute.specs.State.{State, next}

-- the reply by what a load finds
abbrev pub entry_reply : (t d : ℕ) → Option Entry → Reply
entry_reply t d None = answered t absent 0 d
entry_reply t d (Some e) = answered_by t e d

abbrev pub loaded_reply : ℕ → Loaded → Reply
loaded_reply t x = entry_reply t x.nodes x.entry

-- the reply by what a reservation comes to
abbrev pub reserved_reply : Stored → Reply
reserved_reply (Ok e) = answered_by reserve_reply e 0
reserved_reply (Err Short) = answered reserve_reply too_few_nodes 0 0
reserved_reply (Err Taken) = answered reserve_reply is_covered 0 0

-- a store, or a reservation
abbrev pub putting : (i k w : ℕ) → Bool → Command
putting i k w false = Store i k w
putting i k w true = Reserve i

-- what a command asks of a store
abbrev pub put_of : Command → Option Put
put_of (Store i k w) = Some (record { index = i; order = k; word = w; reserve = false })
put_of (Load i) = None
put_of (Erase i) = None
put_of (Mark i m) = None
put_of (Unmark i m) = None
put_of (Find a z f k) = None
put_of (Reserve i) = Some (record { index = i; order = 0; word = reserved_word; reserve = true })

-- the command that sets a mark, or clears it
abbrev pub remarking : (i m : ℕ) → Bool → Command
remarking i m true = Mark i m
remarking i m false = Unmark i m

-- a well-formed pool as a state
abbrev pub state_of : {ws : List ℕ} → WellFormed ws → State
state_of s = record { list = s.list; places = s.places }

-- the reply of a command on a well-formed pool
abbrev pub reply_to : {ws : List ℕ} → WellFormed ws → Command → Reply
reply_to s c = (execute s.n s.list c).reply

-- the words that it leaves
abbrev pub words_to : {ws : List ℕ} → WellFormed ws → Command → List ℕ
words_to s c = let t = next s.n (state_of s) c in render t.list t.places s.n

-- a reply with the tag of a store's
abbrev pub as_stored : Reply → Reply
as_stored r =
    record {
      tag = store_reply;
      answer = r.answer;
      index = r.index;
      order = r.order;
      word = r.word;
      marks = r.marks;
      count = r.count;
    }

-- the last step of a store that came to x: mark 2 of the entry that it left over i is cleared, and the reply
pub record Settles {ws : List ℕ} (s : WellFormed ws) (i : ℕ) (x : Stored) (r : Reply) (ws' : List ℕ) : Type 0 where
  pub done : {e : Entry} → x ≡ Ok e → covering s.list i ≡ some e →
      (r ≡ covered_reply store_reply (covered (covering (remark s.list i matched_mark false) i)))
      × (ws' ≡ render (remark s.list i matched_mark false) s.places s.n)
  pub short : x ≡ Err Short → (r ≡ answered store_reply too_few_nodes 0 0) × (ws' ≡ ws)

-- the reply and the words after a command
pub record Executes {ws : List ℕ} (s : WellFormed ws) (c : Command) (r : Reply) (ws' : List ℕ) : Type 0 where
  pub reply_is : r ≡ reply_to s c
  pub words_are : ws' ≡ words_to s c
