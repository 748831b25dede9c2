-- A walk as a host makes it (R296, R297): the calls on one pool, and what the host reads in the replies to its finds.
use Rattle.std.specs.Prelude.{ℕ, ◌+◌, ◌*◌, ◌^◌, ◌≤◌, ◌≡◌, ◌≢◌, List, [], ◌∷◌, ◌++◌, ltb, eqb, length}
use Rattle.std.proofs.Math.Option.{Option, none, some}
use Rattle.blocks.specs.Choice.{pick}
use Rattle.blocks.specs.Lists.{All}
use Rattle.answers.specs.Answers.{done, paused}
use Rattle.words.specs.Bytes.{number_at}
use Rattle.model.specs.declared.Entry.{Entry}
use Rattle.lookup.specs.declared.Outcome.{Outcome}
use Rattle.lookup.specs.declared.Outcome.TheVariants.{Found, Ended}
use Rattle.batch.specs.declared.Command.{Command}
use Rattle.batch.specs.declared.Command.TheVariants.{Find}
use Rattle.batch.specs.declared.Reply.{Reply}
use Rattle.batch.specs.Batch.{Parsed, parse}
use Rattle.batch.specs.Reply.{reply_bytes}
use Rattle.calls.specs.Calls.{run}
use Rattle.calls.specs.Demand.{Call, words_after_all, execute_all, list_after_all, Bytewise}
use Rattle.walks.specs.Walk.{Moment}

-- ONE FIND: the calls since the batch of the last one; then a batch with the find after the commands `ahead` and before those
-- `behind`, as bytes with a reply space
pub record Leg : Type 0 where
  pub calls : List Call
  pub ahead : List Command
  pub behind : List Command
  pub budget : ℕ
  pub bytes : List ℕ
  pub space : List ℕ

-- the calls, with that batch
abbrev pub calls_of : Leg → List Call
calls_of g = g.calls ++ (Call.batch g.bytes g.space ∷ [])

-- THE MODEL (R296): the lists that demand 3's calls, and the commands ahead, leave to each find
module _ (n : ℕ) where
  abbrev pub met : List Entry → Leg → List Entry
  met l g = execute_all n (list_after_all n l g.calls) g.ahead

  abbrev pub moments : List Entry → List Leg → List Moment
  moments l [] = []
  moments l (g ∷ gs) = record { list = met l g; budget = g.budget } ∷ moments (list_after_all n l (calls_of g)) gs

-- THE HOST (R297)
-- the reply at place k
abbrev pub reply_at : List ℕ → ℕ → Reply
reply_at s k = record {
  tag = number_at s (reply_bytes * k + 0) 1;
  answer = number_at s (reply_bytes * k + 3) 1;
  index = number_at s (reply_bytes * k + 4) 8;
  order = number_at s (reply_bytes * k + 12) 1;
  word = number_at s (reply_bytes * k + 13) 8;
  marks = number_at s (reply_bytes * k + 21) 1;
  count = number_at s (reply_bytes * k + 22) 2;
}

-- where it goes on, by the answer, the index and the order; none: the walk has come to its end
abbrev pub next_by : (last : ℕ) → Reply → Option ℕ
next_by z r =
    pick (eqb r.answer done)
    (pick (ltb z (r.index + 2 ^ r.order)) none (some (r.index + 2 ^ r.order)))
    (pick (eqb r.answer paused) (some r.index) none)

-- the reply to the find
abbrev pub seen : List ℕ → Leg → Reply
seen ws g = reply_at (run (words_after_all ws g.calls) g.bytes g.space).reply (length g.ahead)

-- the batch has a find from p to z, with a budget above 0 and room for its replies
pub record Asks (f z p : ℕ) (g : Leg) : Type 0 where
  pub budget_left : g.budget ≢ 0
  pub bytewise : All Bytewise (calls_of g)
  pub has_find : parse g.bytes ≡ Parsed.commands (g.ahead ++ (Find p z f g.budget ∷ g.behind))
  pub room : reply_bytes * length (g.ahead ++ (Find p z f g.budget ∷ g.behind)) ≤ length g.space

-- from the words ws on: each find is asked from where the reply to the last one says, and the last reply is the first to say
-- that there is no more
module _ (f z : ℕ) where
  pub data Walks : (ws : List ℕ) (p : ℕ) → List Leg → List Reply → Type 0 where
    stops : {ws : List ℕ} {p : ℕ} (g : Leg) → Asks f z p g → next_by z (seen ws g) ≡ none → Walks ws p (g ∷ []) (seen ws g ∷ [])
    goes_on : {ws : List ℕ} {p q : ℕ} {gs : List Leg} {rs : List Reply} (g : Leg) → Asks f z p g → next_by z (seen ws g) ≡ some q →
        Walks (words_after_all ws (calls_of g)) q gs rs → Walks ws p (g ∷ gs) (seen ws g ∷ rs)

-- what the host reports: the entries of the replies, and the end, each with the steps of all finds that led to it
abbrev pub entry_of : Reply → Entry
entry_of r = record { base = r.index; order = r.order; word = r.word; marks = r.marks }

abbrev pub reports_by : (n : ℕ) → List Reply → List Outcome
reports_by n [] = []
reports_by n (r ∷ rs) =
    pick (eqb r.answer done) (Found (entry_of r) (n + r.count) ∷ reports_by 0 rs)
    (pick (eqb r.answer paused) (reports_by (n + r.count) rs) (Ended (n + r.count) ∷ reports_by 0 rs))
