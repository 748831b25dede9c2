-- The calls: the result, and every word and byte after the call (R68 to R72, R81 to R84, R87, R145 to R148).
use Rattle.std.specs.Prelude.{ℕ, ◌*◌, List, ◌++◌, ltb, eqb, length, drop, Result, Ok, Err}
use Rattle.blocks.specs.Choice.{pick}
use Rattle.model.specs.declared.Entry.{Entry}
use Rattle.layout.specs.Places.{render}
use Rattle.layout.specs.Decode.{list_of, places_of}
use Rattle.layout.specs.Decide.{node_count}
use Rattle.verify.specs.Answers.{check_answer, init_answer}
use Rattle.batch.specs.declared.Command.{Command}
use Rattle.batch.specs.Batch.{Parsed, Parsed.commands, Parsed.refused, parse}
use Rattle.batch.specs.Reply.{reply_bytes}
use Rattle.commands.specs.Batches.{replies_by}
use Rattle.listing.specs.Listing.{listed, outcome, filled_with}
use Rattle.listing.specs.declared.Short.{Short}
use Rattle.execute.specs.Execute.{execute}
use Rattle.execute.specs.State.{State, states}
use Rattle.answers.specs.declared.Report.{Report}
use Rattle.answers.specs.Answers.{result_of, done, bad_batch, reply_space, first_above_last}

-- what a call leaves: its result, the pool's words and the reply's bytes
pub record Called : Type 0 where
  pub result : Report
  pub words : List ℕ
  pub reply : List ℕ

-- R82
abbrev pub refuse_call : List ℕ → List ℕ → ℕ → ℕ → Called
refuse_call ws rs a n = record { result = result_of a n; words = ws; reply = rs }

-- INIT (document 01: blanking) and CHECK (R84)
abbrev pub init_result : List ℕ → Report
init_result ws = result_of (init_answer ws) 0

abbrev pub check_result : List ℕ → Report
check_result ws = result_of (check_answer ws) 0

-- THE COUNT of a batch by itself: what a run would make of the batch
abbrev pub counts : Parsed → Report
counts (commands cs) = result_of done (length cs)
counts (refused at) = result_of bad_batch at

abbrev pub count_result : List ℕ → Report
count_result bs = counts (parse bs)

-- RUN
module _ (n : ℕ) where
  -- the replies in order, each of that moment's list
  abbrev pub replies : List Entry → List Command → List ℕ
  replies = replies_by (execute n)

  -- a batch that runs (R68); the other bytes of the reply stay (R87)
  abbrev pub running : State → List Command → List ℕ → Called
  running s cs rs =
      let t = states n s cs in
      record {
        result = result_of done (length cs);
        words = render t.list t.places n;
        reply = replies s.list cs ++ drop (reply_bytes * length cs) rs;
      }

  -- R72
  abbrev pub run_parsed : List ℕ → List ℕ → Parsed → Called
  run_parsed ws rs (refused at) = refuse_call ws rs bad_batch at
  run_parsed ws rs (commands cs) =
      pick (ltb (length rs) (reply_bytes * length cs)) (refuse_call ws rs reply_space (length cs))
      (running (record { list = list_of ws; places = places_of ws }) cs rs)

-- R81: 1 and 2, which are the check's, go first
unfoldable pub run : (pool batch reply : List ℕ) → Called
run ws bs rs =
    pick (eqb (check_answer ws) done) (run_parsed (node_count ws) ws rs (parse bs)) (refuse_call ws rs (check_answer ws) 0)

-- LIST
-- what a listing leaves: its result and the buffer's bytes; it writes nothing in the pool (R147)
pub record Listing : Type 0 where
  pub result : Report
  pub buffer : List ℕ

abbrev pub refuse_list : List ℕ → ℕ → ℕ → Listing
refuse_list bs a n = record { result = result_of a n; buffer = bs }

-- R145, R146: where it does not fit, the answer is that of a reply space too small
abbrev pub list_result : Result ℕ Short → Report
list_result (Err s) = result_of reply_space s.entries
list_result (Ok n) = result_of done n

-- R148: on a well-formed pool, of the list that it holds
abbrev pub list_over : List Entry → (first last : ℕ) → (buffer : List ℕ) → Listing
list_over l a z bs =
    pick (ltb z a) (refuse_list bs first_above_last 0)
    (record { result = list_result (outcome (listed l a z) bs); buffer = filled_with (listed l a z) bs })

-- R148: 1 and 2 go first
unfoldable pub list : (pool : List ℕ) → (first last : ℕ) → (buffer : List ℕ) → Listing
list ws a z bs = pick (eqb (check_answer ws) done) (list_over (list_of ws) a z bs) (refuse_list bs (check_answer ws) 0)
