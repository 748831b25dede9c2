-- The rows of the table of a call's answers (R68 to R72, R81), and of a listing's (R148). Answers stand in it as numbers, so that
-- it holds `Calls` to them.
use Rattle.std.specs.Prelude.{ℕ, ◌*◌, ◌≤◌, ◌<◌, ◌≡◌, List, ◌++◌, length, drop}
use Rattle.model.specs.declared.Entry.{Entry}
use Rattle.layout.specs.Places.{Places}
use Rattle.layout.specs.WellFormed.{WellFormed, Sized, Prescribed}
use Rattle.layout.specs.Decode.{list_of, places_of}
use Rattle.layout.specs.Decide.{node_count}
use Rattle.batch.specs.declared.Command.{Command}
use Rattle.batch.specs.Batch.{Parsed, parse}
use Rattle.batch.specs.Records.{Refuses}
use Rattle.batch.specs.Reply.{reply_bytes}
use Rattle.listing.specs.Listing.{listed, entry_bytes, listing}
use Rattle.calls.specs.Calls.{Called, refuse_call, running, Listing, refuse_list}
use Rattle.answers.specs.Answers.{result_of}

-- the rows of the table for a run, each under the conditions that the ones above it leave
pub data CallRow (ws bs rs : List ℕ) : Called → Type 0 where
  row_1 : ((n : ℕ) → Sized n ws → ⊥) → CallRow ws bs rs (refuse_call ws rs 1 0)
  row_2 : (n : ℕ) → Sized n ws → ((l : List Entry) (os : Places) → Prescribed n l os ws → ⊥) →
      CallRow ws bs rs (refuse_call ws rs 2 0)
  row_3 : WellFormed ws → (at : ℕ) → Refuses bs at → CallRow ws bs rs (refuse_call ws rs 3 at)
  row_4 : WellFormed ws → (cs : List Command) → parse bs ≡ Parsed.commands cs → length rs < reply_bytes * length cs →
      CallRow ws bs rs (refuse_call ws rs 4 (length cs))
  row_0 : WellFormed ws → (cs : List Command) → parse bs ≡ Parsed.commands cs → reply_bytes * length cs ≤ length rs →
      CallRow ws bs rs (running (node_count ws) (record { list = list_of ws; places = places_of ws }) cs rs)

-- the rows for a listing
pub data ListRow (ws : List ℕ) (a z : ℕ) (bs : List ℕ) : Listing → Type 0 where
  list_1 : ((n : ℕ) → Sized n ws → ⊥) → ListRow ws a z bs (refuse_list bs 1 0)
  list_2 : (n : ℕ) → Sized n ws → ((l : List Entry) (os : Places) → Prescribed n l os ws → ⊥) →
      ListRow ws a z bs (refuse_list bs 2 0)
  list_8 : WellFormed ws → z < a → ListRow ws a z bs (refuse_list bs 8 0)
  list_4 : WellFormed ws → a ≤ z → length bs < entry_bytes * length (listed (list_of ws) a z) →
      ListRow ws a z bs (refuse_list bs 4 (length (listed (list_of ws) a z)))
  list_0 : WellFormed ws → a ≤ z → entry_bytes * length (listed (list_of ws) a z) ≤ length bs →
      ListRow ws a z bs
      (record {
        result = result_of 0 (length (listed (list_of ws) a z));
        buffer = listing (listed (list_of ws) a z) ++ drop (entry_bytes * length (listed (list_of ws) a z)) bs;
      })
