-- When the check answers 0, 1 and 2 (R302, R303), and the rows of the table of a run's answers (R308). Answers stand as numbers.
use Rattle.std.specs.Prelude.{ℕ, ◌*◌, ◌≤◌, ◌<◌, ◌≡◌, List, ◌++◌, length, drop}
use Rattle.answers.specs.Answers.{result_of}
use Rattle.model.specs.declared.Entry.{Entry}
use Rattle.batch.specs.declared.Command.{Command}
use Rattle.batch.specs.Batch.{Parsed, parse}
use Rattle.batch.specs.Records.{Refuses}
use Rattle.batch.specs.Reply.{reply_bytes}
use Rattle.commands.specs.Batches.{replies_by, list_by}
use Rattle.xaplain.specs.Slices.{Slices, columns, Prescribes, max_room, room_of, list_in, check_answer}
use Rattle.xaplain.specs.Engine.{execute}
use Rattle.xaplain_calls.specs.Calls.{Called, refuse_call}

-- R300: of one length, at most 4,096
pub record Sized (s : Slices) : Type 0 where
  pub most : room_of s ≤ max_room
  pub order_fits : length s.order ≡ room_of s
  pub word_fits : length s.word ≡ room_of s
  pub marks_fit : length s.marks ≡ room_of s

-- both ways: 0 exactly if some valid list prescribes all four slices, and that list is the one that is read; 1 exactly if they
-- are not sized; 2 exactly if they are and no list does
pub record CheckExact (s : Slices) : Type 0 where
  pub zero_only : check_answer s ≡ 0 → Sized s × Prescribes (room_of s) (list_in s) s
  pub zero_if : Sized s → (l : List Entry) → Prescribes (room_of s) l s → (check_answer s ≡ 0) × (list_in s ≡ l)
  pub one_only : check_answer s ≡ 1 → Sized s → ⊥
  pub one_if_lem : (Sized s → ⊥) → check_answer s ≡ 1
  pub two_only : check_answer s ≡ 2 → Sized s × ((l : List Entry) → Prescribes (room_of s) l s → ⊥)
  pub two_if : Sized s → ((l : List Entry) → Prescribes (room_of s) l s → ⊥) → check_answer s ≡ 2

-- the rows for a run, each under the conditions that the ones above it leave
pub data CallRow (s : Slices) (bs rs : List ℕ) : Called → Type 0 where
  row_1 : (Sized s → ⊥) → CallRow s bs rs (refuse_call s rs 1 0)
  row_2 : Sized s → ((l : List Entry) → Prescribes (room_of s) l s → ⊥) → CallRow s bs rs (refuse_call s rs 2 0)
  row_3 : Sized s → (l : List Entry) → Prescribes (room_of s) l s → (at : ℕ) → Refuses bs at →
      CallRow s bs rs (refuse_call s rs 3 at)
  row_4 : Sized s → (l : List Entry) → Prescribes (room_of s) l s → (cs : List Command) → parse bs ≡ Parsed.commands cs →
      length rs < reply_bytes * length cs → CallRow s bs rs (refuse_call s rs 4 (length cs))
  row_0 : Sized s → (l : List Entry) → Prescribes (room_of s) l s → (cs : List Command) → parse bs ≡ Parsed.commands cs →
      reply_bytes * length cs ≤ length rs →
      CallRow s bs rs
      (record {
        result = result_of 0 (length cs);
        slices = columns (room_of s) (list_by (execute (room_of s)) l cs);
        reply = replies_by (execute (room_of s)) l cs ++ drop (reply_bytes * length cs) rs;
      })
