-- The calls of the plain engine: the result, and every word and byte after the call (R302 to R308), as those of the tree
-- (calls/Calls) are.
use Rattle.std.specs.Prelude.{ℕ, ◌*◌, List, ◌++◌, ltb, eqb, length, drop}
use Rattle.blocks.specs.Choice.{pick}
use Rattle.answers.specs.declared.Report.{Report}
use Rattle.answers.specs.Answers.{result_of, done, bad_batch, reply_space}
use Rattle.batch.specs.Batch.{Parsed, Parsed.commands, Parsed.refused, parse}
use Rattle.batch.specs.Reply.{reply_bytes}
use Rattle.commands.specs.Batches.{replies_by, list_by}
use Rattle.xaplain.specs.Slices.{Slices, columns, room_of, list_in, check_answer, init_answer}
use Rattle.xaplain.specs.Engine.{execute}

-- what a call leaves: its result, the slices and the reply's bytes
pub record Called : Type 0 where
  pub result : Report
  pub slices : Slices
  pub reply : List ℕ

abbrev pub refuse_call : Slices → List ℕ → ℕ → ℕ → Called
refuse_call s rs a n = record { result = result_of a n; slices = s; reply = rs }

abbrev pub init_result : Slices → Report
init_result s = result_of (init_answer s) 0

abbrev pub check_result : Slices → Report
check_result s = result_of (check_answer s) 0

-- RUN: as R72 for the tree
abbrev pub run_parsed : Slices → List ℕ → Parsed → Called
run_parsed s rs (refused at) = refuse_call s rs bad_batch at
run_parsed s rs (commands cs) =
    pick (ltb (length rs) (reply_bytes * length cs)) (refuse_call s rs reply_space (length cs))
    (record {
      result = result_of done (length cs);
      slices = columns (room_of s) (list_by (execute (room_of s)) (list_in s) cs);
      reply = replies_by (execute (room_of s)) (list_in s) cs ++ drop (reply_bytes * length cs) rs;
    })

-- 1 and 2, which are the check's, go first
unfoldable pub run : Slices → (batch reply : List ℕ) → Called
run s bs rs = pick (eqb (check_answer s) done) (run_parsed s rs (parse bs)) (refuse_call s rs (check_answer s) 0)
