-- What a host sees of a call, what is left out where two engines are compared, and what a list of calls shows of an engine that
-- keeps the plain list (R309).
use Rattle.std.specs.Prelude.{ℕ, zero, suc, ◌+◌, ◌*◌, ◌<◌, ◌≡◌, ◌≢◌, List, [], ◌∷◌, ◌++◌, ltb, eqb, length, get_or, take, drop}
use Rattle.blocks.specs.Choice.{pick, either}
use Rattle.answers.specs.declared.Report.{Report}
use Rattle.answers.specs.Answers.{result_of, done, bad_batch, reply_space}
use Rattle.model.specs.declared.Entry.{Entry}
use Rattle.batch.specs.declared.Command.{Command}
use Rattle.batch.specs.Batch.{Parsed, Parsed.commands, Parsed.refused, parse}
use Rattle.batch.specs.Reply.{reply_bytes, load_reply, find_reply}
use Rattle.commands.specs.Commands.{Executed}
use Rattle.commands.specs.Batches.{replies_by, feed_by}
use Rattle.xaplain_calls.specs.Demand.{Call}

-- the answer, the number and, of a run, all bytes of the reply space after the call
pub record Seen : Type 0 where
  pub answer : ℕ
  pub number : ℕ
  pub reply : List ℕ

abbrev pub seen : Report → List ℕ → Seen
seen r rs = record { answer = r.answer; number = r.number; reply = rs }

-- LEFT OUT: in the bytes of a reply the last two, its count, where the tag is that of a load or a find (R49, R78)
abbrev pub without_count : List ℕ → List ℕ
without_count bs = pick (either (eqb (get_or bs 0 0) load_reply) (eqb (get_or bs 0 0) find_reply)) (take 22 bs ++ (0 ∷ 0 ∷ [])) bs

-- in the bytes of k replies
abbrev pub leaving : ℕ → List ℕ → List ℕ
leaving zero bs = bs
leaving (suc k) bs = without_count (take reply_bytes bs) ++ leaving k (drop reply_bytes bs)

-- in what a host sees: a call that is refused writes no reply
abbrev pub but_counts : Seen → Seen
but_counts v = record {
  answer = v.answer;
  number = v.number;
  reply = pick (eqb v.answer done) (leaving v.number v.reply) v.reply;
}

-- SAID: no reply of a call that ran has this answer, the fourth byte of the 24 (R49)
abbrev pub NeverSays : ℕ → Seen → Type 0
NeverSays a v = v.answer ≡ done → (j : ℕ) → j < v.number → get_or v.reply (reply_bytes * j + 3) 0 ≢ a

-- ON LISTS, by whatever executes a command
module _ (does : List Entry → Command → Executed) where
  abbrev pub seen_run : List Entry → List ℕ → Parsed → Seen
  seen_run l rs (refused at) = seen (result_of bad_batch at) rs
  seen_run l rs (commands cs) =
      pick (ltb (length rs) (reply_bytes * length cs)) (seen (result_of reply_space (length cs)) rs)
      (seen (result_of done (length cs)) (replies_by does l cs ++ drop (reply_bytes * length cs) rs))

  abbrev pub seen_by : List Entry → List Call → List Seen
  seen_by l [] = []
  seen_by l (Call.init ∷ cs) = seen (result_of done 0) [] ∷ seen_by [] cs
  seen_by l (Call.check ∷ cs) = seen (result_of done 0) [] ∷ seen_by l cs
  seen_by l (Call.batch bs rs ∷ cs) = seen_run l rs (parse bs) ∷ seen_by (feed_by does l (length rs) (parse bs)) cs
