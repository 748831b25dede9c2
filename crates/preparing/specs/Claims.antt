-- What R329 to R333 say of preparing, one by one. Answers stand here as numbers, so that they hold `Prepare` to them.
use Rattle.std.specs.Prelude.{ℕ, ◌≤◌, ◌<◌, ◌≡◌, true, List, [], ◌∷◌, ◌++◌, length, drop}
use Rattle.answers.specs.Answers.{result_of}
use Rattle.model.specs.declared.Entry.{Entry}
use Rattle.layout.specs.Places.{Places}
use Rattle.layout.specs.WellFormed.{WellFormed, Sized, Prescribed}
use Rattle.batch.specs.declared.Command.{Command}
use Rattle.batch.specs.Batch.{Parsed, parse}
use Rattle.commands.specs.Commands.{Executed}
use Rattle.execute.specs.Part.{changing}
use Rattle.execute.specs.Table.{CommandRow}
use Rattle.script.specs.Script.{script}
use Rattle.preparing.specs.Prepare.{Yield, words_next, state_in}

-- R329, R330: read as a batch (R42 to R48), the bytes have this one command, and it is a store, an erase, a mark, an unmark or a reservation
pub record OneChange (bs : List ℕ) (c : Command) : Type 0 where
  pub alone : parse bs ≡ Parsed.commands (c ∷ [])
  pub changes : changing c ≡ true

-- that command, by the table of its own answers (R73 to R81) and the words that it leaves (R35 to R37), on a well-formed pool
pub record Does (ws bs : List ℕ) (own : ℕ) (ws' : List ℕ) : Type 0 where
  pub formed : WellFormed ws
  pub command : Command
  pub one : OneChange bs command
  pub comes_to : Executed
  pub row : CommandRow formed.n formed.list command comes_to
  pub own_is : comes_to.reply.answer ≡ own
  pub words_are : ws' ≡ words_next formed.n (state_in formed) command

-- a row for each way that a call goes, in order, each under the conditions that the ones above it leave (R330 to R333): what it leaves
pub data PrepareRow (ws bs out : List ℕ) : Yield → Type 0 where
  -- answers 1 and 2: the pool
  wrong_size : ((n : ℕ) → Sized n ws → ⊥) → PrepareRow ws bs out (record { result = result_of 1 0; slice = out })
  malformed : (n : ℕ) → Sized n ws → ((l : List Entry) (os : Places) → Prescribed n l os ws → ⊥) →
      PrepareRow ws bs out (record { result = result_of 2 0; slice = out })
  -- answer 3: the bytes
  no_record : WellFormed ws → ((c : Command) → OneChange bs c → ⊥) →
      PrepareRow ws bs out (record { result = result_of 3 0; slice = out })
  -- answers 5, 6, 7, 10, 11, 14 and 15: the command's own
  own : (a : ℕ) (ws' : List ℕ) → Does ws bs a ws' → (a ≡ 0 → ⊥) →
      PrepareRow ws bs out (record { result = result_of a 0; slice = out })
  -- answer 4, last
  no_room : (ws' : List ℕ) → Does ws bs 0 ws' → length out < length (script ws ws') →
      PrepareRow ws bs out (record { result = result_of 4 (length (script ws ws')); slice = out })
  -- done
  prepared : (ws' : List ℕ) → Does ws bs 0 ws' → length (script ws ws') ≤ length out →
      PrepareRow ws bs out
      (record {
        result = result_of 0 (length (script ws ws'));
        slice = script ws ws' ++ drop (length (script ws ws')) out;
      })
