-- Preparing (R329 to R333): what becomes of a slice that is lent for a script, of one command on the words of a pool, and the call.
use Rattle.std.specs.Prelude.{ℕ, List, ◌++◌, ltb, eqb, length, drop}
use Rattle.std.proofs.Math.Option.{Option, none, some}
use Rattle.blocks.specs.Choice.{pick, both}
use Rattle.answers.specs.declared.Report.{Report}
use Rattle.answers.specs.Answers.{result_of, done, bad_batch, reply_space}
use Rattle.layout.specs.Places.{render}
use Rattle.layout.specs.WellFormed.{WellFormed}
use Rattle.layout.specs.Decode.{list_of, places_of}
use Rattle.layout.specs.Decide.{node_count}
use Rattle.verify.specs.Answers.{check_answer}
use Rattle.batch.specs.declared.Command.{Command}
use Rattle.batch.specs.declared.Read.{Read}
use Rattle.batch.specs.declared.Read.TheVariants.{Next, Bad, End}
use Rattle.batch.specs.Batch.{read_at}
use Rattle.execute.specs.Execute.{execute}
use Rattle.execute.specs.State.{State, next}
use Rattle.execute.specs.Part.{changing}
use Rattle.script.specs.Script.{script}

-- what preparing leaves: its answer with the number, and the slice
pub record Yield : Type 0 where
  pub result : Report
  pub slice : List ℕ

-- R333: a refusal leaves the slice, and its number is 0
abbrev pub refused : (answer : ℕ) → (slice : List ℕ) → Yield
refused a out = record { result = result_of a 0; slice = out }

-- R332, R333: a script for which the slice is too small is answer 4; that and done give its length in words; done leaves the rest of the
-- slice
abbrev pub yielding : (script slice : List ℕ) → Yield
yielding ss out =
    pick (ltb (length out) (length ss)) (record { result = result_of reply_space (length ss); slice = out })
    (record { result = result_of done (length ss); slice = ss ++ drop (length ss) out })

-- ONE COMMAND
-- the words that it leaves of the words of a state, in a pool of n nodes
abbrev pub words_next : (n : ℕ) → State → Command → List ℕ
words_next n s c = let t = next n s c in render t.list t.places n

-- R329, R331, R332: a command's own answer first, then the script of the words that it changes
abbrev pub preparing_over : (n : ℕ) → State → (pool slice : List ℕ) → Command → Yield
preparing_over n s ws out c =
    let own = (execute n s.list c).reply.answer in
    pick (eqb own done) (yielding (script ws (words_next n s c)) out) (refused own out)

-- the same on a well-formed pool
abbrev pub state_in : {ws : List ℕ} → WellFormed ws → State
state_in s = record { list = s.list; places = s.places }

unfoldable pub preparing : {ws : List ℕ} → WellFormed ws → (slice : List ℕ) → Command → Yield
preparing {ws} s out c = preparing_over s.n (state_in s) ws out c

-- THE CALL
-- R330: what stands at the start of some bytes is the one whole record of a changing command, and nothing follows it
abbrev pub one_of : (bytes : ℕ) → Read → Option Command
one_of k End = none
one_of k Bad = none
one_of k (Next c p) = pick (both (eqb p.at k) (changing c)) (some c) none

unfoldable pub the_one : (bytes : List ℕ) → Option Command
the_one bs = one_of (length bs) (read_at bs 0)

-- R330: else 3
abbrev pub preparing_one : (n : ℕ) → State → (pool slice : List ℕ) → Option Command → Yield
preparing_one n s ws out none = refused bad_batch out
preparing_one n s ws out (some c) = preparing_over n s ws out c

-- R330: 1 and 2, which are the check's, go first
unfoldable pub prepare : (pool bytes slice : List ℕ) → Yield
prepare ws bs out =
    pick (eqb (check_answer ws) done)
    (preparing_one (node_count ws) (record { list = list_of ws; places = places_of ws }) ws out (the_one bs))
    (refused (check_answer ws) out)
