-- What the loop over a batch's commands keeps.
use Rattle.std.specs.Prelude.{ℕ, ◌≡◌, List, length}
use Rattle.layout.specs.Places.{render}
use Rattle.layout.specs.WellFormed.{WellFormed}
use Rattle.freenodes.specs.FreeNodes.{FreeMap}
use Rattle.words.specs.Bytes.{overwrite}
use Rattle.batch.specs.declared.Command.{Command}
use Rattle.batch.specs.Batch.{Parsed, rest_at}
use Rattle.batch.specs.Reply.{encode}
use Rattle.commands.specs.Batches.{Ahead}
use Rattle.execute.specs.State.{State, states}
use Rattle.execute.specs.Promised.{state_of, reply_to, words_to}
use Rattle.calls.specs.Calls.{replies}

-- the words of a state
abbrev pub words_of : ℕ → State → List ℕ
words_of n s = render s.list s.places n

-- what a batch that runs leaves, from any well-formed pool and place on
pub record Ends {pool : List ℕ} (s : WellFormed pool) (cs : List Command) (out : ℕ) (reply pool' reply' : List ℕ) :
    Type 0
  where
    pub words_are : pool' ≡ words_of s.n (states s.n (state_of s) cs)
    pub reply_is : reply' ≡ overwrite reply out (replies s.n s.list cs)

-- one command, with its reply written at `out`
pub record Turned {pool : List ℕ} (s : WellFormed pool) (c : Command) (out : ℕ) (reply pool' reply' : List ℕ) : Type 0
  where
    pub words_are : pool' ≡ words_to s c
    pub reply_is : reply' ≡ overwrite reply out (encode (reply_to s c))

-- between two commands: what is left of the batch leads to what the whole batch leads to
pub record Running (pool₀ reply₀ batch pool map reply : List ℕ) (at out : ℕ) : Type 0 where
  pub formed : WellFormed pool
  pub mapped : FreeMap pool map
  pub ahead : Ahead batch at (length reply) out
  pub same_length : length reply ≡ length reply₀
  pub leads : (s₀ : WellFormed pool₀) (cs : List Command) → rest_at batch 0 ≡ Parsed.commands cs →
      (pool' reply' : List ℕ) → Ends formed ahead.rest out reply pool' reply' → Ends s₀ cs 0 reply₀ pool' reply'
