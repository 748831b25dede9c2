-- What the check and init answer, and the words that init leaves.
use Rattle.std.specs.Prelude.{ℕ, ◌-◌, List, ◌∷◌, replicate, Option, Some, None}
use Rattle.blocks.specs.Choice.{pick}
use Rattle.model.specs.declared.Entry.{Entry}
use Rattle.layout.specs.Words.{pool_words}
use Rattle.layout.specs.WellFormed.{Sized, Prescribed}
use Rattle.layout.specs.Decide.{node_count, is_sized, is_well_formed}
use Rattle.layout.specs.Decode.{list_of, places_of}
use Rattle.layout.specs.Places.{Places}
use Rattle.answers.specs.Answers.{done, pool_length, not_well_formed}

-- R69, R70, R84
abbrev pub check_answer : List ℕ → ℕ
check_answer ws = pick (is_sized ws) (pick (is_well_formed (node_count ws) ws) done not_well_formed) pool_length

abbrev pub init_answer : List ℕ → ℕ
init_answer ws = pick (is_sized ws) done pool_length

-- R38
abbrev pub empty_pool : ℕ → List ℕ
empty_pool n = n ∷ replicate (pool_words n - 1) 0

abbrev pub init_words : List ℕ → List ℕ
init_words ws = pick (is_sized ws) (empty_pool (node_count ws)) ws

-- the number of nodes that the length makes room for; none if it is not a pool's
abbrev pub Counts : List ℕ → Option ℕ → Type 0
Counts ws None = (n : ℕ) → Sized n ws → ⊥
Counts ws (Some n) = Sized n ws

-- what each answer of the check means (AnswerLaws has it of `check_answer`)
pub data Verdict (ws : List ℕ) : ℕ → Type 0 where
  well_formed_lem : (n : ℕ) → Sized n ws → Prescribed n (list_of ws) (places_of ws) ws → Verdict ws 0
  wrong_size : ((n : ℕ) → Sized n ws → ⊥) → Verdict ws 1
  malformed : (n : ℕ) → Sized n ws → ((l : List Entry) (os : Places) → Prescribed n l os ws → ⊥) → Verdict ws 2
