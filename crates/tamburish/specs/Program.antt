-- What the program writes: the replies of a run on a pool just initialised, or the record of its refusal (R56, R230).
use Rattle.std.specs.Prelude.{ℕ, zero, suc, ◌+◌, ◌*◌, ◌/◌, ◌%◌, List, [], ◌∷◌, ◌++◌, ltb, length, drop}
use Rattle.blocks.specs.Choice.{pick}
use Rattle.batch.specs.Batch.{Parsed, Parsed.commands, Parsed.refused, parse}
use Rattle.calls.specs.Calls.{Called, refuse_call, replies, run}
use Rattle.answers.specs.Answers.{bad_batch}
use Rattle.calls.specs.Demand.{Call.init, words_after}

-- R230: the longest batch that the program takes
abbrev pub max_input : ℕ
max_input = 8192

-- the call: a batch that is too long is refused; else the pool is initialised, then the batch runs
unfoldable pub ran : (pool batch reply : List ℕ) → Called
ran ws bs rs = pick (ltb max_input (length bs)) (refuse_call ws rs bad_batch max_input) (run (words_after ws init) bs rs)

abbrev pub refusal_size : ℕ
refusal_size = 6

-- R56: tag 255, length 3, the answer, and the place in two bytes
abbrev pub refusal_bytes : (answer place : ℕ) → List ℕ
refusal_bytes a p = 255 ∷ 0 ∷ 3 ∷ a % 256 ∷ p / 256 % 256 ∷ p % 256 ∷ []

-- it stands over the first bytes of the reply space
unfoldable pub refusal_over : (answer place : ℕ) → List ℕ → List ℕ
refusal_over a p rs = refusal_bytes a p ++ drop refusal_size rs

-- by the answer and the number of the call: how many bytes are written, and the reply space of which they are the first
abbrev pub size_for : (answer number : ℕ) → ℕ
size_for zero k = 24 * k
size_for (suc a) p = refusal_size

abbrev pub space_for : (answer number : ℕ) → List ℕ → List ℕ
space_for zero k rs = rs
space_for (suc a) p rs = refusal_over (suc a) p rs

abbrev pub size : Called → ℕ
size c = size_for c.result.answer c.result.number

abbrev pub space : Called → List ℕ
space c = space_for c.result.answer c.result.number c.reply

-- WHAT THE PROGRAM WRITES, by the bytes that it read alone
-- R3
abbrev pub program_nodes : ℕ
program_nodes = 40

-- the program reads up to one byte more than it takes, so that a longer batch is seen to be too long
abbrev pub input_bytes : ℕ
input_bytes = max_input + 1

-- 24 bytes for each of the 744 commands that fit into 8,192 bytes, the shortest having 11
abbrev pub output_bytes : ℕ
output_bytes = 17856

-- the replies of the model on a pool of 40 nodes, from an empty list on

abbrev pub written_for : Parsed → List ℕ
written_for (refused at) = refusal_bytes bad_batch at
written_for (commands cs) = replies program_nodes [] cs

-- R56, R230
abbrev pub written : List ℕ → List ℕ
written bs = pick (ltb max_input (length bs)) (refusal_bytes bad_batch max_input) (written_for (parse bs))
