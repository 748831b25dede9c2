-- What the check and clear answer, and the words that clear leaves.
use Rattle.std.specs.Prelude.{ℕ, ◌-◌, List, ◌∷◌, replicate}
use Rattle.blocks.specs.Choice.{pick}
use Rattle.answers.specs.Answers.{done, pool_length, not_well_formed}
use Rattle.assoc_layout.specs.Words.{pool_words}
use Rattle.assoc_layout.specs.Decode.{block_count, is_sized, is_well_formed}

-- R360, R361, R363
abbrev pub check_answer : List ℕ → ℕ
check_answer ws = pick (is_sized ws) (pick (is_well_formed (block_count ws) ws) done not_well_formed) pool_length

-- R362
abbrev pub clear_answer : List ℕ → ℕ
clear_answer ws = pick (is_sized ws) done pool_length

abbrev pub empty_pool : ℕ → List ℕ
empty_pool n = n ∷ replicate (pool_words n - 1) 0

abbrev pub clear_words : List ℕ → List ℕ
clear_words ws = pick (is_sized ws) (empty_pool (block_count ws)) ws
