-- Scripts in numbers: what comes out stands here.
use mathlib.Core.Path.{◌≡◌, refl}
use mathlib.Core.List.{[], ◌∷◌}
use lib.ListN.{replicate}
use Rattle.script.specs.Script.{script_from, script, applied, apply_answer}
use Rattle.script.specs.Claims.{cut_off, wrote_some}

-- four words of which the second and the last change; nothing, if none does
pub script_in_numbers : (script (7 ∷ 5 ∷ 0 ∷ 9 ∷ []) (7 ∷ 6 ∷ 0 ∷ 0 ∷ []) ≡ 1 ∷ 6 ∷ 3 ∷ 0 ∷ [])
    × (script (7 ∷ 5 ∷ []) (7 ∷ 5 ∷ []) ≡ [])
unfolding script_from
script_in_numbers = (refl, refl)

-- a place may come twice, and need not rise: the last write stays
pub applied_in_numbers : (applied (7 ∷ 5 ∷ 0 ∷ []) (2 ∷ 8 ∷ 0 ∷ 1 ∷ 2 ∷ 9 ∷ []) ≡ 1 ∷ 5 ∷ 9 ∷ [])
    × (cut_off (1 ∷ 0 ∷ []) (7 ∷ 5 ∷ 0 ∷ 9 ∷ []) (1 ∷ 6 ∷ 3 ∷ 0 ∷ []) ≡ 7 ∷ 6 ∷ 0 ∷ 9 ∷ [])
    × (wrote_some (1 ∷ []) (7 ∷ 5 ∷ 0 ∷ 9 ∷ []) (1 ∷ 6 ∷ 3 ∷ 0 ∷ []) ≡ 7 ∷ 5 ∷ 0 ∷ 0 ∷ [])
applied_in_numbers = (refl, refl, refl)

-- the smallest pool, of 74 words: its last place, the one behind it, half a pair, no pair; and a pool of 73 words
pub answers_in_numbers : (apply_answer (replicate 74 0) (73 ∷ 5 ∷ []) ≡ 0) × (apply_answer (replicate 74 0) (74 ∷ 5 ∷ []) ≡ 17)
    × (apply_answer (replicate 74 0) (73 ∷ []) ≡ 17) × (apply_answer (replicate 74 0) [] ≡ 0)
    × (apply_answer (replicate 73 0) (74 ∷ []) ≡ 1)
answers_in_numbers = (refl, refl, refl, refl, refl)
