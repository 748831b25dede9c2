-- Edit scripts: the words that change between two states of a pool, and writing them (R320 to R327).
use Rattle.std.specs.Prelude.{ℕ, zero, suc, ◌%◌, Bool, true, List, [], ◌∷◌, ltb, eqb, length, get_or, set}
use Rattle.answers.specs.declared.Report.{Report}
use Rattle.answers.specs.Answers.{result_of, done, pool_length, bad_script}
use Rattle.blocks.specs.Choice.{pick, both}
use Rattle.layout.specs.Decide.{is_sized}

-- THE SCRIPT
-- R320, R321: where each word stands that differs, and what it becomes, of the n places from p on
unfoldable pub script_from : (ws ws' : List ℕ) → (p n : ℕ) → List ℕ
script_from ws ws' p zero = []
script_from ws ws' p (suc n) =
    let rest = script_from ws ws' (suc p) n in
    pick (eqb (get_or ws p 0) (get_or ws' p 0)) rest (p ∷ get_or ws' p 0 ∷ rest)

abbrev pub script : (ws ws' : List ℕ) → List ℕ
script ws ws' = script_from ws ws' 0 (length ws)

-- WRITING
-- R322: each pair in its order; half a pair at the end, which applying refuses, is none
abbrev pub applied : (ws ss : List ℕ) → List ℕ
applied ws [] = ws
applied ws (p ∷ []) = ws
applied ws (p ∷ x ∷ ss) = applied (set ws p x) ss

-- ANSWERS
-- R325: in whole pairs, and each place below n
abbrev pub places_below : ℕ → List ℕ → Bool
places_below n [] = true
places_below n (p ∷ []) = true
places_below n (p ∷ x ∷ ss) = both (ltb p n) (places_below n ss)

abbrev pub is_script : ℕ → List ℕ → Bool
is_script n ss = both (eqb (length ss % 2) 0) (places_below n ss)

-- R324, R325; the words themselves are not looked at (R326)
abbrev pub apply_answer : (ws ss : List ℕ) → ℕ
apply_answer ws ss = pick (is_sized ws) (pick (is_script (length ws) ss) done bad_script) pool_length

-- R323
abbrev pub apply_words : (ws ss : List ℕ) → List ℕ
apply_words ws ss = pick (eqb (apply_answer ws ss) done) (applied ws ss) ws

abbrev pub apply_result : (ws ss : List ℕ) → Report
apply_result ws ss = result_of (apply_answer ws ss) 0
