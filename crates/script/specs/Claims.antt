-- What R321 to R328 say of scripts, of applying and of power cuts, one by one. Assumes nothing: these are definitions.
use Rattle.std.specs.Prelude.{ℕ, zero, suc, ◌+◌, ◌*◌, ◌%◌, ◌≤◌, ◌<◌, ◌≡◌, List, [], ◌∷◌, eqb, length, get_or, set}
use Rattle.blocks.specs.Choice.{pick}
use Rattle.layout.specs.WellFormed.{Sized}
use Rattle.script.specs.Script.{applied}

-- R321: each place is at least n, and above the one before it
pub data Rising : ℕ → List ℕ → Type 0 where
  r_end : {n : ℕ} → Rising n []
  r_more : {n p x : ℕ} {ss : List ℕ} → n ≤ p → Rising (suc p) ss → Rising n (p ∷ x ∷ ss)

-- how many of the n places from p on differ
abbrev pub changes_from : (ws ws' : List ℕ) → (p n : ℕ) → ℕ
changes_from ws ws' p zero = 0
changes_from ws ws' p (suc n) =
    let rest = changes_from ws ws' (suc p) n in pick (eqb (get_or ws p 0) (get_or ws' p 0)) rest (suc rest)

-- POWER CUTS
-- R327: the first k writes of a script, each of a whole word
abbrev pub applied_first : (k : ℕ) → (ws ss : List ℕ) → List ℕ
applied_first zero ws ss = ws
applied_first (suc k) ws [] = ws
applied_first (suc k) ws (p ∷ []) = ws
applied_first (suc k) ws (p ∷ x ∷ ss) = applied_first k (set ws p x) ss

-- R327: power goes after so many writes, again and again; the script is begun anew each time
abbrev pub cut_off : (ks ws ss : List ℕ) → List ℕ
cut_off [] ws ss = ws
cut_off (k ∷ ks) ws ss = cut_off ks (applied_first k ws ss) ss

-- R328: the write of pair k alone, and any of them in any order, also more than once
abbrev pub wrote : (k : ℕ) → (ws ss : List ℕ) → List ℕ
wrote k ws [] = ws
wrote k ws (p ∷ []) = ws
wrote zero ws (p ∷ x ∷ ss) = set ws p x
wrote (suc k) ws (p ∷ x ∷ ss) = wrote k ws ss

abbrev pub wrote_some : (ks ws ss : List ℕ) → List ℕ
wrote_some [] ws ss = ws
wrote_some (k ∷ ks) ws ss = wrote_some ks (wrote k ws ss) ss

-- R328: every word that the script from ws to ws' does not write is as it was; those that it writes may hold anything
pub record Partly (ws ws' v : List ℕ) : Type 0 where
  pub size : length v ≡ length ws
  pub kept : (j : ℕ) → get_or ws j 0 ≡ get_or ws' j 0 → get_or v j 0 ≡ get_or ws' j 0

-- THE ANSWERS OF APPLYING
-- R325: pair k, whole, has a place outside the pool
pub record OutsideAt (ws ss : List ℕ) (k : ℕ) : Type 0 where
  pub whole : 2 * k + 1 < length ss
  pub outside : length ws ≤ get_or ss (2 * k) 0

-- a row for each way that a call goes: its answer, and the words after it (R322 to R326)
pub data ApplyRow (ws ss : List ℕ) : (answer : ℕ) → (words : List ℕ) → Type 0 where
  wrong_size : ((n : ℕ) → Sized n ws → ⊥) → ApplyRow ws ss 1 ws
  half_pair : (n : ℕ) → Sized n ws → (length ss % 2 ≡ 0 → ⊥) → ApplyRow ws ss 17 ws
  place_out : (n k : ℕ) → Sized n ws → OutsideAt ws ss k → ApplyRow ws ss 17 ws
  written : (n : ℕ) → Sized n ws → length ss % 2 ≡ 0 → ((k : ℕ) → OutsideAt ws ss k → ⊥) → ApplyRow ws ss 0 (applied ws ss)
