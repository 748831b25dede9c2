-- The comparison as R165 and R166 word it. Assumes nothing: these are definitions.
use Rattle.std.specs.Prelude.{◌≡◌, ◌⊎◌, List, ℕ, ◌<◌, length, get_or}

-- R166: both longer than 0, the lengths equal, and all bytes
pub record Match (old new : List ℕ) : Type 0 where
  pub old_some : 0 < length old
  pub new_some : 0 < length new
  pub lengths : length old ≡ length new
  pub bytes : (i : ℕ) → i < length old → get_or old i 0 ≡ get_or new i 0

-- R165: either is empty
abbrev pub AnyEmpty : (old new : List ℕ) → Type 0
AnyEmpty old new = (length old ≡ 0) ⊎ (length new ≡ 0)
