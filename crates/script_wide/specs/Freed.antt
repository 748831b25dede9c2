-- Nodes without a row, and the room that their part of the script needs.
use Rattle.std.specs.Prelude.{ℕ, ◌+◌, ◌-◌, ◌≤◌, ◌<◌, ◌≡◌, List, length, get_or}
use Rattle.freemap.specs.FreeMap.{map_bit}
use Rattle.layout.specs.Words.{place, pool_words, IsField}
use Rattle.script.specs.Script.{script_from, script}
use Rattle.script_wide.specs.Going.{WideBy}

-- node m is free
pub record Gone (ws' : List ℕ) (m : ℕ) : Type 0 where
  pub zeros : (f : ℕ) → IsField f → get_or ws' (place m f) 0 ≡ 0

-- node m is free if it is in the map, and else stays
pub record Freed (ws ms ws' : List ℕ) (m : ℕ) : Type 0 where
  pub gone : map_bit ms m ≡ 1 → Gone ws' m
  pub rest : map_bit ms m ≡ 0 → (f : ℕ) → IsField f → get_or ws' (place m f) 0 ≡ get_or ws (place m f) 0

-- the nodes from m on, below m'
pub record AllFreed (ws ms ws' : List ℕ) (m m' : ℕ) : Type 0 where
  pub each : (x : ℕ) → m ≤ x → x < m' → Freed ws ms ws' x

-- the script has r words after the places from p on, below p', where it has k before them
pub record Counted (ws ws' : List ℕ) (p p' k r : ℕ) : Type 0 where
  pub sum : r + length (script_from ws ws' p' (length ws - p')) ≡ k + length (script_from ws ws' p (length ws - p))

-- there are such words, and the script from node m on fits into a slice, from t on
pub record GoneFits (ws : List ℕ) (m t : ℕ) (out : List ℕ) : Type 0 where
  pub words : List ℕ
  pub gone : Gone words m
  pub room : t + length (script_from ws words (pool_words m) (length ws - pool_words m)) ≤ length out

pub record FreedFits (ws ms : List ℕ) (m m' t : ℕ) (out : List ℕ) : Type 0 where
  pub words : List ℕ
  pub freed : AllFreed ws ms words m m'
  pub room : t + length (script_from ws words (pool_words m) (length ws - pool_words m)) ≤ length out

pub record NodeFits (ws rs ns ms : List ℕ) (m t : ℕ) (out : List ℕ) : Type 0 where
  pub words : List ℕ
  pub wide : WideBy ws rs ns ms words
  pub room : t + length (script_from ws words (pool_words m) (length ws - pool_words m)) ≤ length out

-- and the whole script
pub record WideFits (ws rs ns ms out : List ℕ) : Type 0 where
  pub words : List ℕ
  pub wide : WideBy ws rs ns ms words
  pub room : length (script ws words) ≤ length out
