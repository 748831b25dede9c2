-- The nodes that go, as a map of bits, and the words after the command by this map.
use Rattle.std.specs.Prelude.{ℕ, ◌≤◌, ◌<◌, ◌≡◌, List, length, get_or, Option, MatchOption}
use Rattle.freemap.specs.FreeMap.{map_nodes, map_words, map_bit}
use Rattle.layout.specs.Words.{anchor_words, place, count_word, IsField}
use Rattle.layout.specs.WellFormed.{WellFormed}
use Rattle.script_table.specs.Table.{row_count}
use Rattle.script_wide.specs.Wide.{GoesAt, NoRow}

-- a node of the map goes, and of those below n that are not in it none does
pub record Going {ws : List ℕ} (s : WellFormed ws) (ms : List ℕ) (i k n : ℕ) : Type 0 where
  pub long : length ms ≡ map_words
  pub on : (m : ℕ) → m < map_nodes → map_bit ms m ≡ 1 → GoesAt s i k m
  pub off : (m : ℕ) → m < n → map_bit ms m ≡ 0 → GoesAt s i k m → ⊥

-- no node of the map lies from m on, below x
pub record Clear (ms : List ℕ) (m x : ℕ) : Type 0 where
  pub each : (y : ℕ) → m ≤ y → y < x → map_bit ms y ≡ 0

-- the least node of the map from m on, if one lies below end
abbrev pub NextGoing : (ms : List ℕ) (m end : ℕ) → Option ℕ → Type 0
NextGoing ms m end o = MatchOption o (Clear ms m end) (λ r. (m ≤ r) × (r < end) × (map_bit ms r ≡ 1) × Clear ms m r)

-- as Wide, where the nodes of the map are those that go
pub record WideBy (ws rs ns ms ws' : List ℕ) : Type 0 where
  pub anchor : (p : ℕ) → p < anchor_words → get_or ws' p 0 ≡ get_or rs p 0
  pub row : (r : ℕ) → r < row_count → get_or ns r 0 < get_or ws count_word 0 → (f : ℕ) → IsField f →
      get_or ws' (place (get_or ns r 0) f) 0 ≡ get_or rs (place r f) 0
  pub gone : (m : ℕ) → m < get_or ws count_word 0 → NoRow ns m → map_bit ms m ≡ 1 → (f : ℕ) → IsField f → get_or ws' (place m f) 0 ≡ 0
  pub rest : (m : ℕ) → m < get_or ws count_word 0 → NoRow ns m → map_bit ms m ≡ 0 → (f : ℕ) → IsField f →
      get_or ws' (place m f) 0 ≡ get_or ws (place m f) 0
