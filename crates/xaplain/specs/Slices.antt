-- A list in four slices (R300 to R304): each entry's fields stand at its number in the list, and zeros after the last.
use Rattle.std.specs.Prelude.{ℕ, zero, suc, ◌+◌, ◌-◌, ◌^◌, ◌≤◌, ◌≡◌, Bool, true, List, [], ◌∷◌, leb, eqb, ltb, length, get_or}
use Rattle.blocks.specs.Choice.{pick, both}
use Rattle.answers.specs.Answers.{done, pool_length, not_well_formed}
use Rattle.model.specs.declared.Entry.{Entry}
use Rattle.model.specs.Model.{Valid, max_order, aligned, is_word_ok}

-- index, order, word and marks
pub record Slices : Type 0 where
  pub index : List ℕ
  pub order : List ℕ
  pub word : List ℕ
  pub marks : List ℕ

abbrev pub slices : (index order word marks : List ℕ) → Slices
slices is os ws ms = record { index = is; order = os; word = ws; marks = ms }

-- R300: no more entries than this in each
abbrev pub max_room : ℕ
max_room = 4096

-- WRITING: one field of each entry, and zeros, to the length of the slice
abbrev pub column : (Entry → ℕ) → (room : ℕ) → List Entry → List ℕ
column f zero l = []
column f (suc r) [] = 0 ∷ column f r []
column f (suc r) (e ∷ l) = f e ∷ column f r l

-- R301: the slices of a list
abbrev pub columns : (room : ℕ) → List Entry → Slices
columns r l = slices (column (λ e. e.base) r l) (column (λ e. e.order) r l) (column (λ e. e.word) r l) (column (λ e. e.marks) r l)

-- the slices hold this list, in so many places
pub record Prescribes (room : ℕ) (l : List Entry) (s : Slices) : Type 0 where
  pub valid : Valid l
  pub fits : length l ≤ room
  pub slices_are : s ≡ columns room l

-- READING: the entries before the first word 0
abbrev pub entry_at : (index order word marks : List ℕ) → ℕ → Entry
entry_at is os ws ms k = record { base = get_or is k 0; order = get_or os k 0; word = get_or ws k 0; marks = get_or ms k 0 }

abbrev pub entries_from : (index order word marks : List ℕ) → (n k : ℕ) → List Entry
entries_from is os ws ms zero k = []
entries_from is os ws ms (suc n) k =
    pick (eqb (get_or ws k 0) 0) [] (entry_at is os ws ms k ∷ entries_from is os ws ms n (suc k))

unfoldable pub list_of : (index order word marks : List ℕ) → List Entry
list_of is os ws ms = entries_from is os ws ms (length is) 0

-- THE CHECK: an entry of 64-bit words that a list may hold
abbrev pub fits_entry : Entry → Bool
fits_entry e = both (leb e.order max_order) (both (aligned e.order e.base) (both (is_word_ok e) (ltb e.marks 8)))

unfoldable pub in_order : (low : ℕ) → List Entry → Bool
in_order low [] = true
in_order low (e ∷ l) = both (leb low e.base) (both (fits_entry e) (in_order (e.base + 2 ^ e.order) l))

-- zeros from a place on
unfoldable pub zeros_from : List ℕ → (n k : ℕ) → Bool
zeros_from xs zero k = true
zeros_from xs (suc n) k = both (eqb (get_or xs k 0) 0) (zeros_from xs n (suc k))

abbrev pub rest_zero : List ℕ → ℕ → Bool
rest_zero xs k = zeros_from xs (length xs - k) k

abbrev pub all_zero : (index order word marks : List ℕ) → ℕ → Bool
all_zero is os ws ms n = both (rest_zero is n) (both (rest_zero os n) (both (rest_zero ws n) (rest_zero ms n)))

-- R303: four slices of one length hold a list and then zeros
abbrev pub holds_list : (index order word marks : List ℕ) → Bool
holds_list is os ws ms = both (in_order 0 (list_of is os ws ms)) (all_zero is os ws ms (length (list_of is os ws ms)))

-- R302: of one length, at most 4,096
abbrev pub sized_as : (index order word marks : List ℕ) → Bool
sized_as is os ws ms =
    both (leb (length is) max_room)
    (both (eqb (length os) (length is)) (both (eqb (length ws) (length is)) (eqb (length ms) (length is))))

-- WHAT THE CALLS GO BY
abbrev pub room_of : Slices → ℕ
room_of s = length s.index

abbrev pub list_in : Slices → List Entry
list_in s = list_of s.index s.order s.word s.marks

abbrev pub is_sized : Slices → Bool
is_sized s = sized_as s.index s.order s.word s.marks

abbrev pub check_answer : Slices → ℕ
check_answer s =
    pick (is_sized s) (pick (holds_list s.index s.order s.word s.marks) done not_well_formed) pool_length

abbrev pub init_answer : Slices → ℕ
init_answer s = pick (is_sized s) done pool_length

-- R304
abbrev pub init_slices : Slices → Slices
init_slices s = pick (is_sized s) (columns (room_of s) []) s
