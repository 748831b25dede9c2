-- Sheets and what is found in them, in numbers alone (R252 to R260).
use mathlib.Core.Path.{◌≡◌, refl}
use mathlib.Core.List.{List, [], ◌∷◌}
use Prim.Native.Nat.{ℕ}
use Rattle.evidence.specs.Sheets.{records_from, rest_at, seek, look, InBase, InSupplement, Nowhere, BadSheet}

-- index 7 with the text 1 2 3, index 8 with 9, and index 7 again with 4 5: 14, 12 and 13 bytes
abbrev base : List ℕ
base =
    48 ∷ 0 ∷ 11 ∷ 0 ∷ 0 ∷ 0 ∷ 0 ∷ 0 ∷ 0 ∷ 0 ∷ 7 ∷ 1 ∷ 2 ∷ 3
    ∷ 48 ∷ 0 ∷ 9 ∷ 0 ∷ 0 ∷ 0 ∷ 0 ∷ 0 ∷ 0 ∷ 0 ∷ 8 ∷ 9
    ∷ 48 ∷ 0 ∷ 10 ∷ 0 ∷ 0 ∷ 0 ∷ 0 ∷ 0 ∷ 0 ∷ 0 ∷ 7 ∷ 4 ∷ 5 ∷ []

-- index 8 with no text
abbrev later : List ℕ
later = 48 ∷ 0 ∷ 8 ∷ 0 ∷ 0 ∷ 0 ∷ 0 ∷ 0 ∷ 0 ∷ 0 ∷ 8 ∷ []

-- another tag, a length of 7, and a record that lacks a byte
abbrev tag_49 : List ℕ
tag_49 = 49 ∷ 0 ∷ 8 ∷ 0 ∷ 0 ∷ 0 ∷ 0 ∷ 0 ∷ 0 ∷ 0 ∷ 8 ∷ []

abbrev length_7 : List ℕ
length_7 = 48 ∷ 0 ∷ 7 ∷ 0 ∷ 0 ∷ 0 ∷ 0 ∷ 0 ∷ 0 ∷ 0 ∷ []

abbrev cut : List ℕ
cut = 48 ∷ 0 ∷ 9 ∷ 0 ∷ 0 ∷ 0 ∷ 0 ∷ 0 ∷ 0 ∷ 0 ∷ 8 ∷ []

pub found_in_bytes : (look base [] 7 ≡ InBase 37 2) × (look base [] 8 ≡ InBase 25 1) × (look base later 8 ≡ InSupplement 11 0) × (look base later 9 ≡ Nowhere)
unfolding look seek rest_at records_from
found_in_bytes = (refl, refl, refl, refl)

pub damage_in_bytes : (look base tag_49 7 ≡ BadSheet) × (look base length_7 7 ≡ BadSheet) × (look base cut 7 ≡ BadSheet) × (look cut later 8 ≡ BadSheet)
unfolding look seek rest_at records_from
damage_in_bytes = (refl, refl, refl, refl)
