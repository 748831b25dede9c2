-- The text of an index in a base sheet and a supplement (R252 to R259).
use Rattle.std.specs.Prelude.{ℕ, zero, suc, ◌+◌, ◌-◌, Bool, List, [], ◌∷◌, leb, eqb, length, get_or}
use Rattle.std.proofs.Math.Option.{Option, none, some}
use Rattle.blocks.specs.Choice.{pick, both}
use Rattle.words.specs.Bytes.{number_at}
use Rattle.std.specs.Prelude as rust
use Rattle.std.specs.Prelude.{None, Some, Ok, Err}
pub use Rattle.evidence.specs.declared.Span.{Span}
pub use Rattle.evidence.specs.declared.Malformed.{Malformed}
pub use Rattle.evidence.specs.declared.Found.{Found}
pub use Rattle.evidence.specs.declared.Found.TheVariants.{Nowhere, InBase, InSupplement, BadSheet}

-- A RECORD (R253): tag 48, a length of two bytes, the index in 8, the text
-- its length: that of index and text
abbrev pub body_bytes : List ℕ → ℕ → ℕ
body_bytes s at = number_at s (at + 1) 2

-- the record at a place has none of the defects of R254
abbrev pub is_record : List ℕ → ℕ → Bool
is_record s at =
    both (leb (at + 3) (length s))
    (both (eqb (get_or s at 0) 48) (both (leb 8 (body_bytes s at)) (leb (at + 3 + body_bytes s at) (length s))))

abbrev pub index_at : List ℕ → ℕ → ℕ
index_at s at = number_at s (at + 3) 8

-- where its text stands, and its length
abbrev pub text_at : List ℕ → ℕ → Span
text_at s at = record { place = at + 11; size = body_bytes s at - 8 }

-- A SHEET (R252)
-- where its records begin, in order, from a place on, at most n of them; none where one is malformed
abbrev pub onto : ℕ → Option (List ℕ) → Option (List ℕ)
onto at none = none
onto at (some ats) = some (at ∷ ats)

unfoldable pub records_from : List ℕ → (n at : ℕ) → Option (List ℕ)
records_from s zero at = some []
records_from s (suc n) at =
    pick (leb (length s) at) (some [])
    (pick (is_record s at) (onto at (records_from s n (at + (3 + body_bytes s at)))) none)

-- to the sheet's end: a record has at least one byte, so as many records as bytes are left, and the end, are enough
unfoldable pub rest_at : List ℕ → ℕ → Option (List ℕ)
rest_at s at = records_from s (suc (length s - at)) at

-- R255: a later record of the index takes an earlier one's place
abbrev pub latest : List ℕ → ℕ → List ℕ → rust.Option Span → rust.Option Span
latest s i [] b = b
latest s i (at ∷ ats) b = latest s i ats (pick (eqb (index_at s at) i) (Some (text_at s at)) b)

-- what a look-up in one sheet comes to: no text of the index, or the last, or that the sheet is malformed
abbrev pub Sought : Type 0
Sought = rust.Result (rust.Option Span) Malformed

abbrev pub malformed : Sought
malformed = Err (record {})

abbrev pub sought_in : List ℕ → ℕ → rust.Option Span → Option (List ℕ) → Sought
sought_in s i b none = malformed
sought_in s i b (some ats) = Ok (latest s i ats b)

unfoldable pub seek : List ℕ → ℕ → Sought
seek s i = sought_in s i None (rest_at s 0)

-- BOTH SHEETS (R256 to R259): the supplement before the base sheet; a malformed one, either, before all
abbrev pub together : (base supplement : Sought) → Found
together (Err e) s = BadSheet
together (Ok b) (Err e) = BadSheet
together (Ok b) (Ok (Some t)) = InSupplement t.place t.size
together (Ok (Some t)) (Ok None) = InBase t.place t.size
together (Ok None) (Ok None) = Nowhere

unfoldable pub look : (base supplement : List ℕ) → (index : ℕ) → Found
look b s i = together (seek b i) (seek s i)
