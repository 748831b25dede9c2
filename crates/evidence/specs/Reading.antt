-- What the functions that read a sheet record by record promise each other.
use Rattle.std.specs.Prelude.{ℕ, ◌+◌, ◌≡◌, true, false, List, eqb, Option, None, Some, MatchOption}
use Rattle.std.specs.Option.{option_or}
use Rattle.blocks.specs.Choice.{pick}
use Rattle.evidence.specs.Sheets.{body_bytes, is_record, index_at, text_at, Span}

-- the bytes of the record at a place, if there is a whole one
abbrev pub SizeAt : List ℕ → ℕ → Option ℕ → Type 0
SizeAt s at r = MatchOption r (is_record s at ≡ false) (λ n. (is_record s at ≡ true) × (n ≡ 3 + body_bytes s at))

-- its text, if it names the index
abbrev pub named_at : List ℕ → (at index : ℕ) → Option Span
named_at s at i = pick (eqb (index_at s at) i) (Some (text_at s at)) None

-- what is known after the record
abbrev pub newer : List ℕ → (at index : ℕ) → Option Span → Option Span
newer s at i b = option_or (named_at s at i) b
