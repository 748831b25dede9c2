-- Reading a batch (document 01: a sheet), R42 to R48.
use Rattle.std.specs.Prelude.{ℕ, zero, suc, ◌+◌, ◌-◌, Bool, not, List, [], ◌∷◌, leb, ltb, eqb, length, get_or, Result, Ok, Err}
use Rattle.blocks.specs.Choice.{pick, both}
use Rattle.words.specs.Bytes.{number_at}
pub use Rattle.batch.specs.declared.Command.{Command}
pub use Rattle.batch.specs.declared.Command.TheVariants.{Store, Load, Erase, Mark, Unmark, Find, Reserve}
pub use Rattle.batch.specs.declared.Cursor.{Cursor}
pub use Rattle.batch.specs.declared.Read.{Read}
pub use Rattle.batch.specs.declared.Read.TheVariants.{Next, Bad, End}
pub use Rattle.batch.specs.declared.BadRecord.{BadRecord}

-- R43
abbrev pub max_batch : ℕ
max_batch = 32768

-- R42: tag and length
abbrev pub head_bytes : ℕ
head_bytes = 3

-- THE TABLE OF COMMANDS (R44 to R48, R204)
-- the length of a record's fields, by tag; no command has 0
abbrev pub field_bytes : ℕ → ℕ
field_bytes tag =
    pick (eqb tag 1) 17
    (pick (eqb tag 2) 8
    (pick (eqb tag 3) 8
    (pick (eqb tag 4) 9
    (pick (eqb tag 5) 9
    (pick (eqb tag 6) 19
    (pick (eqb tag 7) 8 0))))))

-- the command of a tag whose fields begin at a place
abbrev pub command_at : List ℕ → ℕ → ℕ → Command
command_at s tag at =
    pick (eqb tag 1) (Store (number_at s at 8) (number_at s (at + 8) 1) (number_at s (at + 9) 8))
    (pick (eqb tag 2) (Load (number_at s at 8))
    (pick (eqb tag 3) (Erase (number_at s at 8))
    (pick (eqb tag 4) (Mark (number_at s at 8) (number_at s (at + 8) 1))
    (pick (eqb tag 5) (Unmark (number_at s at 8) (number_at s (at + 8) 1))
    (pick (eqb tag 6)
    (Find (number_at s at 8) (number_at s (at + 8) 8) (number_at s (at + 16) 1) (number_at s (at + 17) 2))
    (Reserve (number_at s at 8)))))))

-- RECORDS
-- the record at a place has none of the defects of R71
abbrev pub is_record : List ℕ → ℕ → Bool
is_record s at =
    both (leb (at + head_bytes) (length s))
    (both (not (eqb (field_bytes (get_or s at 0)) 0))
    (both (eqb (number_at s (at + 1) 2) (field_bytes (get_or s at 0)))
    (leb (at + head_bytes + field_bytes (get_or s at 0)) (length s))))

abbrev pub next_at : List ℕ → ℕ → Cursor
next_at s at = record { at = at + head_bytes + field_bytes (get_or s at 0) }

unfoldable pub read_at : List ℕ → ℕ → Read
read_at s at =
    pick (leb (length s) at) End
    (pick (is_record s at) (Next (command_at s (get_or s at 0) (at + head_bytes)) (next_at s at)) Bad)

-- THE BATCH
-- its commands in order, or the place of the first bad record
pub data Parsed : Type 0 where
  commands : List Command → Parsed
  refused : ℕ → Parsed

abbrev pub cons_to : Command → Parsed → Parsed
cons_to c (commands cs) = commands (c ∷ cs)
cons_to c (refused at) = refused at

abbrev pub parse_read : Read → ℕ → (ℕ → Parsed) → Parsed
parse_read End at rest = commands []
parse_read Bad at rest = refused at
parse_read (Next c k) at rest = cons_to c (rest k.at)

-- from a place on, at most n records
unfoldable pub parse_from : List ℕ → (n at : ℕ) → Parsed
parse_from s zero at = commands []
parse_from s (suc n) at = parse_read (read_at s at) at (λ next. parse_from s n next)

-- to the batch's end: a record has at least one byte, so as many records as bytes are left, and the end, are enough
unfoldable pub rest_at : List ℕ → ℕ → Parsed
rest_at s at = parse_from s (suc (length s - at)) at

-- R71: the place of the first bad record
unfoldable pub parse : List ℕ → Parsed
parse s = pick (ltb max_batch (length s)) (refused max_batch) (rest_at s 0)

-- how many commands, or the place
abbrev pub counted : Parsed → Result ℕ BadRecord
counted (commands cs) = Ok (length cs)
counted (refused at) = Err (record { at = at })
