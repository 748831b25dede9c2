-- The listing (P1: the list of evidence): the entries between two indices, as bytes (R143 to R146).
use Rattle.std.specs.Prelude.{ℕ, ◌*◌, Bool, Result, Ok, Err, List, [], ◌∷◌, ◌++◌, leb, length, drop}
use Rattle.blocks.specs.Choice.{pick}
use Rattle.blocks.specs.Lists.{keep}
use Rattle.model.specs.declared.Entry.{Entry}
use Rattle.model.specs.Model.{shown, meets}
use Rattle.words.specs.Bytes.{bytes_then}
pub use Rattle.listing.specs.declared.Short.{Short}

-- R143: those whose run meets first .. last, in the order of the list
abbrev pub listed : List Entry → (first last : ℕ) → List Entry
listed l a z = keep (meets a z) l

-- R144
abbrev pub listed_tag : ℕ
listed_tag = 32

abbrev pub listed_length : ℕ
listed_length = 18

-- the bytes of an entry, with its tag and length; of a reservation with entry 0 (R202)
abbrev pub entry_bytes : ℕ
entry_bytes = 21

abbrev pub encode_entry : Entry → List ℕ
encode_entry e =
    bytes_then 1 listed_tag
    (bytes_then 2 listed_length
    (bytes_then 8 e.base
    (bytes_then 1 e.order
    (bytes_then 8 (shown e)
    (bytes_then 1 e.marks [])))))

abbrev pub listing : List Entry → List ℕ
listing [] = []
listing (e ∷ es) = encode_entry e ++ listing es

-- R145: all or nothing
abbrev pub fits : List Entry → List ℕ → Bool
fits es bs = leb (entry_bytes * length es) (length bs)

-- what it comes to, with the number of entries
abbrev pub outcome : List Entry → List ℕ → Result ℕ Short
outcome es bs = pick (fits es bs) (Ok (length es)) (Err (record { entries = length es }))

-- the buffer afterwards: the bytes past the list stay (R146)
abbrev pub filled_with : List Entry → List ℕ → List ℕ
filled_with es bs = pick (fits es bs) (listing es ++ drop (entry_bytes * length es) bs) bs
