-- The bytes of a listing in numbers alone (R144 to R146, R202). No constant of the format is used for what comes out, so that none
-- can change here and in the code together.
use mathlib.Core.Path.{◌≡◌, refl}
use mathlib.Core.List.{[], ◌∷◌}
use lib.ListN.{replicate}
use Rattle.model.specs.declared.Entry.{Entry}
use Rattle.std.specs.Prelude.{Ok, Err}
use Rattle.listing.specs.Listing.{listing, outcome}

-- an entry, every byte of its fields its own, and a reservation
pub listing_in_bytes :
    listing
    (record { base = 0x1112131415161718; order = 0x19; word = 0x2122232425262728; marks = 0x05 }
    ∷ record { base = 0x4142434445464748; order = 0; word = 1030; marks = 0 }
    ∷ [])
    ≡ 0x20 ∷ 0x00 ∷ 0x12
    ∷ 0x11 ∷ 0x12 ∷ 0x13 ∷ 0x14 ∷ 0x15 ∷ 0x16 ∷ 0x17 ∷ 0x18
    ∷ 0x19
    ∷ 0x21 ∷ 0x22 ∷ 0x23 ∷ 0x24 ∷ 0x25 ∷ 0x26 ∷ 0x27 ∷ 0x28
    ∷ 0x05
    ∷ 0x20 ∷ 0x00 ∷ 0x12
    ∷ 0x41 ∷ 0x42 ∷ 0x43 ∷ 0x44 ∷ 0x45 ∷ 0x46 ∷ 0x47 ∷ 0x48
    ∷ 0x00
    ∷ 0x00 ∷ 0x00 ∷ 0x00 ∷ 0x00 ∷ 0x00 ∷ 0x00 ∷ 0x00 ∷ 0x00
    ∷ 0x00
    ∷ []
listing_in_bytes = refl

-- two of them take 42 bytes, and 41 are too few
pub room_in_bytes : (e f : Entry) →
    (outcome (e ∷ f ∷ []) (replicate 41 0) ≡ Err (record { entries = 2 })) × (outcome (e ∷ f ∷ []) (replicate 42 0) ≡ Ok 2)
room_in_bytes e f = (refl, refl)
