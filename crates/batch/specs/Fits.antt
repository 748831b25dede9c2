-- Commands whose fields are 64-bit numbers.
use Rattle.std.specs.Prelude.{◌^◌, ◌<◌}
use Rattle.batch.specs.Batch.{Command, Store, Load, Erase, Mark, Unmark, Find, Reserve}

-- the fields that a list or a reply can come to hold: the index and the word of a store, the last index and the budget
-- of a find, the index of a reservation
abbrev pub Fits : Command → Type 0
Fits (Store i k w) = (i < 2 ^ 64) × (w < 2 ^ 64)
Fits (Load i) = Unit
Fits (Erase i) = Unit
Fits (Mark i m) = Unit
Fits (Unmark i m) = Unit
Fits (Find a z f k) = (z < 2 ^ 64) × (k < 2 ^ 16)
Fits (Reserve i) = i < 2 ^ 64
