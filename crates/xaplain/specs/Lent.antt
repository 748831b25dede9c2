-- What the structs `Entries` and `EntriesMut` show: the four slices that they lend, to read and to write.
use Rattle.std.specs.Prelude.{ℕ, ◌≡◌, ◌<◌, List, length, Option}
use Rattle.model.specs.declared.Entry.{Entry}
use Rattle.batch.specs.declared.Command.{Command}
pub use Rattle.xaplain.specs.declared.Entries.{Entries}
pub use Rattle.xaplain.specs.declared.EntriesMut.{EntriesMut}
use Rattle.xaplain.specs.declared.Turned.{Turned}
use Rattle.xaplain.specs.declared.Stored.{Stored}
use Rattle.xaplain.specs.Slices.{Slices, slices, entry_at}
use Rattle.xaplain.specs.Moves.{Holds, Columns}
use Rattle.xaplain.specs.Stores.{Stores}
use Rattle.xaplain.specs.Executes.{Executes}

-- TO READ
abbrev pub lent : Entries → Slices
lent s = slices s.index.now s.order.now s.word.now s.marks.now

-- they hold a list of n entries
abbrev pub Held : Entries → (n : ℕ) → Type 0
Held s n = Holds s.index.now s.order.now s.word.now s.marks.now n

-- they are of one length
abbrev pub Even : Entries → Type 0
Even s = (length s.order.now ≡ length s.index.now) × (length s.word.now ≡ length s.index.now) × (length s.marks.now ≡ length s.index.now)

-- place k is in each
abbrev pub Within : Entries → (k : ℕ) → Type 0
Within s k = (k < length s.index.now) × (k < length s.order.now) × (k < length s.word.now) × (k < length s.marks.now)

abbrev pub entry_in : Entries → (k : ℕ) → Entry
entry_in s k = entry_at s.index.now s.order.now s.word.now s.marks.now k

-- TO WRITE
abbrev pub lent_mut : EntriesMut → Slices
lent_mut s = slices s.index.now s.order.now s.word.now s.marks.now

abbrev pub room_in : EntriesMut → ℕ
room_in s = length s.index.now

-- they hold a list of n entries
abbrev pub HeldMut : EntriesMut → (n : ℕ) → Type 0
HeldMut s n = Holds s.index.now s.order.now s.word.now s.marks.now n

-- place k is in each
abbrev pub WithinMut : EntriesMut → (k : ℕ) → Type 0
WithinMut s k = (k < length s.index.now) × (k < length s.order.now) × (k < length s.word.now) × (k < length s.marks.now)

-- they hold this list, in so many places
abbrev pub Listed : EntriesMut → (room : ℕ) → List Entry → Type 0
Listed s r l = Columns s.index.now s.order.now s.word.now s.marks.now r l

-- they are the slices that were lent, whatever they hold: who lent them needs it
abbrev pub Kept : (s s' : EntriesMut) → Type 0
Kept s s' = (s'.index.ghost_name ≡ s.index.ghost_name) × (s'.order.ghost_name ≡ s.order.ghost_name)
    × (s'.word.ghost_name ≡ s.word.ghost_name) × (s'.marks.ghost_name ≡ s.marks.ghost_name)

-- what a store and a command leave in them
abbrev pub StoresIn : {is os ws ms : List ℕ} {n : ℕ} (h : Holds is os ws ms n) (i : ℕ) (new : List Entry) (r : Option Stored) → EntriesMut → Type 0
StoresIn h i new r s = Stores h i new r s.index.now s.order.now s.word.now s.marks.now

abbrev pub ExecutesIn : {is os ws ms : List ℕ} {n : ℕ} (h : Holds is os ws ms n) (c : Command) (r : Turned) → EntriesMut → Type 0
ExecutesIn h c r s = Executes h c r s.index.now s.order.now s.word.now s.marks.now

-- the same slices, lent to read
pub record Shown (s : Entries) (t : EntriesMut) : Type 0 where
  pub index_is : s.index.now ≡ t.index.now
  pub order_is : s.order.now ≡ t.order.now
  pub word_is : s.word.now ≡ t.word.now
  pub marks_are : s.marks.now ≡ t.marks.now
