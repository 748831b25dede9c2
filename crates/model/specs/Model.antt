-- The model (document 01: the plain list): entries, and what store, erase and mark make of them (R6 to R15).
--
-- an entry    storable, reserved, enterable: its word; aligned: its index; covers, meets: its range; EntryOk: that it is one
-- the list    Sorted, Valid; covering: the entry over an index; present: the same, but for reservations; starts, within; marks_of
-- store       clear, new_entry, kept_marks: what gives way and what is kept; store_new, with_word: a new entry, an old one's word; store
-- the rest    erase, remark
use Rattle.std.specs.Prelude.{ℕ, ◌+◌, ◌*◌, ◌%◌, ◌^◌, ◌≤◌, ◌<◌, ◌≡◌, Bool, false, not, List, [], ◌∷◌, map, leb, ltb, eqb, T}
use Rattle.std.proofs.Math.Option.{Option, none, some}
use Rattle.std.specs.Prelude as rust
use Rattle.blocks.specs.Choice.{pick, both, either}
use Rattle.blocks.specs.Lists.{any, keep, without, first}
use Rattle.blocks.specs.Blocks.{block, bit, set_bit}
pub use Rattle.model.specs.declared.Entry.{Entry}

-- AN ENTRY
-- R6: odd, or a multiple of 4 and not 0
abbrev pub storable : ℕ → Bool
storable w = both (not (eqb w 0)) (not (eqb (w % 4) 2))

-- R200: the word of a reservation, XArray's zero entry (internal 257); no store carries it
abbrev pub reserved_word : ℕ
reserved_word = 1030

abbrev pub reserved : Entry → Bool
reserved e = eqb e.word reserved_word

-- the word of a new entry of order k (R6), or of a new reservation
abbrev pub enterable : (k w : ℕ) → Bool
enterable k w = either (storable w) (both (eqb w reserved_word) (eqb k 0))

-- R6, R200: a reservation is of order 0, without marks
abbrev pub is_word_ok : Entry → Bool
is_word_ok e = either (storable e.word) (both (reserved e) (both (eqb e.order 0) (eqb e.marks 0)))

-- R202: the word that a host is shown
abbrev pub shown : Entry → ℕ
shown e = pick (reserved e) 0 e.word

-- R7
abbrev pub max_order : ℕ
max_order = 63

-- R180: a multiple of 2^k
abbrev pub aligned : (k i : ℕ) → Bool
aligned k i = eqb (i % 2 ^ k) 0

-- R9
abbrev pub mark_count : ℕ
mark_count = 3

-- R190: the mark that no store hands on
abbrev pub matched_mark : ℕ
matched_mark = 2

-- R7: the index lies in the aligned block that begins at the base
abbrev pub covers : ℕ → Entry → Bool
covers i e = eqb (block e.order i) (block e.order e.base)

-- the run meets first .. last, both included (R143)
abbrev pub meets : (first last : ℕ) → Entry → Bool
meets a z e = both (leb e.base z) (ltb a (e.base + 2 ^ e.order))

-- R9: the marks as bits of a byte
abbrev pub has_mark : ℕ → Entry → Bool
has_mark m e = eqb (bit m e.marks) 1

pub record EntryOk (e : Entry) : Type 0 where
  pub order_le : e.order ≤ max_order
  pub aligned : block e.order e.base * 2 ^ e.order ≡ e.base
  pub in_range : e.base < 2 ^ 64
  pub word_ok : T (is_word_ok e)
  pub word_fits : e.word < 2 ^ 64
  pub marks_fit : e.marks < 2 ^ mark_count

-- THE LIST
-- ordered by index (R90) and without overlap (R8): the first entry starts at n or later
pub data Sorted : ℕ → List Entry → Type 0 where
  done : {n : ℕ} → Sorted n []
  more : {n : ℕ} {e : Entry} {l : List Entry} →
      n ≤ e.base → EntryOk e → Sorted (e.base + 2 ^ e.order) l → Sorted n (e ∷ l)

abbrev pub Valid : List Entry → Type 0
Valid l = Sorted 0 l

-- the entry that covers an index
abbrev pub covering : List Entry → ℕ → Option Entry
covering l i = first (covers i) l

-- R203: what load, find, mark and unmark see there
abbrev pub present : Option Entry → Option Entry
present none = none
present (some e) = pick (reserved e) none (some e)

-- as a command hands it back: Rust's Option
abbrev pub covered : Option Entry → rust.Option Entry
covered none = rust.None
covered (some e) = rust.Some e

-- the entry starts in block c of order j
abbrev pub starts : ℕ → ℕ → Entry → Bool
starts j c e = eqb (block j e.base) c

-- the entry lies in block c of order j, and its order is smaller
abbrev pub within : ℕ → ℕ → Entry → Bool
within j c e = both (ltb e.order j) (starts j c e)

-- the OR of the marks of all entries
abbrev pub mark_of : ℕ → List Entry → ℕ
mark_of m l = pick (any (has_mark m) l) (2 ^ m) 0

abbrev pub marks_of : List Entry → ℕ
marks_of l = mark_of 0 l + mark_of 1 l + mark_of 2 l

-- STORE of order k at an aligned index i; its target range (document 01: the asked run) is i .. i + 2^k - 1 (R10)
-- the entry starts in it
abbrev pub starts_in : (i k : ℕ) → Entry → Bool
starts_in i k e = both (leb i e.base) (ltb e.base (i + 2 ^ k))

-- the entries that do, and the list without them
abbrev pub inside : List Entry → ℕ → ℕ → List Entry
inside l i k = keep (starts_in i k) l

abbrev pub clear : List Entry → ℕ → ℕ → List Entry
clear l i k = without (starts_in i k) l

abbrev pub insert : Entry → List Entry → List Entry
insert e [] = e ∷ []
insert e (x ∷ xs) = pick (ltb e.base x.base) (e ∷ x ∷ xs) (x ∷ insert e xs)

-- R14, R190: marks 0 and 1 of what it replaces; mark 2 is clear
abbrev pub kept_marks : List Entry → ℕ
kept_marks l = mark_of 0 l + mark_of 1 l

abbrev pub new_entry : List Entry → ℕ → ℕ → ℕ → Entry
new_entry l i k w = record { base = i; order = k; word = w; marks = kept_marks (inside l i k) }

-- R12
abbrev pub store_new : List Entry → ℕ → ℕ → ℕ → List Entry
store_new l i k w = insert (new_entry l i k w) (clear l i k)

-- R11: such an entry
abbrev pub over : ℕ → ℕ → Entry → Bool
over i k e = both (covers i e) (leb k e.order)

-- R11, R190: it takes the word, and mark 2 is clear
abbrev pub with_word : ℕ → ℕ → Entry → Entry
with_word i w e =
    record {
      base = e.base;
      order = e.order;
      word = pick (covers i e) w e.word;
      marks = pick (covers i e) (set_bit matched_mark false e.marks) e.marks;
    }

abbrev pub store : List Entry → ℕ → ℕ → ℕ → List Entry
store l i k w = pick (any (over i k) l) (map (with_word i w) l) (store_new l i k w)

-- ERASE, MARK, UNMARK
-- R15: they concern the entry that covers the index
-- (erase also a reservation)
abbrev pub erase : List Entry → ℕ → List Entry
erase l i = without (covers i) l

-- R203: a reservation takes no mark
abbrev pub takes_mark : ℕ → Entry → Bool
takes_mark i e = both (covers i e) (not (reserved e))

abbrev pub with_mark : ℕ → ℕ → Bool → Entry → Entry
with_mark i m b e =
    record {
      base = e.base;
      order = e.order;
      word = e.word;
      marks = pick (takes_mark i e) (set_bit m b e.marks) e.marks;
    }

-- mark m of the entry that covers i is set, or cleared
abbrev pub remark : List Entry → ℕ → ℕ → Bool → List Entry
remark l i m b = map (with_mark i m b) l
