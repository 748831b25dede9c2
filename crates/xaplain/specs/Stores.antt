-- What a store comes to, and what the functions that store promise each other.
use Rattle.std.specs.Prelude.{ℕ, ◌≤◌, ◌<◌, ◌≡◌, false, List, ltb, length, get_or, Option, None, Some, MatchOption}
use Rattle.std.proofs.Math.Option.{some}
use Rattle.blocks.specs.Choice.{pick}
use Rattle.blocks.specs.Blocks.{set_bit}
use Rattle.answers.specs.Answers.{too_few_nodes}
use Rattle.model.specs.declared.Entry.{Entry}
use Rattle.model.specs.Model.{covering, matched_mark}
use Rattle.batch.specs.Reply.{answered, answered_by}
pub use Rattle.xaplain.specs.declared.Stored.{Stored}
use Rattle.xaplain.specs.declared.Turned.{Turned}
use Rattle.xaplain.specs.Moves.{Holds, Reaches, Unreached, Columns}

-- entry j is over i, and its order is k or more
pub record Over (index order : List ℕ) (n i k j : ℕ) : Type 0 where
  pub reaches : Reaches index order n i j
  pub large : k ≤ get_or order j 0

-- none is: none is over i, or the order of the one that is is smaller
pub data NoneOver (index order : List ℕ) (n i k : ℕ) : Type 0 where
  uncovered : Unreached index order n i → NoneOver index order n i k
  smaller : (j : ℕ) → Reaches index order n i j → get_or order j 0 < k → NoneOver index order n i k

-- the number of that entry, if there is one
abbrev pub Larger : (index order : List ℕ) → (n i k : ℕ) → Option ℕ → Type 0
Larger is os n i k r = MatchOption r (NoneOver is os n i k) (Over is os n i k)

-- `with_word`, of the entry at a place
abbrev pub entry_with : (index order marks : List ℕ) → (j w : ℕ) → Entry
entry_with is os ms j w =
    record { base = get_or is j 0; order = get_or os j 0; word = w; marks = set_bit matched_mark false (get_or ms j 0) }

-- an entry covers the index in the list that the store leaves, which has room
pub record Leaves (room i : ℕ) (new : List Entry) (s : Stored) : Type 0 where
  pub fits : length new ≤ room
  pub covers : covering new i ≡ some s.entry
  pub count : s.count ≡ length new

-- the outcome, by the list that the store would leave, and the slices after it
pub record Stores {is os ws ms : List ℕ} {n : ℕ} (h : Holds is os ws ms n) (i : ℕ) (new : List Entry) (r : Option Stored)
    (is' os' ws' ms' : List ℕ) : Type 0
  where
    pub outcome : MatchOption r (length is < length new) (Leaves (length is) i new)
    pub columns : Columns is' os' ws' ms' (length is) (pick (ltb (length is) (length new)) h.list new)

-- what a command comes to
abbrev pub refused_by : (tag answer count : ℕ) → Turned
refused_by t a n = record { reply = answered t a 0 0; count = n }

abbrev pub turned_by : (tag count : ℕ) → Option Stored → Turned
turned_by t n None = refused_by t too_few_nodes n
turned_by t n (Some s) = record { reply = answered_by t s.entry 0; count = s.count }
