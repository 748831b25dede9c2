-- What a step over the slots of a node shows.
use Rattle.std.specs.Prelude.{ℕ, ◌+◌, ◌*◌, ◌%◌, ◌^◌, ◌≤◌, ◌<◌, ◌≡◌, ◌≢◌, not, eqb}
use Rattle.blocks.specs.Blocks.{bit, count_to}
use Rattle.tree.specs.Tree.{slots}
use Rattle.layout.specs.declared.Slot.TheVariants.{Held}
use Rattle.layout.specs.Words.{filled_of}
use Rattle.layout.specs.Pool.{Pool, slot_at, run, max_run}
use Rattle.local.specs.Local.{NoMark, SlotOk, SlotsOk, cap}

-- bit j of m is 0 exactly if slot j of node n has no mark
pub record AllMarks (P : Pool) (n m : ℕ) : Type 0 where
  pub fits : m < 2 ^ 64
  pub clear : (j : ℕ) → bit j m ≡ 0 → NoMark P n j
  pub cleared : (j : ℕ) → NoMark P n j → bit j m ≡ 0

-- how many slots of node n before slot j are filled
abbrev pub filled_to : Pool → (n j : ℕ) → ℕ
filled_to P n = count_to (λ o. not (eqb (P.slot n o) 0))

-- the runs of the entries before slot j of node n end by it
abbrev pub Past : Pool → (n j : ℕ) → Type 0
Past P n j = (o : ℕ) → o < j → slot_at P n o ≡ Held → o + 2 ^ run P n o ≤ j

-- r slots of node n from slot j on are as they must be, at least one; all of them are filled, or none
pub record Stepped (P : Pool) (n v j r : ℕ) : Type 0 where
  pub some : 0 < r
  pub inside : j + r ≤ slots
  pub good : (k : ℕ) → j ≤ k → k < j + r → SlotOk P n v k (slot_at P n k)
  pub alike : (k : ℕ) → j ≤ k → k < j + r → eqb (P.slot n k) 0 ≡ eqb (P.slot n j) 0
  pub past : Past P n (j + r)

-- the slots of node n are as they must be, and k of them filled
pub record SlotsFilled (P : Pool) (n v k : ℕ) : Type 0 where
  pub slots_ok_lem : SlotsOk P n v
  pub filled_is : k ≡ filled_of (P.slot n)

-- r slots are slot j and those after it that have the word w
pub record SameSlots (P : Pool) (n j w r : ℕ) : Type 0 where
  pub some : 0 < r
  pub inside : j + r ≤ slots
  pub all : (i : ℕ) → j < i → i < j + r → P.slot n i ≡ w
  pub ends : j + r < slots → P.slot n (j + r) ≢ w

-- an entry may take r slots
abbrev pub Power : ℕ → Type 0
Power r = (k : ℕ) × (k ≤ max_run) × (r ≡ 2 ^ k)

-- an entry of a node of level v may take r slots from slot j on
pub record RunFits (v j r : ℕ) : Type 0 where
  pub power : Power r
  pub short : 2 * r ≤ cap v
  pub aligned : j % r ≡ 0
  pub ends : j + r ≤ cap v
