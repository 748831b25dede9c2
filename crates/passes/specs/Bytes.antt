-- What the bytes of a node's slots show.
use Rattle.std.specs.Prelude.{ℕ, ◌+◌, ◌*◌, ◌-◌, ◌/◌, ◌%◌, ◌≤◌, ◌<◌, ◌≡◌, ◌≢◌, Bool, true, not, List, eqb, ltb, length, get_or}
use Rattle.std.specs.Int.Bits.{bit_and, bit_or}
use Rattle.blocks.specs.Choice.{pick}
use Rattle.blocks.specs.Blocks.{bit}
use Rattle.model.specs.Model.{reserved_word}
use Rattle.tree.specs.Tree.{slots}
use Rattle.layout.specs.declared.Slot.TheVariants.{Child}
use Rattle.layout.specs.Pool.{Pool, slot_at}
use Rattle.layout.specs.Reading.{Internal}
use Rattle.local.specs.Local.{ChildOk}
use Rattle.steps.specs.Steps.{filled_to}

-- a short number for each word: all of it if it is small, else 8192 with its two lowest bits
abbrev pub short_of : ℕ → ℕ
short_of w = pick (ltb w 8192) w (8192 + w % 4)

-- ss has the short numbers of the slots of node n before slot j
pub record Shorts (P : Pool) (n j : ℕ) (ss : List ℕ) : Type 0 where
  pub size : length ss ≡ slots
  pub each : (i : ℕ) → i < j → get_or ss i 0 ≡ short_of (P.slot n i)

-- the byte of a slot: 0 if it is empty, 1 for an entry, the word of a sibling, all of it, and t for every other internal word
abbrev pub byte_by : (t w : ℕ) → ℕ
byte_by t w = pick (eqb (w % 4) 2) (pick (ltb w 256) w t) (pick (not (eqb w 0)) 1 0)

-- in a leaf, with 4 for a reservation
abbrev pub byte_of : ℕ → ℕ
byte_of = byte_by 4

-- above the leaves, with 5 for a node
abbrev pub upper_byte_of : ℕ → ℕ
upper_byte_of = byte_by 5

-- internal words that no leaf has, and that no node above the leaves has, if they are no sibling's
abbrev pub not_leaf : ℕ → Bool
not_leaf w = not (eqb w reserved_word)

abbrev pub not_upper : ℕ → Bool
not_upper w = ltb w 4096

-- by the byte of an internal word that is no sibling's
abbrev pub large_at : ℕ → ℕ → Bool
large_at t = pick (eqb t 4) not_leaf not_upper

-- r is 1 for a filled slot with the word w and 0 for an empty one; more than slots for an internal word that is too large
pub record Weighs (large : ℕ → Bool) (w r : ℕ) : Type 0 where
  pub few : r ≤ slots + 1
  pub is : r ≤ slots → r ≡ pick (not (eqb w 0)) 1 0
  pub small : r ≤ slots → Internal w → large w ≡ true → w < 256

-- a byte for each slot, with one more at each end
pub record Framed (bs : List ℕ) : Type 0 where
  pub size : length bs ≡ 66
  pub first : get_or bs 0 0 ≡ 0
  pub last : get_or bs 65 0 ≡ 0

-- bs has the bytes of the slots of node n before slot j; c of these are filled, or more than slots, and no internal word is too large
pub record Bytes (byte : ℕ → ℕ) (large : ℕ → Bool) (P : Pool) (n j : ℕ) (bs : List ℕ) (c : ℕ) : Type 0 where
  pub framed : Framed bs
  pub few : c ≤ (slots + 1) * j
  pub each : (i : ℕ) → i < j → get_or bs (i + 1) 0 ≡ byte (P.slot n i)
  pub count : c ≤ slots → c ≡ filled_to P n j
  pub small : c ≤ slots → (i : ℕ) → i < j → Internal (P.slot n i) → large (P.slot n i) ≡ true → P.slot n i < 256

-- the same, of any node whose short numbers are ss
abbrev pub BytesFrom : (byte : ℕ → ℕ) (large : ℕ → Bool) → List ℕ → ℕ → List ℕ → ℕ → Type 0
BytesFrom byte large ss j bs c = (P : Pool) (n : ℕ) → Shorts P n slots ss → Bytes byte large P n j bs c

-- 0 if slots o to j are as many as a power of two up to 32, and aligned
abbrev pub unfit_of : ℕ → ℕ → ℕ
unfit_of o j = let q = (j + 64 - o) % 64 in bit_or (bit_or (bit_and (q + 1) q) (bit_and o q)) (q / 32)

-- x is the byte of slot j, y and z those of the slots beside it: a sibling follows its entry or an equal sibling, and the last one ends
-- what may be a run
pub record Chained (y x z j : ℕ) : Type 0 where
  pub follows : x / 2 % 2 ≡ 1 → x ≢ y → (y ≡ 1) × (x / 4 + 1 ≡ j)
  pub closed : x / 2 % 2 ≡ 1 → z ≢ x → unfit_of (x / 4) j ≡ 0

abbrev pub ChainedTo : List ℕ → ℕ → Type 0
ChainedTo bs j = (i : ℕ) → i < j → Chained (get_or bs i 0) (get_or bs (i + 1) 0) (get_or bs (i + 2) 0) i

-- each slot before slot j that has a mark in m has an entry or leads to a node
abbrev pub HeldTo : List ℕ → (m j : ℕ) → Type 0
HeldTo bs m j = (i : ℕ) → i < j → get_or bs (i + 1) 0 % 4 ≢ 1 → bit i m ≡ 0

-- bs has the bytes of all slots of node n; k of these are filled, no internal word is too large, and no slot is at fault
pub record Good (byte : ℕ → ℕ) (large : ℕ → Bool) (P : Pool) (n : ℕ) (bs : List ℕ) (k : ℕ) : Type 0 where
  pub few : k ≤ slots
  pub bytes : Bytes byte large P n slots bs k
  pub chained : ChainedTo bs slots

-- no slot before slot j leads to a node
abbrev pub NoneLead : List ℕ → ℕ → Type 0
NoneLead bs j = (i : ℕ) → i < j → get_or bs (i + 1) 0 ≢ 5

-- slot j, where it leads to a node, may do so
abbrev pub LeadsOk : Pool → (n v j : ℕ) → Type 0
LeadsOk P n v j = (d : ℕ) → slot_at P n j ≡ Child d → ChildOk P n v j d

-- so may each slot before slot j
abbrev pub ChildrenTo : Pool → (n v j : ℕ) → Type 0
ChildrenTo P n v j = (i : ℕ) → i < j → LeadsOk P n v i
