-- The words of a pool by name, and what the word of a slot says.
use Rattle.std.specs.Prelude.{ℕ, zero, suc, ◌+◌, ◌*◌, ◌-◌, ◌/◌, ◌%◌, ◌^◌, ◌<◌, ◌≡◌, List, ltb, eqb, get_or}
use Rattle.blocks.specs.Choice.{pick, both}
use Rattle.model.specs.Model.{reserved_word, mark_count}
use Rattle.tree.specs.Tree.{slot_bits, slots}
use Rattle.tree.specs.Slots.{node_offset, sibling_word}
use Rattle.layout.specs.Words.{
  count_word,
  head_word,
  marks_word,
  place,
  shift_field,
  owner_field,
  filled_field,
  mark_field,
  slot_field,
}
pub use Rattle.layout.specs.declared.Slot.{Slot}
pub use Rattle.layout.specs.declared.Slot.TheVariants.{Empty, Reserved, Held, Sibling, Child}

-- an entry of a node takes fewer than all its slots
abbrev pub max_run : ℕ
max_run = slot_bits - 1

-- R31, R200 read backwards
unfoldable pub slot_of : ℕ → Slot
slot_of w =
    pick (eqb w 0) Empty
    (pick (eqb (w % 4) 2)
    (pick (eqb w reserved_word) Reserved
    (pick (ltb w (4 * node_offset)) (Sibling (w / 4)) (Child (w / 4 - node_offset)))) Held)

-- the node that a slot leads to; 0 if it leads to none
abbrev pub child_of : Slot → ℕ
child_of Empty = 0
child_of Reserved = 0
child_of Held = 0
child_of (Sibling o) = 0
child_of (Child m) = m

-- 1 for the word of a sibling slot, which is below that of a reservation, else 0
abbrev pub sibling_bit : ℕ → ℕ
sibling_bit w = pick (both (eqb (w % 4) 2) (ltb w reserved_word)) 1 0

-- the words of a pool
pub record Pool : Type 0 where
  pub count : ℕ
  pub head : ℕ
  pub marks : ℕ
  pub shift : ℕ → ℕ
  pub owner : ℕ → ℕ
  pub filled : ℕ → ℕ
  pub mark : ℕ → ℕ → ℕ
  pub slot : ℕ → ℕ → ℕ

abbrev pub pool_of : List ℕ → Pool
pool_of ws =
    record {
      count = get_or ws count_word 0;
      head = get_or ws head_word 0;
      marks = get_or ws marks_word 0;
      shift = λ n. get_or ws (place n shift_field) 0;
      owner = λ n. get_or ws (place n owner_field) 0;
      filled = λ n. get_or ws (place n filled_field) 0;
      mark = λ n m. get_or ws (place n (mark_field + m)) 0;
      slot = λ n j. get_or ws (place n (slot_field + j)) 0;
    }

-- a free node (R30)
pub record Free (P : Pool) (n : ℕ) : Type 0 where
  pub shift_is : P.shift n ≡ 0
  pub owner_is : P.owner n ≡ 0
  pub filled_is : P.filled n ≡ 0
  pub marks_are : (m : ℕ) → m < mark_count → P.mark n m ≡ 0
  pub slots_are : (j : ℕ) → j < slots → P.slot n j ≡ 0

module _ (P : Pool) where
  abbrev pub slot_at : ℕ → ℕ → Slot
  slot_at n j = slot_of (P.slot n j)

  -- the entry in slot j of node n takes 2^r slots, r at most max_run: the siblings at distances 1, 2, 4, ..
  abbrev pub run_from : ℕ → ℕ → (fuel r : ℕ) → ℕ
  run_from n j zero r = r
  run_from n j (suc k) r =
      let next = run_from n j k (suc r) in
      pick (both (ltb (j + 2 ^ r) slots) (eqb (P.slot n (j + 2 ^ r)) (sibling_word j))) next r

  unfoldable pub run : ℕ → ℕ → ℕ
  run n j = run_from n j max_run 0
