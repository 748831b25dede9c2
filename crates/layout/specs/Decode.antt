-- The list and the places that the words of a pool stand for, read off them from the head down.
use Rattle.std.specs.Prelude.{ℕ, zero, suc, ◌+◌, ◌*◌, ◌-◌, ◌/◌, ◌%◌, List, [], ◌∷◌, ◌++◌, eqb, get_or}
use Rattle.std.proofs.Math.Option.{Option, none, some}
use Rattle.blocks.specs.Choice.{pick}
use Rattle.blocks.specs.Lists.{up_to}
use Rattle.blocks.specs.Blocks.{bit}
use Rattle.model.specs.declared.Entry.{Entry}
use Rattle.tree.specs.Tree.{slot_bits, slots, tier_order, Node}
use Rattle.layout.specs.Words.{count_word}
use Rattle.layout.specs.Places.{Places}
use Rattle.layout.specs.Pool.{Slot, Empty, Reserved, Held, Sibling, Child, slot_of, child_of, slot_at, Pool, pool_of, run}

-- how many indices a slot of level v covers (the level of a node is its shift / 6, its tier less 1)
abbrev pub wide : ℕ → ℕ
wide zero = 1
wide (suc v) = wide v * slots

-- f j, f (j + 1), .., k in all, joined
unfoldable pub span : (ℕ → List Entry) → ℕ → ℕ → List Entry
span f j zero = []
span f j (suc k) = f j ++ span f (suc j) k

-- what a slot holds, by what its word says: e is the entry there, `down m c` what lies below node m over block c
abbrev pub cell : (ℕ → ℕ → List Entry) → Entry → ℕ → Slot → List Entry
cell down e c Empty = []
cell down e c Reserved = e ∷ []
cell down e c Held = e ∷ []
cell down e c (Sibling o) = []
cell down e c (Child m) = down m c

module _ (P : Pool) where
  -- THE LIST
  -- the entry in slot j of node n, of level v over block b
  abbrev pub entry_at : ℕ → ℕ → ℕ → ℕ → Entry
  entry_at v n b j =
      record {
        base = (slots * b + j) * wide v;
        order = tier_order v + run P n j;
        word = P.slot n j;
        marks = bit j (P.mark n 0) + 2 * bit j (P.mark n 1) + 4 * bit j (P.mark n 2);
      }

  -- what stands below node n, of tier h, over block b
  unfoldable pub below : ℕ → ℕ → ℕ → List Entry
  below zero n b = []
  below (suc v) n b = span (λ j. cell (below v) (entry_at v n b j) (slots * b + j) (slot_at P n j)) 0 slots

  abbrev pub cell_at : ℕ → ℕ → ℕ → ℕ → List Entry
  cell_at v n b j = cell (below v) (entry_at v n b j) (slots * b + j) (slot_at P n j)

  abbrev pub level_of : ℕ → ℕ
  level_of n = (P.shift n - 1) / slot_bits

  -- by what the head's word says
  abbrev pub list_for : Slot → List Entry
  list_for Empty = []
  list_for Reserved = record { base = 0; order = 0; word = P.head; marks = P.marks } ∷ []
  list_for Held = record { base = 0; order = 0; word = P.head; marks = P.marks } ∷ []
  list_for (Sibling o) = []
  list_for (Child m) = below (suc (level_of m)) m 0

  abbrev pub list_in : List Entry
  list_in = list_for (slot_of P.head)

  -- THE PLACES
  -- the level of the head
  abbrev pub top_of : ℕ
  top_of = level_of (child_of (slot_of P.head))

  -- the block of node m, d levels below the head: up along the owners
  abbrev pub block_of : (d m : ℕ) → ℕ
  block_of zero m = 0
  block_of (suc d) m = slots * block_of d ((P.owner m - 1) / slots) + (P.owner m - 1) % slots

  -- what stands at number m
  abbrev pub place_in : ℕ → Option Node
  place_in m =
      pick (eqb (P.shift m) 0) none
      (some (record { tier = suc (level_of m); number = block_of (top_of - level_of m) m }))

abbrev pub list_of : List ℕ → List Entry
list_of ws = list_in (pool_of ws)

abbrev pub places_of : List ℕ → Places
places_of ws = up_to (place_in (pool_of ws)) 0 (get_or ws count_word 0)
