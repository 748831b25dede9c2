-- What the functions that read a node promise.
use Rattle.std.specs.Prelude.{ℕ, ◌%◌, ◌≤◌, ◌<◌, ◌≡◌, Bool, true, false, List, get_or}
pub use Rattle.blocks.specs.Deciding.{Decides}
use Rattle.layout.specs.Words.{place, slot_place}
use Rattle.layout.specs.Pool.{Slot, Empty, Reserved, Held, Sibling, Child, slot_of}

-- what a slot says, or its word, leads to a node
abbrev pub is_child : Slot → Bool
is_child Empty = false
is_child Reserved = false
is_child Held = false
is_child (Sibling o) = false
is_child (Child m) = true

abbrev pub is_node : ℕ → Bool
is_node w = is_child (slot_of w)

-- the word is that of a sibling slot, of a reservation or of a node
abbrev pub Internal : ℕ → Type 0
Internal w = w % 4 ≡ 2

module _ (ws : List ℕ) (n : ℕ) where
  -- the words of node n from field a up to field b are 0
  abbrev pub Blank : ℕ → ℕ → Type 0
  Blank a b = (f : ℕ) → a ≤ f → f < b → get_or ws (place n f) 0 ≡ 0

  -- its slots from slot o up to slot e are empty
  abbrev pub Vacant : ℕ → ℕ → Type 0
  Vacant o e = (j : ℕ) → o ≤ j → j < e → get_or ws (slot_place n j) 0 ≡ 0

  -- none of them has an internal word
  abbrev pub Plain : ℕ → ℕ → Type 0
  Plain o e = (j : ℕ) → o ≤ j → j < e → Internal (get_or ws (slot_place n j) 0) → ⊥

  -- r is the first of them that is not empty, or e
  pub record NextFilled (o e r : ℕ) : Type 0 where
    pub from : o ≤ r
    pub to : r ≤ e
    pub empty : Vacant o r
    pub ends : r < e → get_or ws (slot_place n r) 0 ≡ 0 → ⊥
