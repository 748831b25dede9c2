-- What the check looks at: each node by itself, with the nodes that it names. The level of a node is its shift / 6.
use Rattle.std.specs.Prelude.{ℕ, suc, ◌+◌, ◌%◌, ◌^◌, ◌≤◌, ◌<◌, ◌-◌, ◌≡◌, ◌⊎◌, ◌≢◌, Bool, not, List, eqb, length, get_or}
use Rattle.blocks.specs.Choice.{pick}
use Rattle.blocks.specs.Blocks.{bit}
use Rattle.model.specs.Model.{max_order, mark_count}
use Rattle.tree.specs.Tree.{slots, tier_order, top_tier}
use Rattle.tree.specs.Slots.{sibling_word}
use Rattle.layout.specs.Words.{count_word, max_nodes, pool_words, owner_word, filled_of}
use Rattle.layout.specs.declared.Slot.{Slot}
use Rattle.layout.specs.declared.Slot.TheVariants.{Empty, Reserved, Held, Sibling, Child}
use Rattle.layout.specs.Pool.{slot_of, slot_at, Pool, pool_of, run, Free, max_run}

-- the length is that of as many nodes as word 0 says, and n is the number of one of them
pub record HasNode (n : ℕ) (ws : List ℕ) : Type 0 where
  pub size : length ws ≡ pool_words (get_or ws count_word 0)
  pub few : get_or ws count_word 0 ≤ max_nodes
  pub node : n < get_or ws count_word 0

-- R16: at shift 60 the indices end after 16 slots
abbrev pub top_level : ℕ
top_level = top_tier - 1

abbrev pub cap : ℕ → ℕ
cap v = pick (eqb v top_level) 16 slots

-- word of shift + 1, of a node of level v
abbrev pub level_word : ℕ → ℕ
level_word v = tier_order v + 1

-- A SLOT
-- no mark on slot j of node n
abbrev pub NoMark : Pool → ℕ → ℕ → Type 0
NoMark P n j = (μ : ℕ) → μ < mark_count → bit j (P.mark n μ) ≡ 0

-- mark μ of slot j of node n is that of node m: set exactly if some slot of m has it
abbrev pub Agree : Pool → (n j m μ : ℕ) → Type 0
Agree P n j m μ = eqb (bit j (P.mark n μ)) 1 ≡ not (eqb (P.mark m μ) 0)

module _ (P : Pool) (n v j : ℕ) where
  -- an entry begins in slot j: its run is aligned, ends inside the node, and is followed by its siblings
  pub record HeldOk : Type 0 where
    pub short : tier_order v + run P n j ≤ max_order
    pub small : run P n j ≤ max_run
    pub aligned : j % 2 ^ run P n j ≡ 0
    pub ends : j + 2 ^ run P n j ≤ cap v
    pub siblings : (i : ℕ) → j < i → i < j + 2 ^ run P n j → slot_at P n i ≡ Sibling j

  -- slot j is reserved: only where an entry of order 0 could stand, without marks (R201)
  pub record ReservedOk : Type 0 where
    pub bottom : v ≡ 0
    pub unmarked : NoMark P n j
    pub alone : j + 1 < slots → P.slot n (j + 1) ≢ sibling_word j

  -- slot j is a sibling of slot o: an entry begins there, and its run reaches j
  pub record SiblingOk (o : ℕ) : Type 0 where
    pub unmarked : NoMark P n j
    pub after : o < j
    pub of_held : slot_at P n o ≡ Held
    pub in_run_lem : j < o + 2 ^ run P n o

  -- slot j leads to node m: m is of the next lower level, names this slot as its owner, and has the slot's marks
  pub record ChildOk (m : ℕ) : Type 0 where
    pub lower : ℕ
    pub is_lower : v ≡ suc lower
    pub there : m < P.count
    pub level : P.shift m ≡ level_word lower
    pub owned : P.owner m ≡ owner_word n j
    pub used : j < cap v
    pub marked : (μ : ℕ) → μ < mark_count → Agree P n j m μ

  abbrev pub SlotOk : Slot → Type 0
  SlotOk Empty = NoMark P n j
  SlotOk Reserved = ReservedOk
  SlotOk Held = HeldOk
  SlotOk (Sibling o) = SiblingOk o
  SlotOk (Child m) = ChildOk m

-- A NODE
abbrev pub SlotsOk : Pool → ℕ → ℕ → Type 0
SlotsOk P n v = (j : ℕ) → j < slots → SlotOk P n v j (slot_at P n j)

-- some slot of node n from slot a on is in use
abbrev pub UsedFrom : Pool → ℕ → ℕ → Type 0
UsedFrom P n a = (j : ℕ) × (a ≤ j) × (j < slots) × (slot_at P n j ≢ Empty)

-- node n is named by the slot that its owner word names
pub record OwnedBy (P : Pool) (n v : ℕ) : Type 0 where
  pub parent : ℕ
  pub offset : ℕ
  pub in_node : offset < slots
  pub there : parent < P.count
  pub owner_is : P.owner n ≡ owner_word parent offset
  pub above : P.shift parent ≡ level_word (suc v)
  pub holds : slot_at P parent offset ≡ Child n

abbrev pub OwnedOk : Pool → ℕ → ℕ → Type 0
OwnedOk P n v = ((P.owner n ≡ 0) × (slot_of P.head ≡ Child n)) ⊎ OwnedBy P n v

-- a node in use
pub record Live (P : Pool) (n v : ℕ) : Type 0 where
  pub level : P.shift n ≡ level_word v
  pub high : v ≤ top_level
  pub owned : OwnedOk P n v
  pub slots_ok_lem : SlotsOk P n v
  pub filled_is : P.filled n ≡ filled_of (P.slot n)
  pub used : UsedFrom P n 0

abbrev pub NodeOk : Pool → ℕ → Type 0
NodeOk P n = Free P n ⊎ ((v : ℕ) × Live P n v)

-- THE HEAD
abbrev pub mark_sum : (ℕ → Bool) → ℕ
mark_sum f = pick (f 0) 1 0 + pick (f 1) 2 0 + pick (f 2) 4 0

-- the head node h cannot be a level lower: a slot after the first is in use, or slot 0 holds an entry of a higher level
abbrev pub TallOk : Pool → ℕ → Type 0
TallOk P h = UsedFrom P h 1 ⊎ ((P.shift h ≢ 1) × (slot_at P h 0 ≡ Held))

pub record HeadNodeOk (P : Pool) (h : ℕ) : Type 0 where
  pub there : h < P.count
  pub top : ℕ
  pub live : Live P h top
  pub no_owner : P.owner h ≡ 0
  pub tall : UsedFrom P h 1 ⊎ ((top ≢ 0) × (slot_at P h 0 ≡ Held))
  pub marks_are : P.marks ≡ mark_sum (λ μ. not (eqb (P.mark h μ) 0))

abbrev pub AllFree : Pool → Type 0
AllFree P = (n : ℕ) → n < P.count → Free P n

-- by what the head's word says
abbrev pub HeadOk : Pool → Slot → Type 0
HeadOk P Empty = AllFree P × (P.marks ≡ 0)
HeadOk P Reserved = AllFree P × (P.marks ≡ 0)
HeadOk P Held = AllFree P × (P.marks < 2 ^ mark_count)
HeadOk P (Sibling o) = ⊥
HeadOk P (Child h) = HeadNodeOk P h

-- every node passes
abbrev pub NodesOk : List ℕ → Type 0
NodesOk ws = (n : ℕ) → n < get_or ws count_word 0 → NodeOk (pool_of ws) n

-- THE WHOLE
-- every word has 64 bits
pub record Fits64 (P : Pool) : Type 0 where
  pub of_slot : (n j : ℕ) → P.slot n j < 2 ^ 64
  pub of_mark : (n μ : ℕ) → P.mark n μ < 2 ^ 64
  pub of_head : P.head < 2 ^ 64

pub record Local (P : Pool) : Type 0 where
  pub fits : Fits64 P
  pub nodes : (n : ℕ) → n < P.count → NodeOk P n
  pub head_ok : HeadOk P (slot_of P.head)
