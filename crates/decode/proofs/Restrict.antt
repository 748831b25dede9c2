-- A device of these proofs: the tree of a list by restriction of the list to a block, level by level, and the words it
-- prescribes. A list in a node's block is, slot by slot, what the words say, so that decoding and prescribing go by the
-- same recursion. That it is the tree of `Tree` on valid lists is shown in SameTree.
use Prim.Native.Nat.{ℕ, zero, suc, ◌+◌, ◌*◌, ◌-◌, ◌/◌, ◌%◌, ◌^◌, ◌≤◌, ◌<◌}
use mathlib.Core.Path.{◌≡◌}
use mathlib.Core.Bool.{Bool, true}
use mathlib.Core.List.{List, [], ◌∷◌}
use mathlib.Core.Option.{Option, none, some}
use lib.Dec.{leb, ltb, eqb, T}
use Rattle.blocks.specs.Choice.{pick, both}
use Rattle.blocks.specs.Lists.{any, keep, first}
use Rattle.model.specs.declared.Entry.{Entry}
use Rattle.model.specs.Model.{is_word_ok, covers, has_mark, marks_of, max_order}
use Rattle.tree.specs.Tree.{height, tier_order, slots}
use Rattle.tree.specs.Slots.{node_word, sibling_word, Numbering}
use Rattle.layout.specs.Words.{filled_of}
use Rattle.layout.specs.Pool.{slot_of, child_of, Pool, Free, slot_at}
use Rattle.layout.specs.Decode.{wide, level_of}

abbrev pub in_block : ℕ → ℕ → Entry → Bool
in_block w c e = eqb (e.base / w) c

-- the entries whose base lies in the aligned block number c of w indices
abbrev pub part : ℕ → ℕ → List Entry → List Entry
part w c l = keep (in_block w c) l

abbrev pub low_order : ℕ → Entry → Bool
low_order h e = ltb e.order (tier_order h)

abbrev pub has_level : List Entry → ℕ → ℕ → Bool
has_level l v b = both (ltb v (height l)) (any (low_order (suc v)) (part (wide (suc v)) b l))

abbrev pub sibling_of : ℕ → Option Entry → ℕ
sibling_of v none = 0
sibling_of v (some e) = sibling_word (e.base / wide v % slots)

-- the number whose k bits are t j, t (j + 1), ..
unfoldable pub bits_of : (ℕ → Bool) → ℕ → ℕ → ℕ
bits_of t j zero = 0
bits_of t j (suc k) = pick (t j) 1 0 + 2 * bits_of t (suc j) k

module _ (l : List Entry) (ν : Numbering) where
  abbrev pub part_word : ℕ → ℕ → List Entry → ℕ
  part_word v c [] = sibling_of v (first (covers (c * wide v)) (part (wide (suc v)) (c / slots) l))
  part_word v c (e ∷ r) = pick (leb (tier_order v) e.order) e.word (node_word (ν (v - 1) c))

  abbrev pub level_slot : ℕ → ℕ → ℕ
  level_slot v c = part_word v c (part (wide v) c l)

  abbrev pub level_mark : ℕ → ℕ → ℕ → Bool
  level_mark m v c = any (has_mark m) (part (wide v) c l)

  abbrev pub level_marks : ℕ → ℕ → ℕ → ℕ
  level_marks m v b = bits_of (λ j. level_mark m v (slots * b + j)) 0 slots

  abbrev pub level_owner : ℕ → ℕ → ℕ
  level_owner v b = pick (eqb (suc v) (height l)) 0 (1 + slots * ν (suc v) (b / slots) + b % slots)

abbrev pub lone_word : List Entry → ℕ
lone_word [] = 0
lone_word (e ∷ r) = e.word

abbrev pub head_slot : List Entry → Numbering → ℕ → ℕ
head_slot l ν zero = lone_word l
head_slot l ν (suc v) = node_word (ν v 0)

-- a valid list: in index order, apart, and each entry as it must be
pub record EntryGood (e : Entry) : Type 0 where
  pub order_le : e.order ≤ max_order
  pub aligned : e.base % 2 ^ e.order ≡ 0
  pub word_ok : T (is_word_ok e)
  pub word_fits : e.word < 2 ^ 64
  pub marks_fit : e.marks < 8

abbrev pub Chain : ℕ → List Entry → ℕ → Type 0
Chain lo [] hi = lo ≤ hi
Chain lo (e ∷ l) hi = (lo ≤ e.base) × EntryGood e × Chain (e.base + 2 ^ e.order) l hi

-- the words of the node at level v, block b
pub record NodeIs (P : Pool) (l : List Entry) (ν : Numbering) (n v b : ℕ) : Type 0 where
  pub shift_is : P.shift n ≡ tier_order v + 1
  pub owner_is : P.owner n ≡ level_owner l ν v b
  pub filled_is : P.filled n ≡ filled_of (P.slot n)
  pub marks_are : (μ : ℕ) → μ < 3 → P.mark n μ ≡ level_marks l ν μ v b
  pub slots_are : (j : ℕ) → j < slots → P.slot n j ≡ level_slot l ν v (slots * b + j)

pub record Prescribes (P : Pool) (l : List Entry) (ν : Numbering) : Type 0 where
  pub valid : Chain 0 l (2 ^ 64)
  pub below : (v b : ℕ) → has_level l v b ≡ true → ν v b < P.count
  pub apart : (v b v' b' : ℕ) → has_level l v b ≡ true → has_level l v' b' ≡ true → ν v b ≡ ν v' b' →
      (v ≡ v') × (b ≡ b')
  pub nodes : (v b : ℕ) → has_level l v b ≡ true → NodeIs P l ν (ν v b) v b
  pub frees : (n : ℕ) → n < P.count → ((v b : ℕ) → has_level l v b ≡ true → ν v b ≡ n → ⊥) → Free P n
  pub head_is : P.head ≡ head_slot l ν (height l)
  pub marks_are : P.marks ≡ marks_of l

module _ (P : Pool) where
  abbrev pub num_from : ℕ → ℕ → ℕ
  num_from zero b = child_of (slot_of P.head)
  num_from (suc d) b = child_of (slot_at P (num_from d (b / slots)) (b % slots))

  abbrev pub num_of : ℕ → ℕ → ℕ
  num_of v b = num_from (level_of P (child_of (slot_of P.head)) - v) b
