-- The tree that a list prescribes (request P10), by the number of keys in aligned blocks.
--
-- A block of tier v has 16^v numbers. The node (v, c) is for block c of tier v; its slots are the blocks of tier v - 1 in
-- it. The root's tier is 66. Every node, shortcut and leaf is a `Part`: `tier` and `base` are the tier and the first
-- number of its block (a leaf's is its one key, tier 0); a shortcut has those of the node that it leads to, and stands
-- for `skip` nodes above it.
use Rattle.std.specs.Prelude.{ℕ, zero, suc, ◌+◌, ◌*◌, ◌-◌, ◌^◌, Bool, true, false, not, List, [], ◌∷◌, ◌++◌, leb, ltb, eqb, length}
use Rattle.std.proofs.Math.Option.{Option, none, some}
use Rattle.blocks.specs.Choice.{pick, both, either}
use Rattle.blocks.specs.Lists.{keep, first, without}
use Rattle.blocks.specs.Blocks.{block}
use Rattle.blocks.specs.Tiers.{blocks_of}
use Rattle.assoc_tree.specs.Keys.{Item}

abbrev pub slot_bits : ℕ
slot_bits = 4

abbrev pub slots : ℕ
slots = 16

-- R340: two nibbles to each of 33 bytes
abbrev pub top_tier : ℕ
top_tier = 66

-- R344: so many keys at most stand in a node as leaves
abbrev pub full : ℕ
full = 16

abbrev pub tier_bits : ℕ → ℕ
tier_bits v = slot_bits * v

abbrev pub block_of : ℕ → ℕ → ℕ
block_of v x = block (tier_bits v) x

-- the key lies in block c of tier v
abbrev pub over : ℕ → ℕ → Item → Bool
over v c x = eqb (block_of v x.key) c

abbrev pub in_block : List Item → ℕ → ℕ → List Item
in_block l v c = keep (over v c) l

-- how many keys lie in block c of tier v; in the block of x
unfoldable pub size : List Item → ℕ → ℕ → ℕ
size l v c = length (in_block l v c)

abbrev pub size_over : List Item → ℕ → ℕ → ℕ
size_over l v x = size l v (block_of v x)

pub record Part : Type 0 where
  pub tier : ℕ
  pub skip : ℕ
  pub base : ℕ

abbrev pub part : ℕ → ℕ → ℕ → Part
part u s x = record { tier = u; skip = s; base = x }

abbrev pub top : Part → ℕ
top p = p.tier + p.skip

-- R348: what is one and the same
abbrev pub same : Part → Part → Bool
same p q = both (eqb p.tier q.tier) (both (eqb p.skip q.skip) (eqb p.base q.base))

abbrev pub is_part : Part → Option Part → Bool
is_part p none = false
is_part p (some q) = same q p

module _ (l : List Item) where
  -- R346, with x a key of the list: the block of x of tier v would be a node of a run
  unfoldable pub skipped : ℕ → ℕ → Bool
  skipped zero x = false
  skipped (suc v) x = both (ltb full (size_over l (suc v) x)) (eqb (size_over l v x) (size_over l (suc v) x))

  -- from tier v down, the first that is not skipped
  unfoldable pub low_from : ℕ → ℕ → ℕ
  low_from x zero = 0
  low_from x (suc v) = pick (skipped (suc v) x) (low_from x v) (suc v)

  -- R346: what leads to the keys in the block of x of tier v: a node, or a shortcut
  abbrev pub branch : ℕ → ℕ → Part
  branch v x = let u = low_from x v in part u (v - u) (block_of u x * 2 ^ tier_bits u)

  abbrev pub leaf : ℕ → Part
  leaf x = part 0 0 x

  -- R345, R347: something leads to the block of x of tier v by itself: the root, or two keys and more, under a
  -- node with more than 16 keys
  abbrev pub is_deep : ℕ → ℕ → Bool
  is_deep v x =
      pick (eqb v top_tier) (leb 1 (size_over l v x)) (both (leb 2 (size_over l v x)) (ltb full (size_over l (suc v) x)))

  -- a node, or the upper end of a shortcut, is the block of x of tier v; a leaf where v is 0
  unfoldable pub is_upper : ℕ → ℕ → Bool
  is_upper zero x = true
  is_upper (suc v) x =
      both (is_deep (suc v) x)
      (either (not (skipped (suc v) x)) (either (eqb (suc v) top_tier) (not (skipped (suc (suc v)) x))))

  -- the part whose upper end is a block of tier v, given the first key in it
  abbrev pub part_over : ℕ → Option Item → Option Part
  part_over v none = none
  part_over v (some x) = pick (is_upper v x.key) (some (branch v x.key)) none

  abbrev pub part_at : ℕ → ℕ → Option Part
  part_at v c = part_over v (first (over v c) l)

  -- the tree has this part
  unfoldable pub has : Part → Bool
  has p = is_part p (part_at (top p) (block_of (top p) p.base))

  -- THE PARTS, widest first, then lowest block; leaves last (R350)
  abbrev pub cons_if : Option Part → List Part → List Part
  cons_if none ps = ps
  cons_if (some p) ps = p ∷ ps

  abbrev pub parts_in : ℕ → List ℕ → List Part
  parts_in v [] = []
  parts_in v (c ∷ cs) = cons_if (part_at v c) (parts_in v cs)

  -- R345: what the slot of block c of tier v leads to, in a node with more than 16 keys: a leaf, or what
  -- stands over several
  abbrev pub leads_for : ℕ → ℕ → Option Item → Option Part
  leads_for v c none = none
  leads_for v c (some x) = some (pick (leb 2 (size l v c)) (branch v x.key) (leaf x.key))

  abbrev pub leads : ℕ → ℕ → Option Part
  leads v c = leads_for v c (first (over v c) l)

  abbrev pub root_for : Option Item → Option Part
  root_for none = none
  root_for (some x) = some (branch top_tier x.key)

-- a key is finer than any block
abbrev pub key_of : Item → ℕ
key_of x = x.key

abbrev pub always : ℕ → Item → Bool
always j x = true

-- the blocks of tier v with a key, ascending
abbrev pub blocks : ℕ → List Item → List ℕ
blocks v l = blocks_of key_of always (tier_bits v) l

abbrev pub parts_to : List Item → ℕ → List Part
parts_to l zero = parts_in l 0 (blocks 0 l)
parts_to l (suc v) = parts_in l (suc v) (blocks (suc v) l) ++ parts_to l v

abbrev pub parts : List Item → List Part
parts l = parts_to l top_tier

abbrev pub head_item : List Item → Option Item
head_item [] = none
head_item (x ∷ l) = some x

abbrev pub root : List Item → Option Part
root l = root_for l (head_item l)

-- R349
abbrev pub new_parts : List Item → List Item → List Part
new_parts old l = without (has old) (parts l)

abbrev pub needed : List Item → List Item → ℕ
needed old l = length (new_parts old l)

-- R344, R345: slot j of the node over block c of tier u
abbrev pub leaf_of : Option Item → Option Part
leaf_of none = none
leaf_of (some x) = some (part 0 0 x.key)

abbrev pub nth : List Item → ℕ → Option Item
nth [] j = none
nth (x ∷ xs) zero = some x
nth (x ∷ xs) (suc j) = nth xs j

unfoldable pub slot : List Item → ℕ → ℕ → ℕ → Option Part
slot l u c j =
    pick (leb (size l u c) full) (leaf_of (nth (in_block l u c) j)) (leads l (u - 1) (slots * c + j))
