-- The list that the leaves make, and how many of its keys lie in each block: as the blocks say.
use Prim.Native.Nat.{ℕ, zero, suc, ◌+◌, ◌*◌, ◌-◌, ◌/◌, ◌≤◌, ◌<◌}
use mathlib.Core.Path.{◌≡◌, refl, sym, ap, ap₂, ◌∙◌, subst}
use mathlib.Core.Bool.{true}
use mathlib.Core.List.{List, [], ◌∷◌}
use mathlib.Core.Logic.{◌⊎◌, inl, inr}
use native.Mathlib.Omega.{arith}
use native.Mathlib.Nat.{le_refl, zero-add}
use lib.Dec.{eqb}
use lib.ListN.{length}
use borrow.Author.Tests.{eqb-true, eqb-false, eq-eqb, ne_eqb}
use Rattle.blocks.specs.Lists.{up_to, In, here, there}
use Rattle.blocks.proofs.BoolLaws.{by_t, iff, is_false}
use Rattle.blocks.proofs.ListLaws.{in_cons, each, keep_none, keep_same}
use Rattle.blocks.proofs.UpToLaws.{length_up_to}
use Rattle.assoc_tree.specs.Keys.{Item, item, insert, is_item, Sorted, done, more as next}
use Rattle.assoc_tree.specs.Parts.{block_of, over, in_block, size, slots}
use Rattle.assoc_layout.specs.Words.{tier_field}
use Rattle.assoc_layout.specs.Decode.{word, base_at, leaves_to, list_of}
use Rattle.assoc_tree.proofs.SizeLaws.{up}
use Rattle.assoc_tree.proofs.SlotLaws.{tier_up, in_keep, keep_in}
use Rattle.assoc_tree.proofs.SortedLaws.{sorted_insert, in_insert, insert_in, insert_stays, sorted_ext, sorted_keep}
use Rattle.assoc_tree.proofs.SumLaws.{sum_same, size_sum}
use Rattle.assoc_local.specs.Local.{tier_of, skip_of, count_of, top_of, slot_at, keys_under, keys_at, Live, Names, LeafOk, CutOk, LeafIn, PackedOk, SlotOk, nothing, a_leaf, a_branch, SpreadOk, BlockOk, free, leaf, cut, packed, spread, PoolOk}
use Rattle.assoc_local.proofs.HangLaws.{Above, Under, leaf_top, one_name, above_in, above_split, own, one_block, leaf_only, leaf_there, lies_there, below_count}

-- LISTS
pub in_up_to : {A : Type 0} (f : ℕ → A) (i k j : ℕ) → i ≤ j → j < i + k → In (f j) (up_to f i k)
in_up_to f i zero j h g = absurd (omega arith)
in_up_to {A} f i (suc k) j h g =
    by_t (eqb i j) (λ c. subst (λ (q : ℕ). In (f q) (up_to f i (suc k))) (eqb-true _ _ c) here)
    (λ c. let ne : i ≡ j → ⊥ = eqb-false _ _ c in there (in_up_to f (suc i) k j (omega arith) (omega arith)))

pub up_to_in : {A : Type 0} (f : ℕ → A) (i k : ℕ) {x : A} → In x (up_to f i k) → (j : ℕ) × (i ≤ j) × (j < i + k) × (x ≡ f j)
up_to_in f i zero m = elim m [ ]
up_to_in f i (suc k) {x} m = elim (in_cons m) [
  | inl e ↦ (i, le_refl _, omega arith, e)
  | inr b ↦ (let (j, h, g, e) = up_to_in f (suc i) k b in (j, omega arith, omega arith, e))
]

-- the keys in a block, known by membership
pub block_is : {l t : List Item} {k : ℕ} (v c : ℕ) → Sorted 0 l → Sorted k t → ((x : Item) → In x t → In x l × (block_of v x.key ≡ c)) →
    ((x : Item) → In x l → block_of v x.key ≡ c → In x t) → in_block l v c ≡ t
block_is {l} v c s r f g = sorted_ext (sorted_keep (over v c) s) r
    (λ x i. let (a, b) = keep_in (over v c) l i in g x a (eqb-true _ _ b))
    (λ x i. let (a, b) = f x i in in_keep (over v c) a (eq-eqb _ _ b))

module _ {ws : List ℕ} {n : ℕ} (s : PoolOk ws n) where
  abbrev base : ℕ → ℕ
  base m = base_at ws m

  abbrev pub item_of : ℕ → Item
  item_of m = item (base_at ws m) (count_of ws m)

  abbrev pub l : List Item
  l = list_of ws n

  pub leaf_ok_lem : {m : ℕ} → m < n → word ws m tier_field ≡ 1 → LeafOk ws n m
  leaf_ok_lem {m} h t = go (s.block m h)
    where
      go : BlockOk ws n m → LeafOk ws n m
      go (free f) = absurd (omega (arith, f 0 (omega arith)))
      go (leaf k) = k
      go (cut k) = absurd (omega (arith, k.head.low))
      go (packed k) = absurd (omega (arith, k.head.low))
      go (spread k) = absurd (omega (arith, k.head.low))

  pub leaf_live : {m : ℕ} → m < n → word ws m tier_field ≡ 1 → Live ws n m
  leaf_live h t = record { below = h; used = omega arith }

  -- leaves of one key are one
  pub one_leaf : {m y : ℕ} → m < n → y < n → word ws m tier_field ≡ 1 → word ws y tier_field ≡ 1 → base y ≡ base m → y ≡ m
  one_leaf {m} {y} h g t u e = one_block s (leaf_live h t) (leaf_live g u) (leaf_top s g u ∙ sym (leaf_top s h t))
      (ap (block_of (top_of ws m)) e)

  -- THE LIST
  leaves_sorted : (k : ℕ) → k ≤ n → Sorted 0 (leaves_to ws k)
  leaves_sorted zero h = done
  leaves_sorted (suc k) h =
      by_t (eqb (word ws k tier_field) 1)
      (λ c. rw c (sorted_insert (item_of k) (omega arith) (leaf_ok_lem (omega arith) (eqb-true _ _ c)).good
      (leaves_sorted k (omega arith))))
      (λ c. rw c (leaves_sorted k (omega arith)))

  leaves_in : (k : ℕ) → k ≤ n → {x : Item} → In x (leaves_to ws k) → (m : ℕ) × (m < n) × (word ws m tier_field ≡ 1) × (item_of m ≡ x)
  leaves_in zero h i = elim i [ ]
  leaves_in (suc k) h {x} i =
      by_t (eqb (word ws k tier_field) 1)
      (λ c. elim (in_insert (item_of k) (leaves_to ws k) (rw c at i)) [
        | inl a ↦ (k, omega arith, eqb-true _ _ c, sym a)
        | inr b ↦ leaves_in k (omega arith) b
      ])
      (λ c. leaves_in k (omega arith) (rw c at i))

  in_leaves : (k : ℕ) → k ≤ n → (m : ℕ) → m < k → word ws m tier_field ≡ 1 → In (item_of m) (leaves_to ws k)
  in_leaves zero h m g t = absurd (omega arith)
  in_leaves (suc k) h m g t =
      by_t (eqb m k)
      (λ c. let e : m ≡ k = eqb-true _ _ c in
      let u : word ws k tier_field ≡ 1 = subst (λ (q : ℕ). word ws q tier_field ≡ 1) e t in
      rw (eq-eqb (word ws k tier_field) 1 u) (subst (λ (q : ℕ). In (item_of q) (insert (item_of k) (leaves_to ws k))) (sym e)
      (insert_in (item_of k) (leaves_to ws k))))
      (λ c. let ne : m ≡ k → ⊥ = eqb-false _ _ c in
      let r : In (item_of m) (leaves_to ws k) = in_leaves k (omega arith) m (omega arith) t in
      by_t (eqb (word ws k tier_field) 1)
      (λ d. rw d (insert_stays (item_of k) (leaves_to ws k) r (λ e. ne (one_leaf (omega arith) (omega arith) (eqb-true _ _ d) t e))))
      (λ d. rw d r))

  pub sorted : Sorted 0 l
  sorted = leaves_sorted n (le_refl _)

  pub item_leaf : {x : Item} → In x l → (m : ℕ) × (m < n) × (word ws m tier_field ≡ 1) × (item_of m ≡ x)
  item_leaf i = leaves_in n (le_refl _) i

  pub leaf_item : {m : ℕ} → m < n → word ws m tier_field ≡ 1 → In (item_of m) l
  leaf_item {m} h t = in_leaves n (le_refl _) m h t

  -- a key in the block of m is that of a leaf under m
  pub record LeafUnder (m : ℕ) (x : Item) : Type 0 where
    pub leaf : ℕ
    pub below : leaf < n
    pub tier : word ws leaf tier_field ≡ 1
    pub is : item_of leaf ≡ x
    pub above : Above s m leaf

  pub key_under : {m : ℕ} {x : Item} → Live ws n m → In x l → block_of (top_of ws m) x.key ≡ block_of (top_of ws m) (base m) →
      LeafUnder m x
  key_under {m} {x} a i e =
      let (y, h, t, q) = item_leaf i in
      let z : top_of ws y ≡ 0 = leaf_top s h t in
      record {
        leaf = y;
        below = h;
        tier = t;
        is = q;
        above = own s a (leaf_live h t) (omega arith) (ap (λ (w : Item). block_of (top_of ws m) w.key) q ∙ e);
      }

  -- and under one of its slots, unless m is a leaf
  pub record KeyIn (m : ℕ) (x : Item) : Type 0 where
    pub leaf : ℕ
    pub below : leaf < n
    pub tier : word ws leaf tier_field ≡ 1
    pub is : item_of leaf ≡ x
    pub under : Under s m leaf

  pub key_in_lem : {m : ℕ} {x : Item} → Live ws n m → 2 ≤ word ws m tier_field → In x l →
      block_of (top_of ws m) x.key ≡ block_of (top_of ws m) (base m) → KeyIn m x
  key_in_lem {m} {x} a low i e =
      let u : LeafUnder m x = key_under a i e in
      record { leaf = u.leaf; below = u.below; tier = u.tier; is = u.is; under = go u (above_split s u.above) }
    where
      go : (u : LeafUnder m x) → (u.leaf ≡ m) ⊎ Under s m u.leaf → Under s m u.leaf
      go u (inl d) = absurd (omega (arith, u.tier, ap (λ (q : ℕ). word ws q tier_field) d))
      go u (inr r) = r

  -- the slot of a node with more than 16 keys that a key of its block is under
  pub record SlotKey (p j : ℕ) (x : Item) : Type 0 where
    pub node : ℕ
    pub names : Names ws n p j node
    pub leaf : ℕ
    pub below : leaf < n
    pub tier : word ws leaf tier_field ≡ 1
    pub is : item_of leaf ≡ x
    pub above : Above s node leaf

  cancel : (u v w : ℕ) → u + v ≡ u + w → v ≡ w
  cancel u v w d = omega arith

  slot_key : {p j : ℕ} {x : Item} → SpreadOk ws n p → KeyIn p x →
      block_of (tier_of ws p - 1) x.key ≡ slots * block_of (tier_of ws p) (base p) + j → SlotKey p j x
  slot_key {p} {j} {x} k r e = go r.under (lies_there s k r.under.names)
    where
      go : (u : Under s p r.leaf) → (top_of ws u.node ≤ tier_of ws p - 1) ×
          (block_of (tier_of ws p - 1) (base u.node) ≡ slots * block_of (tier_of ws p) (base p) + u.slot) → SlotKey p j x
      go u (t, b) =
          let f : block_of (tier_of ws p - 1) (base r.leaf) ≡ block_of (tier_of ws p - 1) (base u.node) =
          up {v = top_of ws u.node} {w = tier_of ws p - 1} (base r.leaf) (base u.node) t (above_in s u.above) in
          let o : u.slot ≡ j = cancel (slots * block_of (tier_of ws p) (base p)) u.slot j
          (sym b ∙ sym f ∙ ap (λ (w : Item). block_of (tier_of ws p - 1) w.key) r.is ∙ e) in
          record {
            node = u.node;
            names = subst (λ (v : ℕ). Names ws n p v u.node) o u.names;
            leaf = r.leaf;
            below = r.below;
            tier = r.tier;
            is = r.is;
            above = u.above;
          }

  pub slot_under : {p j : ℕ} {x : Item} → Live ws n p → SpreadOk ws n p → j < slots → In x l →
      block_of (tier_of ws p - 1) x.key ≡ slots * block_of (tier_of ws p) (base p) + j → SlotKey p j x
  slot_under {p} {j} {x} a k g i e =
      let d : tier_of ws p ≡ suc (tier_of ws p - 1) = omega (arith, k.head.low) in
      let q : (slots * block_of (tier_of ws p) (base p) + j) / slots ≡ block_of (tier_of ws p) (base p) = omega arith in
      let z : top_of ws p ≡ tier_of ws p = omega (arith, k.skip) in
      let h : block_of (tier_of ws p) x.key ≡ block_of (tier_of ws p) (base p) =
      ap (λ (u : ℕ). block_of u x.key) d ∙ tier_up (tier_of ws p - 1) x.key ∙ ap (λ (y : ℕ). y / slots) e ∙ q in
      slot_key k (key_in_lem a k.head.low i (subst (λ (v : ℕ). block_of v x.key ≡ block_of v (base p)) (sym z) h)) e

  -- SIZES
  one_sorted : {m : ℕ} → m < n → word ws m tier_field ≡ 1 → Sorted 0 (item_of m ∷ [])
  one_sorted {m} h t = next {n = 0} {x = item_of m} (omega arith) (leaf_ok_lem h t).good done

  -- a block of one leaf
  pub leaf_block : (v c : ℕ) {m : ℕ} → m < n → word ws m tier_field ≡ 1 → block_of v (base m) ≡ c →
      ((x : Item) → In x l → block_of v x.key ≡ c → x ≡ item_of m) → in_block l v c ≡ item_of m ∷ []
  leaf_block v c {m} h t e f = block_is v c sorted (one_sorted h t)
      (λ x i. elim (in_cons i) [
        | inl a ↦ (subst (λ (w : Item). In w l) (sym a) (leaf_item h t), ap (λ (w : Item). block_of v w.key) a ∙ e)
        | inr b ↦ elim b [ ]
      ])
      (λ x i d. subst (λ (w : Item). In w (item_of m ∷ [])) (sym (f x i d)) here)

  abbrev pub packed_items : (p : ℕ) → List Item
  packed_items p = up_to (λ j. item_of (slot_at ws p j - 1)) 0 (count_of ws p)

  packed_sorted : {p : ℕ} → PackedOk ws n p → (i k o : ℕ) → i + k ≡ count_of ws p → (1 ≤ k → o ≤ base (slot_at ws p i - 1)) →
      Sorted o (up_to (λ j. item_of (slot_at ws p j - 1)) i k)
  packed_sorted {p} q i zero o e f = done
  packed_sorted {p} q i (suc k) o e f =
      let g : LeafIn ws n p i = q.leaves i (omega arith) in
      let d : slot_at ws p i - 1 ≡ g.node = omega (arith, g.names.is) in
      next (f (omega arith)) (subst (λ (m : ℕ). is_item (item_of m) ≡ true) (sym d) (leaf_ok_lem g.names.below g.tier).good)
      (packed_sorted q (suc i) k (suc (base (slot_at ws p i - 1))) (omega arith) (λ h. q.rising i (omega arith)))

  pub packed_block : {p : ℕ} → Live ws n p → PackedOk ws n p →
      in_block l (tier_of ws p) (block_of (tier_of ws p) (base p)) ≡ packed_items p
  packed_block {p} a k = block_is (tier_of ws p) (block_of (tier_of ws p) (base p)) sorted
      (packed_sorted k 0 (count_of ws p) 0 (zero-add _) (λ h. omega arith)) into from
    where
      into : (x : Item) → In x (packed_items p) → In x l × (block_of (tier_of ws p) x.key ≡ block_of (tier_of ws p) (base p))
      into x i =
          let (j, h, g, e) = up_to_in (λ j. item_of (slot_at ws p j - 1)) 0 (count_of ws p) i in
          let f : LeafIn ws n p j = k.leaves j (omega arith) in
          let d : slot_at ws p j - 1 ≡ f.node = omega (arith, f.names.is) in
          let q : x ≡ item_of f.node = e ∙ ap item_of d in (
            subst (λ (w : Item). In w l) (sym q) (leaf_item f.names.below f.tier),
            ap (λ (w : Item). block_of (tier_of ws p) w.key) q ∙ f.within,
          )

      from : (x : Item) → In x l → block_of (tier_of ws p) x.key ≡ block_of (tier_of ws p) (base p) → In x (packed_items p)
      from x i e =
          let z : top_of ws p ≡ tier_of ws p = omega (arith, k.skip) in
          let r : KeyIn p x = key_in_lem a k.head.low i (subst (λ (v : ℕ). block_of v x.key ≡ block_of v (base p)) (sym z) e) in
          let j : ℕ = r.under.slot in
          let h : r.under.slot < count_of ws p = below_count s k r.under.names in
          let o : r.leaf ≡ r.under.node =
          leaf_only s r.under.names.below (leaf_there s k r.under.names) r.under.above in
          let d : slot_at ws p r.under.slot - 1 ≡ r.under.node = omega (arith, r.under.names.is) in
          subst (λ (w : Item). In w (packed_items p)) (ap item_of (d ∙ sym o) ∙ r.is)
          (in_up_to (λ j. item_of (slot_at ws p j - 1)) 0 (count_of ws p) r.under.slot (omega arith) (omega arith))

  -- a shortcut's block has the keys of its node's
  pub cut_block : {p : ℕ} → Live ws n p → (k : CutOk ws n p) → in_block l (top_of ws p) (block_of (top_of ws p) (base p)) ≡
      in_block l (tier_of ws p) (block_of (tier_of ws p) (base p))
  cut_block {p} a k = keep_same (over (top_of ws p) (block_of (top_of ws p) (base p))) (over (tier_of ws p) (block_of (tier_of ws p) (base p)))
      (each l (λ x i. iff _ _ (λ t. eq-eqb _ _ (down x i (eqb-true _ _ t)))
      (λ t. eq-eqb _ _ (up {v = tier_of ws p} {w = top_of ws p} x.key (base p) (omega arith) (eqb-true _ _ t)))))
    where
      down : (x : Item) → In x l → block_of (top_of ws p) x.key ≡ block_of (top_of ws p) (base p) →
          block_of (tier_of ws p) x.key ≡ block_of (tier_of ws p) (base p)
      down x i e =
          let r : KeyIn p x = key_in_lem a k.head.low i e in
          let z : r.under.slot ≡ 0 = by_t (eqb r.under.slot 0) (λ c. eqb-true _ _ c)
          (λ c. let ne : r.under.slot ≡ 0 → ⊥ = eqb-false _ _ c in
          absurd (omega (arith, k.empty r.under.slot (omega arith) r.under.names.slot, r.under.names.is))) in
          let o : r.under.node ≡ k.node = one_name s r.under.names k.names z in
          let t : top_of ws k.node ≡ tier_of ws p = omega (arith, k.same_tier, k.is_node_lem) in
          let f : block_of (top_of ws k.node) (base r.leaf) ≡ block_of (top_of ws k.node) (base k.node) =
          subst (λ (m : ℕ). block_of (top_of ws m) (base r.leaf) ≡ block_of (top_of ws m) (base m)) o (above_in s r.under.above) in
          ap (λ (w : Item). block_of (tier_of ws p) w.key) (sym r.is) ∙
          subst (λ (v : ℕ). block_of v (base r.leaf) ≡ block_of v (base k.node)) t f ∙
          ap (block_of (tier_of ws p)) k.same_base

  -- how many keys a slot of a node with more than 16 has, by those of what it leads to
  pub slot_size : {p j : ℕ} → Live ws n p → SpreadOk ws n p → j < slots →
      ((x : ℕ) → Live ws n x → top_of ws x ≡ tier_of ws p - 1 →
      size l (top_of ws x) (block_of (top_of ws x) (base x)) ≡ keys_under ws x) →
      size l (tier_of ws p - 1) (slots * block_of (tier_of ws p) (base p) + j) ≡ keys_at ws (slot_at ws p j)
  unfolding size
  slot_size {p} {j} a k g f = go (k.slot j g)
    where
      keys_at_lem : {x : ℕ} → slot_at ws p j ≡ suc x → keys_at ws (slot_at ws p j) ≡ keys_under ws x
      keys_at_lem {x} e = let d : suc x - 1 ≡ x = omega arith in ap (keys_at ws) e ∙ rw (ne_eqb (suc x) 0 (omega arith), d)

      go : SlotOk ws n p j → length (in_block l (tier_of ws p - 1) (slots * block_of (tier_of ws p) (base p) + j)) ≡ keys_at ws (slot_at ws p j)
      go (nothing e) =
          rw (
            e,
            keep_none (over (tier_of ws p - 1) (slots * block_of (tier_of ws p) (base p) + j)) (each l (λ x i. is_false
                (λ t. no (slot_under a k g i (eqb-true _ _ t))))),
          )
        where
          no : {x : Item} → SlotKey p j x → ⊥
          no r = omega (arith, r.names.is)
      go (a_leaf x b t) =
          ap length (leaf_block (tier_of ws p - 1) (slots * block_of (tier_of ws p) (base p) + j) b.names.below t b.within
          (λ y i e. only (slot_under a k g i e))) ∙ sym (keys_at_lem b.names.is ∙ rw (eq-eqb (word ws x tier_field) 1 t))
        where
          only : {y : Item} → SlotKey p j y → y ≡ item_of x
          only r = sym r.is ∙ ap item_of (leaf_only s r.names.below
              (subst (λ (q : ℕ). word ws q tier_field ≡ 1) (one_name s b.names r.names refl) t) r.above ∙
              one_name s r.names b.names refl)
      go (a_branch x b t e c) =
          ap₂ (λ (u d : ℕ). length (in_block l u d)) (sym e) (sym (ap (λ (u : ℕ). block_of u (base x)) e ∙ b.within)) ∙
          f x (record { below = b.names.below; used = omega arith }) e ∙ sym (keys_at_lem b.names.is)

  -- THE SIZE of a block's block of keys is what the block says
  size_step : {m : ℕ} → Live ws n m →
      ((x : ℕ) → Live ws n x → top_of ws x < top_of ws m →
      size l (top_of ws x) (block_of (top_of ws x) (base x)) ≡ keys_under ws x) →
      size l (top_of ws m) (block_of (top_of ws m) (base m)) ≡ keys_under ws m
  unfolding size
  size_step {m} a f = go (s.block m a.below)
    where
      go : BlockOk ws n m → length (in_block l (top_of ws m) (block_of (top_of ws m) (base m))) ≡ keys_under ws m
      go (free k) = absurd (omega (arith, k 0 (omega arith), a.used))
      go (leaf k) =
          let z : top_of ws m ≡ 0 = leaf_top s a.below k.tier in
          ap length (leaf_block (top_of ws m) (block_of (top_of ws m) (base m)) a.below k.tier refl (λ x i e. only x i z e)) ∙
          sym (rw (eq-eqb (word ws m tier_field) 1 k.tier))
        where
          only : (x : Item) → In x l → top_of ws m ≡ 0 → block_of (top_of ws m) x.key ≡ block_of (top_of ws m) (base m) → x ≡ item_of m
          only x i z e = go' (key_under a i e)
            where
              go' : LeafUnder m x → x ≡ item_of m
              go' u = sym u.is ∙ ap item_of (leaf_only s a.below k.tier u.above)
      go (cut k) =
          let t : top_of ws k.node ≡ tier_of ws m = omega (arith, k.same_tier, k.is_node_lem) in
          let d : slot_at ws m 0 - 1 ≡ k.node = omega (arith, k.names.is) in
          ap length (cut_block a k) ∙
          ap₂ (λ (u c : ℕ). length (in_block l u c)) (sym t)
          (ap (block_of (tier_of ws m)) (sym k.same_base) ∙ ap (λ (u : ℕ). block_of u (base k.node)) (sym t)) ∙
          f k.node (record { below = k.names.below; used = omega (arith, k.same_tier, k.head.low) })
          (omega (arith, k.skip)) ∙
          rw (
            ne_eqb (word ws k.node tier_field) 1 (omega (arith, k.same_tier, k.head.low)),
            k.is_node_lem,
            ne_eqb (word ws m tier_field) 1 (omega (arith, k.head.low)),
            ne_eqb (skip_of ws m) 0 (omega (arith, k.skip)),
            d,
          )
      go (packed k) =
          let z : top_of ws m ≡ tier_of ws m = omega (arith, k.skip) in
          ap (λ (u : ℕ). length (in_block l u (block_of u (base m)))) z ∙ ap length (packed_block a k) ∙
          length_up_to (λ j. item_of (slot_at ws m j - 1)) 0 (count_of ws m) ∙
          rw (ne_eqb (word ws m tier_field) 1 (omega (arith, k.head.low)), k.skip)
      go (spread k) =
          let z : top_of ws m ≡ tier_of ws m = omega (arith, k.skip) in
          let d : tier_of ws m ≡ suc (tier_of ws m - 1) = omega (arith, k.head.low) in
          ap (λ (u : ℕ). length (in_block l u (block_of u (base m)))) z ∙
          ap (λ (u : ℕ). length (in_block l u (block_of (tier_of ws m) (base m)))) d ∙
          sym (size_sum l (tier_of ws m - 1) (block_of (tier_of ws m) (base m))) ∙
          sum_same _ (λ j. keys_at ws (slot_at ws m j)) slots (λ j g. slot_size a k g (λ x b e. f x b (omega arith))) ∙ k.total ∙
          rw (ne_eqb (word ws m tier_field) 1 (omega (arith, k.head.low)), k.skip)

  size_by : (k : ℕ) {m : ℕ} → Live ws n m → top_of ws m ≤ k → size l (top_of ws m) (block_of (top_of ws m) (base m)) ≡ keys_under ws m
  size_by zero a h = size_step a (λ x b g. absurd (omega arith))
  size_by (suc k) a h = size_step a (λ x b g. size_by k b (omega arith))

  pub size_is : {m : ℕ} → Live ws n m → size l (top_of ws m) (block_of (top_of ws m) (base m)) ≡ keys_under ws m
  size_is {m} a = size_by (top_of ws m) a (le_refl _)
