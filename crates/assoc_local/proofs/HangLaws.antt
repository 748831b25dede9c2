-- Every block in use hangs under the root, and under each block whose block of keys holds it.
use Prim.Native.Nat.{ℕ, zero, suc, ◌+◌, ◌*◌, ◌-◌, ◌/◌, ◌≤◌, ◌<◌}
use mathlib.Core.Path.{◌≡◌, refl, sym, ap, ◌∙◌, subst}
use mathlib.Core.List.{List}
use mathlib.Core.Logic.{◌⊎◌, inl, inr}
use native.Mathlib.Omega.{arith}
use native.Mathlib.Nat.{le_refl, add-zero}
use lib.Dec.{eqb, ltb}
use lib.ListN.{get_or}
use borrow.Author.Tests.{eqb-true, eqb-false, ltb-true, ltb-false}
use Rattle.blocks.proofs.BoolLaws.{by_t}
use Rattle.assoc_tree.specs.Parts.{block_of, slots, top_tier}
use Rattle.assoc_layout.specs.Words.{root_word, tier_field}
use Rattle.assoc_layout.specs.Decode.{word, base_at}
use Rattle.assoc_tree.proofs.SizeLaws.{up}
use Rattle.assoc_tree.proofs.KeyLaws.{block_zero}
use Rattle.assoc_tree.proofs.SlotLaws.{tier_up}
use Rattle.assoc_local.specs.Local.{tier_of, skip_of, count_of, top_of, slot_at, Live, Names, Head, LeafIn, PackedOk, Lies, SlotOk, nothing, a_leaf, a_branch, SpreadOk, BlockOk, free, leaf, cut, packed, spread, Named, by_root, by_slot, PoolOk}

module _ {ws : List ℕ} {n : ℕ} (s : PoolOk ws n) where
  abbrev base : ℕ → ℕ
  base m = base_at ws m

  -- x hangs in a slot of p
  pub record Child (p j x : ℕ) : Type 0 where
    pub alive : Live ws n x
    pub falls : top_of ws x < top_of ws p
    pub inside : block_of (top_of ws p) (base x) ≡ block_of (top_of ws p) (base p)

  -- a leaf's top is 0
  pub leaf_top : {x : ℕ} → x < n → word ws x tier_field ≡ 1 → top_of ws x ≡ 0
  leaf_top {x} h t = go (s.block x h)
    where
      go : BlockOk ws n x → top_of ws x ≡ 0
      go (free f) = let z : word ws x 0 ≡ 0 = f 0 (omega arith) in absurd (omega arith)
      go (leaf k) = let a : skip_of ws x ≡ 0 = k.skip in omega arith
      go (cut k) = absurd (omega (arith, k.head.low))
      go (packed k) = absurd (omega (arith, k.head.low))
      go (spread k) = absurd (omega (arith, k.head.low))

  -- what lies in a slot of a node lies in the node's block
  pub lies_in : {p j x : ℕ} → Head ws n p → Lies ws n p j x → block_of (tier_of ws p) (base x) ≡ block_of (tier_of ws p) (base p)
  lies_in {p} {j} {x} h b =
      let d : tier_of ws p ≡ suc (tier_of ws p - 1) = omega (arith, h.low) in
      let g : j < slots = b.names.slot in
      let e : block_of (tier_of ws p - 1) (base x) ≡ slots * block_of (tier_of ws p) (base p) + j = b.within in
      let q : (slots * block_of (tier_of ws p) (base p) + j) / slots ≡ block_of (tier_of ws p) (base p) = omega arith in
      ap (λ (u : ℕ). block_of u (base x)) d ∙ tier_up (tier_of ws p - 1) (base x) ∙ ap (λ (y : ℕ). y / slots) e ∙ q

  pub child_of_lem : {p j x : ℕ} → Live ws n p → Names ws n p j x → Child p j x
  child_of_lem {p} {j} {x} a r = go (s.block p a.below)
    where
      none_here : {A : Type 0} → slot_at ws p j ≡ 0 → A
      none_here e = absurd (omega (arith, r.is))

      named_is : {y i : ℕ} → Names ws n p i y → i ≡ j → y ≡ x
      named_is {y} {i} m e =
          let b : slot_at ws p j ≡ suc y = subst (λ (k : ℕ). slot_at ws p k ≡ suc y) e m.is in
          omega (arith, r.is)

      go : BlockOk ws n p → Child p j x
      go (free f) = absurd (omega (arith, f 0 (omega arith), a.used))
      go (leaf k) = none_here (k.empty j r.slot)
      go (cut k) =
          by_t (eqb j 0)
          (λ c. let e : k.node ≡ x = named_is k.names (sym (eqb-true _ _ c)) in
          subst (λ (y : ℕ). Child p j y) e (record {
            alive = record { below = k.names.below; used = omega (arith, k.same_tier, k.head.low) };
            falls = omega (arith, k.same_tier, k.is_node_lem, k.skip);
            inside = ap (block_of (top_of ws p)) k.same_base;
          }))
          (λ c. let ne : j ≡ 0 → ⊥ = eqb-false _ _ c in none_here (k.empty j (omega arith) r.slot))
      go (packed k) =
          by_t (ltb j (count_of ws p))
          (λ c. let f : LeafIn ws n p j = k.leaves j (ltb-true _ _ c) in
          let e : f.node ≡ x = named_is f.names refl in
          let z : top_of ws f.node ≡ 0 = leaf_top f.names.below f.tier in
          subst (λ (y : ℕ). Child p j y) e (record {
            alive = record { below = f.names.below; used = omega (arith, f.tier) };
            falls = omega (arith, k.head.low);
            inside = up {v = tier_of ws p} {w = top_of ws p} (base f.node) (base p) (omega arith) f.within;
          }))
          (λ c. none_here (k.empty j (ltb-false _ _ c) r.slot))
      go (spread k) = on (k.slot j r.slot)
        where
          high : (y : ℕ) → Lies ws n p j y → block_of (top_of ws p) (base y) ≡ block_of (top_of ws p) (base p)
          high y b = up {v = tier_of ws p} {w = top_of ws p} (base y) (base p) (omega arith) (lies_in k.head b)

          on : SlotOk ws n p j → Child p j x
          on (nothing e) = none_here e
          on (a_leaf y b t) =
              let e : y ≡ x = named_is b.names refl in
              let z : top_of ws y ≡ 0 = leaf_top b.names.below t in
              subst (λ (y : ℕ). Child p j y) e (record {
                alive = record { below = b.names.below; used = omega (arith, t) };
                falls = omega (arith, k.head.low);
                inside = high y b;
              })
          on (a_branch y b t e' c) =
              let e : y ≡ x = named_is b.names refl in
              subst (λ (y : ℕ). Child p j y) e (record {
                alive = record { below = b.names.below; used = omega (arith, t) };
                falls = omega (arith, k.head.low);
                inside = high y b;
              })

  -- two names in one slot are one
  pub one_name : {p i j x y : ℕ} → Names ws n p i x → Names ws n p j y → i ≡ j → x ≡ y
  one_name {p} {i} {j} {x} {y} a b e =
      let d : slot_at ws p j ≡ suc x = subst (λ (k : ℕ). slot_at ws p k ≡ suc x) e a.is in omega (arith, b.is)

  -- THE WAY UP: m is y, or above it
  pub data Above (m : ℕ) : ℕ → Type 0 where
    self : Above m m
    more : {y : ℕ} (p j : ℕ) → Live ws n p → Names ws n p j y → Above m p → Above m y

  pub above_top : {m y : ℕ} → Above m y → top_of ws y ≤ top_of ws m
  above_top self = le_refl _
  above_top (more p j a r b) = omega (arith, above_top b, (child_of_lem a r).falls)

  pub above_in : {m y : ℕ} → Above m y → block_of (top_of ws m) (base y) ≡ block_of (top_of ws m) (base m)
  above_in self = refl
  above_in {m} {y} (more p j a r b) =
      up {v = top_of ws p} {w = top_of ws m} (base y) (base p) (above_top b) (child_of_lem a r).inside ∙ above_in b

  -- as wide: the same
  pub above_same : {m y : ℕ} → Above m y → top_of ws y ≡ top_of ws m → y ≡ m
  above_same self e = refl
  above_same (more p j a r b) e = absurd (omega (arith, above_top b, (child_of_lem a r).falls))

  -- y itself, or below one of its slots
  pub record Under (m y : ℕ) : Type 0 where
    pub slot : ℕ
    pub node : ℕ
    pub names : Names ws n m slot node
    pub alive : Live ws n m
    pub above : Above node y

  pub above_split : {m y : ℕ} → Above m y → (y ≡ m) ⊎ Under m y
  above_split self = inl refl
  above_split {m} {y} (more p j a r b) = elim (above_split b) [
    | inl e ↦ inr (subst (λ (q : ℕ). Names ws n q j y → Live ws n q → Under m y) (sym e)
        (λ r' a'. record { slot = j; node = y; names = r'; alive = a'; above = self }) r a)
    | inr u ↦ inr (record {
      slot = u.slot;
      node = u.node;
      names = u.names;
      alive = u.alive;
      above = more p j a r u.above;
    })
  ]

  -- tops are at most that of the root
  pub top_le : {m : ℕ} → Live ws n m → top_of ws m ≤ top_tier
  top_le {m} a = go (s.block m a.below)
    where
      go : BlockOk ws n m → top_of ws m ≤ top_tier
      go (free f) = absurd (omega (arith, f 0 (omega arith), a.used))
      go (leaf k) = omega (arith, k.tier, k.skip)
      go (cut k) = k.head.high
      go (packed k) = k.head.high
      go (spread k) = k.head.high

  -- ALL HANG UNDER THE ROOT
  pub record Rooted (y : ℕ) : Type 0 where
    pub root : ℕ
    pub is : get_or ws root_word 0 ≡ suc root
    pub above : Above root y

  rooted_by : (k : ℕ) {y : ℕ} → Live ws n y → top_tier ≤ top_of ws y + k → Rooted y
  rooted_by zero {y} a h = go (s.named y a)
    where
      go : Named ws n y → Rooted y
      go (by_root e) = record { root = y; is = e; above = self }
      go (by_slot p j b r) = absurd (omega (arith, (child_of_lem b r).falls, top_le b))
  rooted_by (suc k) {y} a h = go (s.named y a) (λ p b g. rooted_by k {y = p} b g)
    where
      go : Named ws n y → ((p : ℕ) → Live ws n p → top_tier ≤ top_of ws p + k → Rooted p) → Rooted y
      go (by_root e) f = record { root = y; is = e; above = self }
      go (by_slot p j b r) f =
          let t : Rooted p = f p b (omega (arith, (child_of_lem b r).falls)) in
          record { root = t.root; is = t.is; above = more p j b r t.above }

  pub rooted : {y : ℕ} → Live ws n y → Rooted y
  rooted a = rooted_by top_tier a (omega arith)

  -- THE ONE WAY DOWN: where m hangs in slot j of p, and y, no wider, lies in the block of m and hangs under slot i of p,
  -- i is j
  pub leaf_only : {x y : ℕ} → x < n → word ws x tier_field ≡ 1 → Above x y → y ≡ x
  leaf_only {x} {y} h t b = elim (above_split b) [
    | inl e ↦ e
    | inr u ↦ go u (s.block x h)
  ]
    where
      go : Under x y → BlockOk ws n x → y ≡ x
      go u (free f) = absurd (omega (arith, f 0 (omega arith)))
      go u (leaf k) = absurd (omega (arith, k.empty u.slot u.names.slot, u.names.is))
      go u (cut k) = absurd (omega (arith, k.head.low))
      go u (packed k) = absurd (omega (arith, k.head.low))
      go u (spread k) = absurd (omega (arith, k.head.low))

  rises : {p : ℕ} → PackedOk ws n p → (i d : ℕ) → suc i + d < count_of ws p →
      base (slot_at ws p i - 1) < base (slot_at ws p (suc i + d) - 1)
  rises {p} k i zero h = subst (λ (j : ℕ). base (slot_at ws p i - 1) < base (slot_at ws p j - 1)) (sym (add-zero (suc i)))
      (k.rising i (omega arith))
  rises {p} k i (suc d) h =
      let a : base (slot_at ws p i - 1) < base (slot_at ws p (suc i + d) - 1) = rises k i d (omega arith) in
      let b : base (slot_at ws p (suc i + d) - 1) < base (slot_at ws p (suc (suc i + d)) - 1) = k.rising (suc i + d) (omega arith) in
      let e : suc (suc i + d) ≡ suc i + suc d = omega arith in
      subst (λ (j : ℕ). base (slot_at ws p i - 1) < base (slot_at ws p j - 1)) e (less a b)
    where
      less : {a b c : ℕ} → a < b → b < c → a < c
      less f g = omega arith

  pub rises_to : {p : ℕ} → PackedOk ws n p → (i j : ℕ) → i < j → j < count_of ws p →
      base (slot_at ws p i - 1) < base (slot_at ws p j - 1)
  rises_to {p} k i j h g =
      let e : suc i + (j - suc i) ≡ j = omega arith in
      subst (λ (q : ℕ). base (slot_at ws p i - 1) < base (slot_at ws p q - 1)) e (rises k i (j - suc i) (omega arith))

  pub named_base : {p j x : ℕ} → Names ws n p j x → base (slot_at ws p j - 1) ≡ base x
  named_base {p} {j} {x} r = let e : slot_at ws p j - 1 ≡ x = omega (arith, r.is) in ap base e

  -- leaves of one key in a packed node are in one slot
  pub one_slot : {p i j x y : ℕ} → PackedOk ws n p → Names ws n p i x → Names ws n p j y → i < count_of ws p → j < count_of ws p →
      base x ≡ base y → i ≡ j
  one_slot {p} {i} {j} {x} {y} k a b hi hj e =
      by_t (ltb i j)
      (λ c. absurd (no (rises_to k i j (ltb-true _ _ c) hj) (named_base a ∙ e ∙ sym (named_base b))))
      (λ c. by_t (ltb j i)
      (λ d. absurd (no (rises_to k j i (ltb-true _ _ d) hi) (named_base b ∙ sym e ∙ sym (named_base a))))
      (λ d. omega (arith, ltb-false i j c, ltb-false j i d)))
    where
      no : {u v : ℕ} → u < v → u ≡ v → ⊥
      no f g = omega arith

  pub below_count : {p j x : ℕ} → PackedOk ws n p → Names ws n p j x → j < count_of ws p
  below_count {p} {j} k r = by_t (ltb j (count_of ws p)) (λ c. ltb-true _ _ c)
      (λ c. absurd (omega (arith, k.empty j (ltb-false _ _ c) r.slot, r.is)))

  pub leaf_there : {p j x : ℕ} → PackedOk ws n p → Names ws n p j x → word ws x tier_field ≡ 1
  leaf_there {p} {j} {x} k r =
      let f : LeafIn ws n p j = k.leaves j (below_count k r) in
      subst (λ (y : ℕ). word ws y tier_field ≡ 1) (one_name f.names r refl) f.tier

  -- what a slot's block has of a child
  pub lies_there : {p j x : ℕ} → SpreadOk ws n p → Names ws n p j x →
      (top_of ws x ≤ tier_of ws p - 1) × (block_of (tier_of ws p - 1) (base x) ≡ slots * block_of (tier_of ws p) (base p) + j)
  lies_there {p} {j} {x} k r = go (k.slot j r.slot)
    where
      go : SlotOk ws n p j → (top_of ws x ≤ tier_of ws p - 1) ×
          (block_of (tier_of ws p - 1) (base x) ≡ slots * block_of (tier_of ws p) (base p) + j)
      go (nothing e) = absurd (omega (arith, r.is))
      go (a_leaf y b t) =
          let e : y ≡ x = one_name b.names r refl in
          let z : top_of ws y ≡ 0 = leaf_top b.names.below t in
          subst (λ (q : ℕ). (top_of ws q ≤ tier_of ws p - 1) ×
          (block_of (tier_of ws p - 1) (base q) ≡ slots * block_of (tier_of ws p) (base p) + j)) e (omega arith, b.within)
      go (a_branch y b t f c) =
          let e : y ≡ x = one_name b.names r refl in
          subst (λ (q : ℕ). (top_of ws q ≤ tier_of ws p - 1) ×
          (block_of (tier_of ws p - 1) (base q) ≡ slots * block_of (tier_of ws p) (base p) + j)) e (omega arith, b.within)

  way_down : {p i j x m y : ℕ} → Live ws n p → Names ws n p j m → Names ws n p i x → Above x y → Live ws n m →
      top_of ws y ≤ top_of ws m → block_of (top_of ws m) (base y) ≡ block_of (top_of ws m) (base m) → i ≡ j
  way_down {p} {i} {j} {x} {m} {y} a r q b am h e = go (s.block p a.below)
    where
      go : BlockOk ws n p → i ≡ j
      go (free f) = absurd (omega (arith, f 0 (omega arith), a.used))
      go (leaf k) = absurd (omega (arith, k.empty j r.slot, r.is))
      go (cut k) = only i q ∙ sym (only j r)
        where
          only : (o : ℕ) {z : ℕ} → Names ws n p o z → o ≡ 0
          only o f = by_t (eqb o 0) (λ c. eqb-true _ _ c)
              (λ c. let ne : o ≡ 0 → ⊥ = eqb-false _ _ c in absurd (omega (arith, k.empty o (omega arith) f.slot, f.is)))
      go (packed k) =
          let tx : word ws x tier_field ≡ 1 = leaf_there k q in
          let tm : word ws m tier_field ≡ 1 = leaf_there k r in
          let yx : y ≡ x = leaf_only q.below tx b in
          let z : top_of ws m ≡ 0 = leaf_top r.below tm in
          let e' : block_of 0 (base y) ≡ block_of 0 (base m) = subst (λ (v : ℕ). block_of v (base y) ≡ block_of v (base m)) z e in
          one_slot k q r (below_count k q) (below_count k r)
          (ap base (sym yx) ∙ sym (block_zero (base y)) ∙ e' ∙ block_zero (base m))
      go (spread k) =
          let (tx, bx) = lies_there k q in
          let (tm, bm) = lies_there k r in
          let f : block_of (tier_of ws p - 1) (base y) ≡ block_of (tier_of ws p - 1) (base x) =
          up {v = top_of ws x} {w = tier_of ws p - 1} (base y) (base x) tx (above_in b) in
          let g : block_of (tier_of ws p - 1) (base y) ≡ block_of (tier_of ws p - 1) (base m) =
          up {v = top_of ws m} {w = tier_of ws p - 1} (base y) (base m) tm e in
          cancel (slots * block_of (tier_of ws p) (base p)) i j (sym bx ∙ sym f ∙ g ∙ bm)
        where
          cancel : (u v w : ℕ) → u + v ≡ u + w → v ≡ w
          cancel u v w d = omega arith

  -- what lies in the block of m hangs under m
  own_step : {m y : ℕ} → Live ws n m → Live ws n y → top_of ws y ≤ top_of ws m →
      block_of (top_of ws m) (base y) ≡ block_of (top_of ws m) (base m) →
      ((p : ℕ) → Live ws n p → top_of ws m < top_of ws p → top_of ws y ≤ top_of ws p →
      block_of (top_of ws p) (base y) ≡ block_of (top_of ws p) (base p) → Above p y) → Above m y
  own_step {m} {y} a b le e f = go (s.named m a)
    where
      go : Named ws n m → Above m y
      go (by_root d) = let t : Rooted y = rooted b in
          subst (λ (q : ℕ). Above q y) (omega (arith, t.is)) t.above
      go (by_slot p j c r) =
          let ch : Child p j m = child_of_lem c r in
          let lt : top_of ws m < top_of ws p = ch.falls in
          let t : Above p y = f p c lt (omega arith)
          (up {v = top_of ws m} {w = top_of ws p} (base y) (base m) (omega arith) e ∙ ch.inside) in
          elim (above_split t) [
            | inl d ↦ absurd (omega (arith, ap (top_of ws) d))
            | inr u ↦ subst (λ (q : ℕ). Above q y) (one_name u.names r (way_down c r u.names u.above a le e)) u.above
          ]

  own_by : (k : ℕ) {m y : ℕ} → Live ws n m → Live ws n y → top_tier ≤ top_of ws m + k → top_of ws y ≤ top_of ws m →
      block_of (top_of ws m) (base y) ≡ block_of (top_of ws m) (base m) → Above m y
  own_by zero {m} a b h le e = own_step a b le e (λ p c lt le' e'. absurd (omega (arith, top_le c)))
  own_by (suc k) {m} a b h le e = own_step a b le e (λ p c lt le' e'. own_by k c b (omega arith) le' e')

  pub own : {m y : ℕ} → Live ws n m → Live ws n y → top_of ws y ≤ top_of ws m →
      block_of (top_of ws m) (base y) ≡ block_of (top_of ws m) (base m) → Above m y
  own a b le e = own_by top_tier a b (omega arith) le e

  -- none twice
  pub one_block : {m y : ℕ} → Live ws n m → Live ws n y → top_of ws y ≡ top_of ws m →
      block_of (top_of ws m) (base y) ≡ block_of (top_of ws m) (base m) → y ≡ m
  one_block {m} {y} a b t e = above_same (own a b (omega arith) e) t
