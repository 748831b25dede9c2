-- What the tests of a node's slots decide.
use Prim.Native.Nat.{ℕ, suc, ◌+◌, ◌*◌, ◌-◌, ◌/◌, ◌%◌, ◌≤◌, ◌<◌}
use mathlib.Core.Path.{◌≡◌, sym, ◌∙◌, subst}
use mathlib.Core.Bool.{Bool}
use mathlib.Core.List.{List}
use native.Mathlib.Omega.{arith}
use lib.Dec.{eqb, ltb}
use lib.ListN.{length}
use borrow.Author.Tests.{eqb-true, eqb-false, eq-eqb, ne_eqb, ltb-true, lt-ltb}
use Rattle.blocks.specs.Deciding.{Decides}
use Rattle.blocks.proofs.BoolLaws.{by_t, clash, decide_eqb}
use Rattle.blocks.proofs.ListLaws.{get_or_out}
use Rattle.assoc_tree.specs.Parts.{block_of, full, slots}
use Rattle.assoc_tree.proofs.SlotLaws.{tier_up}
use Rattle.assoc_layout.specs.Words.{place, block_words, pool_words, tier_field, value_field, slot_field}
use Rattle.assoc_layout.specs.Decode.{word, base_at}
use Rattle.assoc_layout.specs.Reading.{Blank, Together}
use Rattle.assoc_local.specs.Local.{tier_of, skip_of, count_of, top_of, slot_at, keys_under, keys_at}
use Rattle.assoc_local.specs.Local.{Head, LeafIn, PackedOk, Lies, SlotOk, nothing, a_leaf, a_branch}
use Rattle.assoc_check.specs.Checking.{InSlot, Rises, Leaves}
use Rattle.assoc_check.proofs.BlockOkLaws.{slots_blank, blank_slots_lem}

pub decide_ltb : {A : Type 0} (x y : ℕ) → (x < y → A) → (A → x < y) → Decides (ltb x y) A
decide_ltb x y f g = ((λ t. f (ltb-true x y t)), (λ t a. clash (lt-ltb x y (g a)) t))

module _ (ws : List ℕ) (n m : ℕ) where
  -- LEAVES IN A ROW
  pub rises_decides : (r : Bool) (j x y : ℕ) → 1 ≤ j → x ≡ slot_at ws m (j - 1) - 1 → y ≡ slot_at ws m j - 1 →
      Decides r (base_at ws x < base_at ws y) → Decides r (Rises ws n m (j - 1))
  rises_decides r j x y h e f d =
      let q : suc (j - 1) ≡ j = omega arith in
      rw (q, ← e, ← f) d

  pub fewer : (a b : ℕ) → a ≤ b → Leaves ws n m b → Leaves ws n m a
  fewer a b h l = record { leaves = λ j g. l.leaves j (omega arith); rising = λ j g. l.rising j (omega arith) }

  pub no_leaves : Leaves ws n m 0
  no_leaves = record { leaves = λ j g. absurd (omega arith); rising = λ j g. absurd (omega arith) }

  pub one_leaf : (k : ℕ) → k ≡ 0 → LeafIn ws n m k → Leaves ws n m (k + 1)
  one_leaf k z l =
      record {
        leaves = λ j g. let e : k ≡ j = omega arith in subst (LeafIn ws n m) e l;
        rising = λ j g. absurd (omega arith);
      }

  pub next_decides : (r : Bool) (k : ℕ) → Leaves ws n m k → LeafIn ws n m k → (k ≡ 0 → ⊥) → Decides r (Rises ws n m (k - 1)) →
      Decides r (Leaves ws n m (k + 1))
  next_decides r k old l h d = (
    (λ t. record {
      leaves = λ j g. by_t (eqb k j) (λ c. subst (LeafIn ws n m) (eqb-true k j c) l)
          (λ c. let ne : k ≡ j → ⊥ = eqb-false k j c in old.leaves j (omega arith));
      rising = λ j g. by_t (eqb (k - 1) j) (λ c. subst (Rises ws n m) (eqb-true (k - 1) j c) (d.0 t))
          (λ c. let ne : k - 1 ≡ j → ⊥ = eqb-false (k - 1) j c in old.rising j (omega arith));
    }),
    (λ t a. d.1 t (a.rising (k - 1) (omega arith))),
  )

  pub packed_decides : (r : Bool) (count : ℕ) → Head ws n m → skip_of ws m ≡ 0 → count ≡ count_of ws m → count ≤ full →
      (count ≡ 0 → ⊥) → Blank ws m (slot_field + count) block_words → Decides r (Leaves ws n m count) → Decides r (PackedOk ws n m)
  packed_decides r count h s e few some b d = (
    (λ t. let l : Leaves ws n m (count_of ws m) = subst (Leaves ws n m) e (d.0 t) in
        record {
          head = h;
          skip = s;
          some_key = omega arith;
          few = omega arith;
          leaves = l.leaves;
          rising = l.rising;
          empty = λ j a g. slots_blank ws m count b j (omega arith) g;
        }),
    (λ t p. d.1 t (subst (Leaves ws n m) (sym e) (record { leaves = p.leaves; rising = p.rising }))),
  )

  pub packed_empty : (count : ℕ) → count ≡ count_of ws m → PackedOk ws n m → Blank ws m (slot_field + count) block_words
  packed_empty count e p = blank_slots_lem ws m count (λ j a g. p.empty j (omega arith) g)

  -- A SLOT OF A NODE WITH MORE
  module _ (j x : ℕ) (e : slot_at ws m j ≡ suc x) where
    pub slot_lies : SlotOk ws n m j → Lies ws n m j x
    slot_lies (nothing z) = absurd (omega arith)
    slot_lies (a_leaf y l t) = let q : y ≡ x = omega (arith, l.names.is) in subst (Lies ws n m j) q l
    slot_lies (a_branch y l a b k) = let q : y ≡ x = omega (arith, l.names.is) in subst (Lies ws n m j) q l

    pub slot_branch : (word ws x tier_field ≡ 1 → ⊥) → SlotOk ws n m j →
        (2 ≤ word ws x tier_field) × (top_of ws x ≡ tier_of ws m - 1) × (2 ≤ keys_under ws x)
    slot_branch ne (nothing z) = absurd (omega arith)
    slot_branch ne (a_leaf y l t) =
        let q : y ≡ x = omega (arith, l.names.is) in absurd (ne (subst (λ (z : ℕ). word ws z tier_field ≡ 1) q t))
    slot_branch ne (a_branch y l a b k) =
        let q : y ≡ x = omega (arith, l.names.is) in
        subst (λ (z : ℕ). (2 ≤ word ws z tier_field) × (top_of ws z ≡ tier_of ws m - 1) × (2 ≤ keys_under ws z)) q (a, b, k)

    module _ (v : ℕ) (tier : tier_of ws m ≡ suc v) where
      less_one : tier_of ws m - 1 ≡ v
      less_one = omega arith

      pub lies_in : Lies ws n m j x → InSlot ws m v j x
      lies_in l = rw (← tier, ← less_one) l.within

      pub in_lies : j < slots → x < n → InSlot ws m v j x → Lies ws n m j x
      in_lies h lt i = record { names = record { slot = h; is = e; below = lt }; within = rw (less_one, tier) i }

      pub branch_decides : (k : ℕ) → k ≡ keys_under ws x → Lies ws n m j x → (word ws x tier_field ≡ 1 → ⊥) →
          (2 ≤ word ws x tier_field) × (top_of ws x ≡ v) → Decides (ltb 1 k) (SlotOk ws n m j)
      branch_decides k q l ne t =
          decide_ltb 1 k (λ h. a_branch x l t.0 (t.1 ∙ sym less_one) (rw (← q) h))
          (λ s. rw q (slot_branch ne s).2)

      pub not_topped : SlotOk ws n m j → (word ws x tier_field ≡ 1 → ⊥) → (2 ≤ word ws x tier_field) × (top_of ws x ≡ v)
      not_topped s ne = let b = slot_branch ne s in (b.0, b.1 ∙ less_one)

  pub slot_below : (j : ℕ) → SlotOk ws n m j → slot_at ws m j ≤ n
  slot_below j (nothing z) = omega arith
  slot_below j (a_leaf y l t) = omega (arith, l.names.is, l.names.below)
  slot_below j (a_branch y l a b k) = omega (arith, l.names.is, l.names.below)

-- THE BLOCK OF A SLOT, by that of the node and a nibble
module _ (ws : List ℕ) (m v j x : ℕ) (h : j < slots) where
  pub slot_together : (u : ℕ) → u ≡ suc v → InSlot ws m v j x → Together ws x m u
  slot_together u e i = rw e (up (block_of v (base_at ws x)) _ _ (tier_up v (base_at ws x)) i)
    where
      up : (a b c : ℕ) → c ≡ a / slots → a ≡ slots * b + j → c ≡ b
      up a b c p q = omega arith

  pub slot_decides : (u d : ℕ) → u ≡ suc v → Together ws x m u → d ≡ block_of v (base_at ws x) % 16 → Decides (eqb d j) (InSlot ws m v j x)
  slot_decides u d e t q =
      let s : block_of (suc v) (base_at ws x) ≡ block_of (suc v) (base_at ws m) = (rw e at t) in
      decide_eqb d j (λ z. yes (block_of v (base_at ws x)) _ _ (tier_up v (base_at ws x)) s (sym q ∙ z))
      (λ i. q ∙ no (block_of v (base_at ws x)) _ i)
    where
      yes : (a b c : ℕ) → c ≡ a / slots → c ≡ b → a % 16 ≡ j → a ≡ slots * b + j
      yes a b c p r z = omega arith

      no : (a b : ℕ) → a ≡ slots * b + j → a % 16 ≡ j
      no a b i = omega arith

-- KEYS BELOW A BLOCK
module _ (ws : List ℕ) (x : ℕ) where
  pub under_leaf : word ws x tier_field ≡ 1 → 1 ≡ keys_under ws x
  under_leaf t = rw (eq-eqb (word ws x tier_field) 1 t)

  pub under_node : (k : ℕ) → (word ws x tier_field ≡ 1 → ⊥) → skip_of ws x ≡ 0 → k ≡ count_of ws x → k ≡ keys_under ws x
  under_node k t s e = rw (ne_eqb (word ws x tier_field) 1 t, eq-eqb (skip_of ws x) 0 s) e

  pub under_cut : (k y : ℕ) → (word ws x tier_field ≡ 1 → ⊥) → (skip_of ws x ≡ 0 → ⊥) → y ≡ slot_at ws x 0 - 1 → k ≡ count_of ws y →
      k ≡ keys_under ws x
  under_cut k y t s q e = rw (ne_eqb (word ws x tier_field) 1 t, ne_eqb (skip_of ws x) 0 s, ← q) e

pub beyond : (ws : List ℕ) (n y : ℕ) → length ws ≡ pool_words n → n ≤ y → 0 ≡ count_of ws y
beyond ws n y e h = sym (get_or_out ws (place y value_field) (omega arith))

pub at_none : (ws : List ℕ) (r : ℕ) → r ≡ 0 → 0 ≡ keys_at ws r
at_none ws r z = rw (eq-eqb r 0 z)

pub at_some : (ws : List ℕ) (r k : ℕ) → (r ≡ 0 → ⊥) → k ≡ keys_under ws (r - 1) → k ≡ keys_at ws r
at_some ws r k ne e = rw (ne_eqb r 0 ne) e
