-- The words that stay where one key comes, goes or has another object: every field of a part that is in both trees, but for
-- the key's leaf and the nodes whose block has the key; and there all slots but the key's.
use Prim.Native.Nat.{ℕ, suc, ◌+◌, ◌*◌, ◌-◌, ◌/◌, ◌^◌, ◌≤◌, ◌<◌}
use mathlib.Core.Path.{◌≡◌, refl, sym, ap, ap₂, ◌∙◌, subst}
use mathlib.Core.Bool.{true, false}
use mathlib.Core.List.{List}
use mathlib.Core.Option.{Option, none, some}
use native.Mathlib.Omega.{arith}
use lib.Dec.{eqb, ltb, leb}
use borrow.Author.Tests.{ltb-false, eqb-true, eqb-false, eq-eqb, ne_eqb, leb-true, leb-false}
use Rattle.blocks.specs.Choice.{pick}
use Rattle.blocks.specs.Lists.{In, first}
use Rattle.blocks.specs.Placing.{Placed}
use Rattle.blocks.proofs.BoolLaws.{by_t}
use Rattle.blocks.proofs.BlockLaws.{block_at}
use Rattle.blocks.proofs.ListLaws.{first_yes, first_same, each, in_without, without_in, All-without, look, distinct_without}
use Rattle.blocks.proofs.PlacingLaws.{New}
use Rattle.blocks.proofs.PlaceNumberLaws.{number_stays}
use Rattle.assoc_tree.specs.Keys.{Item, find, is_key_of, Sorted}
use Rattle.assoc_tree.specs.Parts.{Part, part, top, same, tier_bits, block_of, over, in_block, size, size_over, slots, full, top_tier, skipped, low_from, branch, is_upper, has, leads_for, leaf_of, nth, slot, parts, new_parts}
use Rattle.assoc_layout.specs.Words.{Places, block_words, tier_field, skip_field, value_field, slot_field, object_of, ref, value, slot_word, field, number_in, new_places}
use Rattle.assoc_tree.proofs.RunLaws.{nd_of}
use Rattle.assoc_tree.proofs.SizeLaws.{low_ends, low_size, has_branch, skipped_same, same_refl, same_is}
use Rattle.assoc_tree.proofs.KeyLaws.{block_zero, low_pos, size_zero, has_leaf, key_top}
use Rattle.assoc_tree.proofs.SlotLaws.{tier_up, keep_in, nth_in, low_here, upper_here, upper_child}
use Rattle.assoc_stay.proofs.StayLaws.{Apart, far_first, far_size, far_slot, beside_slot}
use Rattle.assoc_tree.proofs.PartLaws.{has_open, in_parts, parts_in_lem, distinct_parts, upper_le}

-- WHAT A PART LEADS TO is in the tree
module _ {l : List Item} (s : Sorted 0 l) where
  -- a node is over a key of the list
  pub record NodeOver (p : Part) : Type 0 where
    pub item : Item
    pub inside : In item l
    pub upper : is_upper l p.tier item.key ≡ true
    pub ends : low_from l item.key p.tier ≡ p.tier
    pub high : p.tier ≤ top_tier
    pub block_is : block_of p.tier p.base ≡ block_of p.tier item.key

  pub node_over : (p : Part) → has l p ≡ true → p.skip ≡ 0 → NodeOver p
  node_over p t z = go (has_open l p t)
    where
      go : (x : Item) × In x l × (is_upper l (top p) x.key ≡ true) × (p ≡ branch l (top p) x.key) → NodeOver p
      go (x, i, u, e) =
          let d : p.tier ≡ top p = omega arith in
          let f : p.tier ≡ low_from l x.key (top p) = ap (λ (q : Part). q.tier) e in
          let b : p.base ≡ block_of (low_from l x.key (top p)) x.key * 2 ^ tier_bits (low_from l x.key (top p)) =
          ap (λ (q : Part). q.base) e in
          record {
            item = x;
            inside = i;
            upper = subst (λ (v : ℕ). is_upper l v x.key ≡ true) (sym d) u;
            ends = ap (low_from l x.key) d ∙ sym f;
            high = omega (arith, upper_le l s (top p) x.key (key_top s i) u);
            block_is = ap₂ block_of f b ∙ block_at (tier_bits (low_from l x.key (top p))) _ ∙ ap (λ (v : ℕ). block_of v x.key) (sym f);
          }

  -- the node under a shortcut
  pub cut_has : (p : Part) → has l p ≡ true → 1 ≤ p.skip → has l (part p.tier 0 p.base) ≡ true
  cut_has p t h = go (has_open l p t)
    where
      go : (x : Item) × In x l × (is_upper l (top p) x.key ≡ true) × (p ≡ branch l (top p) x.key) →
          has l (part p.tier 0 p.base) ≡ true
      go (x, i, u, e) =
          let f : p.tier ≡ low_from l x.key (top p) = ap (λ (q : Part). q.tier) e in
          let b : p.base ≡ block_of (low_from l x.key (top p)) x.key * 2 ^ tier_bits (low_from l x.key (top p)) =
          ap (λ (q : Part). q.base) e in
          let lt : low_from l x.key (top p) < top p = omega arith in
          let hi : top p ≤ top_tier = upper_le l s (top p) x.key (key_top s i) u in
          let (q, m) = low_size l x.key (top p) lt in
          let o : skipped l (low_from l x.key (top p)) x.key ≡ false = low_ends l x.key (top p) in
          let up : is_upper l (low_from l x.key (top p)) x.key ≡ true =
          upper_here l (low_from l x.key (top p)) x.key (low_pos s x.key (top p) (omega arith)) (omega arith) (omega arith) o in
          subst (λ (r : Part). has l r ≡ true)
          (nd_of l (low_from l x.key (top p)) x.key (low_here l (low_from l x.key (top p)) x.key o) ∙
          ap₂ (λ (v c : ℕ). part v 0 c) (sym f) (sym b))
          (has_branch l (low_from l x.key (top p)) i up)

  -- what a slot of a node leads to
  pub slot_has : (p : Part) → has l p ≡ true → p.skip ≡ 0 → 1 ≤ p.tier → (j : ℕ) → j < slots → {q : Part} →
      slot l p.tier (block_of p.tier p.base) j ≡ some q → has l q ≡ true
  unfolding slot
  slot_has p t z pos j g {q} e = go (node_over p t z)
    where
      leaf_has : (o : Option Item) → ((y : Item) → o ≡ some y → In y l) → leaf_of o ≡ some q → has l q ≡ true
      leaf_has none f d = let x : ◌≡◌ {A = ℕ} 0 1 = cc in absurd (omega arith)
      leaf_has (some y) f d = let r : part 0 0 y.key ≡ q = cc in subst (λ (r : Part). has l r ≡ true) r (has_leaf l (f y refl))

      go : NodeOver p → has l q ≡ true
      go r =
          by_t (leb (size l p.tier (block_of p.tier p.base)) full)
          (λ c. leaf_has (nth (in_block l p.tier (block_of p.tier p.base)) j)
          (λ y d. (keep_in (over p.tier (block_of p.tier p.base)) l (nth_in (in_block l p.tier (block_of p.tier p.base)) j d)).0)
          (rw c at e))
          (λ c. spread (leb-false _ _ c) (first (over (p.tier - 1) (slots * block_of p.tier p.base + j)) l) refl (rw c at e))
        where
          some_is : {a b : Part} → some a ≡ some b → a ≡ b
          some_is d = cc

          spread : full < size l p.tier (block_of p.tier p.base) → (o : Option Item) →
              first (over (p.tier - 1) (slots * block_of p.tier p.base + j)) l ≡ o →
              leads_for l (p.tier - 1) (slots * block_of p.tier p.base + j) o ≡ some q → has l q ≡ true
          spread many none f d = let x : ◌≡◌ {A = ℕ} 0 1 = cc in absurd (omega arith)
          spread many (some y) f d =
              let (a, i) = first_yes (over (p.tier - 1) (slots * block_of p.tier p.base + j)) (each l (λ x m. m)) f in
              let b : block_of (p.tier - 1) y.key ≡ slots * block_of p.tier p.base + j = eqb-true _ _ a in
              by_t (leb 2 (size l (p.tier - 1) (slots * block_of p.tier p.base + j)))
              (λ c. subst (λ (r : Part). has l r ≡ true) (some_is (rw c at d)) (deep y i b (leb-true _ _ c)))
              (λ c. subst (λ (r : Part). has l r ≡ true) (some_is (rw c at d)) (has_leaf l i))
            where
              deep : (y : Item) → In y l → block_of (p.tier - 1) y.key ≡ slots * block_of p.tier p.base + j →
                  2 ≤ size l (p.tier - 1) (slots * block_of p.tier p.base + j) → has l (branch l (p.tier - 1) y.key) ≡ true
              deep y i b two =
                  let down : p.tier ≡ suc (p.tier - 1) = omega arith in
                  let h : (slots * block_of p.tier p.base + j) / slots ≡ block_of p.tier p.base = omega arith in
                  let by : block_of p.tier y.key ≡ block_of p.tier p.base =
                  ap (λ (u : ℕ). block_of u y.key) down ∙ tier_up (p.tier - 1) y.key ∙ ap (λ (k : ℕ). k / slots) b ∙ h in
                  let wpos : 1 ≤ p.tier - 1 = by_t (eqb (p.tier - 1) 0) (λ k. absurd (omega (arith, zero_size (eqb-true _ _ k))))
                  (λ k. let ne : p.tier - 1 ≡ 0 → ⊥ = eqb-false _ _ k in omega arith) in
                  let o : skipped l p.tier y.key ≡ false = skipped_same l p.tier i r.inside (by ∙ r.block_is) ∙
                  subst (λ (v : ℕ). skipped l v r.item.key ≡ false) r.ends (low_ends l r.item.key p.tier) in
                  let m : full < size_over l p.tier y.key = subst (λ (c : ℕ). full < size l p.tier c) (sym by) many in
                  has_branch l (p.tier - 1) i (upper_child l (p.tier - 1) y.key wpos (omega (arith, r.high))
                  (subst (λ (c : ℕ). 2 ≤ size l (p.tier - 1) c) (sym b) two)
                  (subst (λ (u : ℕ). full < size_over l u y.key) down m) (subst (λ (u : ℕ). skipped l u y.key ≡ false) down o))
                where
                  zero_size : p.tier - 1 ≡ 0 → size l (p.tier - 1) (slots * block_of p.tier p.base + j) ≤ 1
                  zero_size k = subst (λ (u : ℕ). size l u (slots * block_of p.tier p.base + j) ≤ 1) (sym k) (size_zero _ s)

-- NUMBERS
pub new_parts_lem : (l : List Item) {l' : List Item} → Sorted 0 l' → New (has l) (has l') (new_parts l l')
new_parts_lem l {l'} s = record {
  was_not = λ p i. (look (All-without (has l) (each (parts l') (λ q m. m))) i).0;
  is_now = λ p i. parts_in_lem l' p (without_in (has l) i);
  every = λ p t f. in_without (has l) (in_parts l' s p t) f;
  once = distinct_without (has l) (distinct_parts l');
}

-- ONE KEY comes, goes or has another object
module _ {k : ℕ} {l l' : List Item} (a : Apart k l l') (s : Sorted 0 l) (s' : Sorted 0 l') {n : ℕ} {os : Places} (pl : Placed n (has l) os) where
  abbrev ν : Part → ℕ
  ν = number_in os

  abbrev ν' : Part → ℕ
  ν' = number_in (new_places l l' os)

  pub stays_at : (p : Part) → has l p ≡ true → has l' p ≡ true → ν' p ≡ ν p
  stays_at p t t' = number_stays same same_is (same_refl l) (new_parts_lem l s') pl p t t'

  -- other keys' objects
  pub find_far : (x : ℕ) → (k ≡ x → ⊥) → find x l ≡ find x l'
  find_far x ne = by l ∙ far_first a 0 x (λ e. ne (sym (block_zero k) ∙ e)) ∙ sym (by l')
    where
      by : (z : List Item) → find x z ≡ first (over 0 x) z
      by z = first_same (is_key_of x) (over 0 x) (each z (λ y m. ap (λ (b : ℕ). eqb b x) (sym (block_zero y.key))))

  -- a word that leads to a part of both trees
  ref_stays : (o : Option Part) → ((q : Part) → o ≡ some q → (has l q ≡ true) × (has l' q ≡ true)) → ref l ν o ≡ ref l' ν' o
  ref_stays none f = refl
  ref_stays (some q) f = let (t, t') = f q refl in ap suc (sym (stays_at q t t'))

  module _ (p : Part) (t : has l p ≡ true) (t' : has l' p ≡ true) where
    abbrev c : ℕ
    c = block_of p.tier p.base

    slot_ref : p.skip ≡ 0 → 1 ≤ p.tier → (j : ℕ) → j < slots → slot l p.tier c j ≡ slot l' p.tier c j →
        ref l ν (slot l p.tier c j) ≡ ref l' ν' (slot l' p.tier c j)
    slot_ref z pos j g e = ref_stays (slot l p.tier c j) (λ q d. (slot_has s p t z pos j g d, slot_has s' p t' z pos j g (sym e ∙ d))) ∙
        ap (ref l' ν') e

    -- a slot beside the key's, in a node of more than 16 keys before and after
    pub slot_beside : p.skip ≡ 0 → 1 ≤ p.tier → full < size l p.tier c → full < size l' p.tier c → (j : ℕ) → j < slots →
        (block_of (p.tier - 1) k ≡ slots * c + j → ⊥) → slot_word l ν p j ≡ slot_word l' ν' p j
    slot_beside z pos many many' j g ne =
        rw (ne_eqb p.tier 0 (omega arith), eq-eqb p.skip 0 z) (slot_ref z pos j g (beside_slot a p.tier c j many many' ne))

    -- off the path
    module _ (not-leaf : p.tier ≡ 0 → k ≡ p.base → ⊥) (not_over : 1 ≤ p.tier → p.skip ≡ 0 → block_of p.tier k ≡ c → ⊥) where
      pub value_stays : value l ν p ≡ value l' ν' p
      value_stays =
          by_t (eqb p.tier 0) (λ d. rw d (ap object_of (find_far p.base (not-leaf (eqb-true _ _ d)))))
          (λ d. let ne : p.tier ≡ 0 → ⊥ = eqb-false _ _ d in
          by_t (eqb p.skip 0) (λ e. rw (d, e) (far_size a p.tier c (not_over (omega arith) (eqb-true _ _ e))))
          (λ e. rw (d, e)))

      pub slot_stays : (j : ℕ) → j < slots → slot_word l ν p j ≡ slot_word l' ν' p j
      slot_stays j g =
          by_t (eqb p.tier 0) (λ d. rw d)
          (λ d. let ne : p.tier ≡ 0 → ⊥ = eqb-false _ _ d in
          by_t (eqb p.skip 0)
          (λ e. rw (d, e) (slot_ref (eqb-true _ _ e) (omega arith) j g
          (far_slot a p.tier c j (omega arith) g (not_over (omega arith) (eqb-true _ _ e)))))
          (λ e. let ne' : p.skip ≡ 0 → ⊥ = eqb-false _ _ e in
          rw (d, e) (ap (λ (x : ℕ). pick (eqb j 0) (suc x) 0)
          (sym (stays_at (part p.tier 0 p.base) (cut_has s p t (omega arith)) (cut_has s' p t' (omega arith)))))))

      pub field_stays : (f : ℕ) → f < block_words → field l ν p f ≡ field l' ν' p f
      field_stays f g =
          by_t (eqb f tier_field) (λ d. rw d)
          (λ d. by_t (eqb f skip_field) (λ e. rw (d, e))
          (λ e. by_t (eqb f value_field) (λ h. rw (d, e, h) value_stays)
          (λ h. by_t (ltb f slot_field) (λ i. rw (d, e, h, i))
          (λ i. let le : slot_field ≤ f = ltb-false _ _ i in rw (d, e, h, i) (slot_stays (f - slot_field) (omega arith))))))
