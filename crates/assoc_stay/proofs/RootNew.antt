-- A new key under a root with 1 to 15 keys: only its leaf is new.
use Prim.Native.Nat.{ℕ, suc, ◌*◌, ◌^◌, ◌≤◌, ◌<◌}
use mathlib.Core.Path.{◌≡◌, refl, sym, ap, ◌∙◌, subst}
use mathlib.Core.Bool.{true, false}
use mathlib.Core.List.{List, [], ◌∷◌}
use mathlib.Core.Logic.{◌⊎◌, inl, inr}
use native.Mathlib.Omega.{arith}
use native.Mathlib.Nat.{le_refl}
use lib.Dec.{eqb}
use borrow.Author.Tests.{eqb-true, eqb-false}
use Rattle.blocks.specs.Lists.{In, here, there}
use Rattle.blocks.proofs.BoolLaws.{by_t, is_false, clash}
use Rattle.blocks.proofs.ListLaws.{in_cons}
use Rattle.assoc_tree.specs.Keys.{Item, insert, Sorted}
use Rattle.assoc_tree.specs.Parts.{Part, part, top, tier_bits, block_of, over, size, size_over, full, top_tier, branch, leaf, is_upper, has, new_parts}
use Rattle.assoc_tree.proofs.SizeLaws.{over_branch, low_le, has_branch}
use Rattle.assoc_tree.proofs.KeyLaws.{leaf_is, has_leaf, key_top}
use Rattle.assoc_tree.proofs.SlotLaws.{root_upper, size_pos}
use Rattle.assoc_tree.proofs.SortedLaws.{in_insert, insert_in, insert_stays}
use Rattle.assoc_stay.proofs.StayLaws.{apart_insert, far_has}
use Rattle.assoc_tree.proofs.PartLaws.{has_open, upper_le}
use Rattle.assoc_stay.proofs.ChainLaws.{Before, c_end, c_more, new_are}
use Rattle.assoc_stay.proofs.MoreLaws.{more_size}
use Rattle.assoc_tree.proofs.RunLaws.{size_mono, deep_two, nd_of, few_low, in_size}
use Rattle.assoc_stay.proofs.SplitNew.{root_block}

module _ (e : Item) (l : List Item) (fresh : (x : Item) → In x l → x.key ≡ e.key → ⊥) (sorted : Sorted 0 l) (sorted⁺ : Sorted 0 (insert e l))
    (few : size_over l top_tier e.key < full) (some_key : 1 ≤ size_over l top_tier e.key) where
  abbrev k : ℕ
  k = e.key

  abbrev l⁺ : List Item
  l⁺ = insert e l

  new_only : (p : Part) → has l⁺ p ≡ true → has l p ≡ false → p ≡ leaf l k
  new_only p h f =
      let (x, i, u, q) = has_open l⁺ p h in
      by_t (eqb (block_of (suc (top p)) k) (block_of (suc (top p)) x.key))
      (λ a. near (top p) x i u q (sym (eqb-true _ _ a)))
      (λ a. absurd (clash (far_has (apart_insert e l) p (λ d. eqb-false _ _ a (d ∙ far_base x q)) ∙ h) f))
    where
      far_base : (x : Item) → p ≡ branch l⁺ (top p) x.key → block_of (suc (top p)) p.base ≡ block_of (suc (top p)) x.key
      far_base x q = ap (λ (r : Part). block_of (suc (top p)) r.base) q ∙
          over_branch l⁺ (top p) (suc (top p)) x.key (omega (arith, low_le l⁺ x.key (top p)))

      at_root : (x : Item) → In x l⁺ → p ≡ branch l⁺ top_tier x.key → p ≡ leaf l k
      at_root x i q =
          let (y, j, d) = in_size l top_tier k some_key in
          let zx : block_of top_tier x.key ≡ 0 = root_block top_tier x.key (le_refl _) (key_top sorted⁺ i) in
          let zy : block_of top_tier y.key ≡ 0 = root_block top_tier y.key (le_refl _) (key_top sorted j) in
          let zk : block_of top_tier k ≡ 0 = root_block top_tier k (le_refl _) (key_top sorted⁺ (insert_in e l)) in
          let sx : size_over l⁺ top_tier x.key ≡ suc (size_over l top_tier k) = ap (size l⁺ top_tier) (zx ∙ sym zk) ∙ more_size e l fresh top_tier in
          let sy : size_over l top_tier y.key ≡ size_over l top_tier k = ap (size l top_tier) (zy ∙ sym zk) in
          let px : p ≡ part top_tier 0 (0 * 2 ^ tier_bits top_tier) = q ∙ nd_of l⁺ top_tier x.key (few_low l⁺ top_tier x.key (omega arith)) ∙
          ap (λ (c : ℕ). part top_tier 0 (c * 2 ^ tier_bits top_tier)) zx in
          let py : branch l top_tier y.key ≡ part top_tier 0 (0 * 2 ^ tier_bits top_tier) =
          nd_of l top_tier y.key (few_low l top_tier y.key (omega arith)) ∙ ap (λ (c : ℕ). part top_tier 0 (c * 2 ^ tier_bits top_tier)) zy in
          absurd (clash (ap (has l) (px ∙ sym py) ∙ has_branch l top_tier j (root_upper l y.key (omega arith))) f)

      near : (v : ℕ) (x : Item) → In x l⁺ → is_upper l⁺ v x.key ≡ true → p ≡ branch l⁺ v x.key →
          block_of (suc v) x.key ≡ block_of (suc v) k → p ≡ leaf l k
      near v x i u q b =
          by_t (eqb v top_tier) (λ c. at_root x i (q ∙ ap (λ (j : ℕ). branch l⁺ j x.key) (eqb-true _ _ c)))
          (λ c. let n : v ≡ top_tier → ⊥ = eqb-false _ _ c in
          let le : v ≤ top_tier = upper_le l⁺ sorted⁺ v x.key (key_top sorted⁺ i) u in
          by_t (eqb v 0)
          (λ o. let px : p ≡ leaf l x.key = q ∙ ap (λ (j : ℕ). branch l⁺ j x.key) (eqb-true _ _ o) ∙ leaf_is l⁺ x.key in
          elim (in_insert e l i) [
            | inl a ↦ px ∙ ap (λ (y : Item). leaf l y.key) a
            | inr j ↦ absurd (clash (ap (has l) px ∙ has_leaf l j) f)
          ])
          (λ o. let o' : v ≡ 0 → ⊥ = eqb-false _ _ o in
          let (two, big) = deep_two l⁺ v x.key u (omega arith) (omega arith) in
          let a : size_over l⁺ (suc v) x.key ≡ suc (size_over l (suc v) k) = ap (size l⁺ (suc v)) b ∙ more_size e l fresh (suc v) in
          absurd (omega (arith, size_mono l (suc v) top_tier k (omega arith)))))

  pub root_new : new_parts l l⁺ ≡ leaf l k ∷ []
  root_new = new_are l l⁺ (leaf l k ∷ []) sorted⁺ (c_more (λ q i. elim i [ ]) c_end)
      (λ p i. elim (in_cons i) [ inl a ↦ subst (λ (r : Part). (has l⁺ r ≡ true) × (has l r ≡ false)) (sym a) leaf_new | inr b ↦ elim b [ ] ])
      (λ p t f. subst (λ (r : Part). In r (leaf l k ∷ [])) (sym (new_only p t f)) here)
    where
      leaf_new : (has l⁺ (leaf l k) ≡ true) × (has l (leaf l k) ≡ false)
      leaf_new = (
        has_leaf l⁺ (insert_in e l),
        is_false (λ t. let (x, i, u, q) = has_open l (leaf l k) t in
            fresh x i (sym (ap (λ (r : Part). r.base) (q ∙ leaf_is l x.key)))),
      )

  -- WHAT A DELETE TAKES of that key: nothing
  old_stays : (p : Part) → has l p ≡ true → has l⁺ p ≡ true
  old_stays p h = go (has_open l p h)
    where
      at_root : (x : Item) → In x l → p ≡ branch l top_tier x.key → has l⁺ p ≡ true
      at_root x i q =
          let zx : block_of top_tier x.key ≡ 0 = root_block top_tier x.key (le_refl _) (key_top sorted i) in
          let zk : block_of top_tier k ≡ 0 = root_block top_tier k (le_refl _) (key_top sorted⁺ (insert_in e l)) in
          let sx : size_over l top_tier x.key ≡ size_over l top_tier k = ap (size l top_tier) (zx ∙ sym zk) in
          let sx⁺ : size_over l⁺ top_tier x.key ≡ suc (size_over l top_tier k) = ap (size l⁺ top_tier) (zx ∙ sym zk) ∙ more_size e l fresh top_tier in
          ap (has l⁺) (q ∙ nd_of l top_tier x.key (few_low l top_tier x.key (omega arith)) ∙
          sym (nd_of l⁺ top_tier x.key (few_low l⁺ top_tier x.key (omega arith)))) ∙
          has_branch l⁺ top_tier (insert_stays e l i (fresh x i)) (root_upper l⁺ x.key (omega arith))

      go : (x : Item) × In x l × (is_upper l (top p) x.key ≡ true) × (p ≡ branch l (top p) x.key) → has l⁺ p ≡ true
      go (x, i, u, q) =
          by_t (eqb (top p) top_tier) (λ c. at_root x i (q ∙ ap (λ (j : ℕ). branch l j x.key) (eqb-true _ _ c)))
          (λ c. let n : top p ≡ top_tier → ⊥ = eqb-false _ _ c in
          let le : top p ≤ top_tier = upper_le l sorted (top p) x.key (key_top sorted i) u in
          by_t (eqb (top p) 0)
          (λ o. ap (has l⁺) (q ∙ ap (λ (j : ℕ). branch l j x.key) (eqb-true _ _ o) ∙ leaf_is l x.key) ∙
          has_leaf l⁺ (insert_stays e l i (fresh x i)))
          (λ o. let o' : top p ≡ 0 → ⊥ = eqb-false _ _ o in
          let (two, big) = deep_two l (top p) x.key u (omega arith) (omega arith) in
          let zx : block_of top_tier x.key ≡ 0 = root_block top_tier x.key (le_refl _) (key_top sorted i) in
          let zk : block_of top_tier k ≡ 0 = root_block top_tier k (le_refl _) (key_top sorted⁺ (insert_in e l)) in
          let sx : size_over l top_tier x.key ≡ size_over l top_tier k = ap (size l top_tier) (zx ∙ sym zk) in
          absurd (omega (arith, size_mono l (suc (top p)) top_tier x.key (omega arith)))))

  pub root_less : new_parts l⁺ l ≡ []
  root_less = new_are l⁺ l [] sorted c_end (λ p i. elim i [ ]) (λ p t f. absurd (clash (old_stays p t) f))

-- THE FIRST KEY
module _ (e : Item) (sorted : Sorted 0 (e ∷ [])) where
  abbrev l₁ : List Item
  l₁ = e ∷ []

  abbrev top₁ : Part
  top₁ = part top_tier 0 (block_of top_tier e.key * 2 ^ tier_bits top_tier)

  small : (v x : ℕ) → size_over l₁ v x ≤ 1
  unfolding size
  small v x = by_t (over v (block_of v x) e) (λ c. rw c (le_refl _)) (λ c. rw c (omega arith))

  none_in : (p : Part) → has [] p ≡ false
  unfolding has
  none_in p = refl

  first_only : (p : Part) → has l₁ p ≡ true → In p (top₁ ∷ leaf l₁ e.key ∷ [])
  first_only p h = go (has_open l₁ p h)
    where
      go : (x : Item) × In x l₁ × (is_upper l₁ (top p) x.key ≡ true) × (p ≡ branch l₁ (top p) x.key) → In p (top₁ ∷ leaf l₁ e.key ∷ [])
      go (x, i, u, q) =
          let xe : x ≡ e = elim (in_cons i) [ inl a ↦ a | inr b ↦ elim b [ ] ] in
          by_t (eqb (top p) top_tier)
          (λ c. subst (λ (r : Part). In r (top₁ ∷ leaf l₁ e.key ∷ []))
          (sym (q ∙ ap (λ (j : ℕ). branch l₁ j x.key) (eqb-true _ _ c) ∙
          nd_of l₁ top_tier x.key (few_low l₁ top_tier x.key (omega (arith, small top_tier x.key))) ∙
          ap (λ (y : Item). part top_tier 0 (block_of top_tier y.key * 2 ^ tier_bits top_tier)) xe)) here)
          (λ c. let n : top p ≡ top_tier → ⊥ = eqb-false _ _ c in
          let le : top p ≤ top_tier = upper_le l₁ sorted (top p) x.key (key_top sorted i) u in
          by_t (eqb (top p) 0)
          (λ o. subst (λ (r : Part). In r (top₁ ∷ leaf l₁ e.key ∷ []))
          (sym (q ∙ ap (λ (j : ℕ). branch l₁ j x.key) (eqb-true _ _ o) ∙ leaf_is l₁ x.key ∙ ap (λ (y : Item). leaf l₁ y.key) xe)) (there here))
          (λ o. let o' : top p ≡ 0 → ⊥ = eqb-false _ _ o in
          let (two, big) = deep_two l₁ (top p) x.key u (omega arith) (omega arith) in
          absurd (omega (arith, small (top p) x.key))))

  top_has : has l₁ top₁ ≡ true
  top_has = ap (has l₁) (sym (nd_of l₁ top_tier e.key (few_low l₁ top_tier e.key (omega (arith, small top_tier e.key))))) ∙
      has_branch l₁ top_tier here (root_upper l₁ e.key (size_pos {l = l₁} {x = e} top_tier here))

  pub first_new : new_parts [] (e ∷ []) ≡ top₁ ∷ leaf l₁ e.key ∷ []
  first_new = new_are [] l₁ (top₁ ∷ leaf l₁ e.key ∷ []) sorted
      (c_more {p = top₁} (λ q i. after q (in_cons {x = q} {y = leaf l₁ e.key} {l = []} i))
      (c_more (λ q i. elim i [ ]) c_end))
      (λ p i. (
        elim (in_cons i) [
          | inl a ↦ subst (λ (r : Part). has l₁ r ≡ true) (sym a) top_has
          | inr b ↦ elim (in_cons b) [ inl a ↦ subst (λ (r : Part). has l₁ r ≡ true) (sym a) (has_leaf l₁ here) | inr c ↦ elim c [ ] ]
        ],
        none_in p,
      ))
      (λ p t f. first_only p t)
    where
      after : (q : Part) → (q ≡ leaf l₁ e.key) ⊎ In q [] → Before top₁ q
      after q (inl a) = inl (subst (λ (r : Part). top r < top top₁) (sym a) (omega arith))
      after q (inr b) = elim b [ ]
