-- A new key that makes no node of 17 and parts no run: into an empty slot of a node with more than 16 keys, or into a node
-- with 2 to 15, only its leaf is new; beside a leaf in its slot, a node of two is new too.
use Prim.Native.Nat.{ℕ, suc, ◌*◌, ◌-◌, ◌^◌, ◌≤◌, ◌<◌}
use mathlib.Core.Path.{◌≡◌, sym, ap, ◌∙◌, subst}
use mathlib.Core.Bool.{true, false}
use mathlib.Core.List.{List, [], ◌∷◌}
use mathlib.Core.Logic.{◌⊎◌, inl, inr}
use native.Mathlib.Omega.{arith}
use lib.Dec.{leb, eqb}
use borrow.Author.Tests.{eqb-true, eqb-false, leb-true, leb-false}
use Rattle.blocks.specs.Lists.{In, here, there}
use Rattle.blocks.proofs.BoolLaws.{by_t, is_false, clash}
use Rattle.blocks.proofs.ListLaws.{in_cons}
use Rattle.assoc_tree.specs.Keys.{Item, insert, Sorted}
use Rattle.assoc_tree.specs.Parts.{Part, part, top, tier_bits, block_of, over, size, size_over, full, top_tier, skipped, low_from, branch, leaf, is_upper, has, new_parts}
use Rattle.assoc_tree.proofs.SizeLaws.{up, branch_same, upper_same, has_branch, over_branch, low_le}
use Rattle.assoc_tree.proofs.KeyLaws.{block_zero, leaf_is, has_leaf}
use Rattle.assoc_tree.proofs.SortedLaws.{in_insert, insert_in, insert_stays}
use Rattle.assoc_stay.proofs.StayLaws.{apart_insert, far_branch, far_has}
use Rattle.assoc_tree.proofs.PartLaws.{has_open}
use Rattle.assoc_stay.proofs.ChainLaws.{Before, c_end, c_more, new_are}
use Rattle.blocks.proofs.BlockLaws.{block_at}
use Rattle.assoc_stay.proofs.MoreLaws.{more_size, path_upper, path_branch, beside_upper}
use Rattle.assoc_tree.proofs.RunLaws.{size_mono, keep_some, deep_two, few_low, nd_of, few_upper}

module _ (e : Item) (l : List Item) (fresh : (x : Item) → In x l → x.key ≡ e.key → ⊥) (sorted : Sorted 0 (insert e l))
    (w : ℕ) (above : full < size_over l (suc w) e.key) (few : size_over l w e.key < full)
    (high : suc w ≤ top_tier)
    (open' : (x : Item) → In x l → block_of (suc w) x.key ≡ block_of (suc w) e.key → skipped l (suc w) x.key ≡ false) where
  abbrev k : ℕ
  k = e.key

  abbrev l⁺ : List Item
  l⁺ = insert e l

  under : size_over l w k ≤ full
  under = omega arith

  some_in : (v : ℕ) → 1 ≤ size_over l v k → (y : Item) × In y l × (block_of v y.key ≡ block_of v k)
  unfolding size
  some_in v h = let (y, i, t) = keep_some (over v (block_of v k)) l h in (y, i, eqb-true _ _ t)

  old_in : {x : Item} → In x l → In x l⁺
  old_in {x} i = insert_stays e l i (fresh x i)

  abbrev pair : Part
  pair = part w 0 (block_of w k * 2 ^ tier_bits w)

  abbrev New : Part → Type 0
  New p = (p ≡ leaf l k) ⊎ ((size_over l w k ≡ 1) × (p ≡ pair))

  new_only : (p : Part) → has l⁺ p ≡ true → has l p ≡ false → New p
  new_only p t f =
      let (x, i, u, q) = has_open l⁺ p t in
      by_t (eqb (block_of (suc (top p)) k) (block_of (suc (top p)) x.key))
      (λ a. by_t (eqb (block_of (top p) k) (block_of (top p) x.key))
      (λ b. on_path_lem (top p) x i u q (sym (eqb-true _ _ b)))
      (λ b. beside (top p) x i u q (sym (eqb-true _ _ a)) (eqb-false _ _ b)))
      (λ a. absurd (clash (far_has (apart_insert e l) p (λ d. eqb-false _ _ a (d ∙ far_base x q)) ∙ t) f))
    where
      far_base : (x : Item) → p ≡ branch l⁺ (top p) x.key → block_of (suc (top p)) p.base ≡ block_of (suc (top p)) x.key
      far_base x q = ap (λ (r : Part). block_of (suc (top p)) r.base) q ∙
          over_branch l⁺ (top p) (suc (top p)) x.key (omega (arith, low_le l⁺ x.key (top p)))

      -- p is a part of the old tree
      old : (v : ℕ) (y : Item) → In y l → is_upper l v y.key ≡ true → p ≡ branch l v y.key → New p
      old v y j u q = absurd (clash (ap (has l) q ∙ has_branch l v j u) f)

      small : (v : ℕ) (x : Item) → v < w → block_of (suc v) x.key ≡ block_of (suc v) k → full < size_over l⁺ (suc v) x.key → ⊥
      small v x h b g =
          let a : size_over l⁺ (suc v) x.key ≡ suc (size_over l (suc v) k) = ap (size l⁺ (suc v)) b ∙ more_size e l fresh (suc v) in
          let m : size_over l (suc v) k ≤ size_over l w k = size_mono l (suc v) w k h in omega arith

      on_path_lem : (v : ℕ) (x : Item) → In x l⁺ → is_upper l⁺ v x.key ≡ true → p ≡ branch l⁺ v x.key →
          block_of v x.key ≡ block_of v k → New p
      on_path_lem v x i u q b =
          by_t (leb (suc w) v)
          (λ c. let h : suc w ≤ v = leb-true _ _ c in
          let m : size_over l (suc w) k ≤ size_over l v k = size_mono l (suc w) v k h in
          let (y, j, d) = some_in v (omega arith) in
          let same : block_of v y.key ≡ block_of v x.key = d ∙ sym b in
          old v y j (sym (path_upper e l fresh w above under open' v y h j d) ∙ upper_same l⁺ v (old_in j) i same ∙ u)
          (q ∙ sym (branch_same l⁺ v (old_in j) i same) ∙ path_branch e l fresh w above under open' v y h j d))
          (λ c. let h : v < suc w = leb-false _ _ c in
          by_t (eqb v 0)
          (λ z. let z' : v ≡ 0 = eqb-true _ _ z in
          let key : x.key ≡ k = sym (block_zero x.key) ∙ subst (λ (r : ℕ). block_of r x.key ≡ block_of r k) z' b ∙ block_zero k in
          inl (q ∙ ap (λ (r : ℕ). branch l⁺ r x.key) z' ∙ leaf_is l⁺ x.key ∙ ap (leaf l) key))
          (λ z. let n0 : v ≡ 0 → ⊥ = eqb-false _ _ z in
          let (two, big) = deep_two l⁺ v x.key u (omega arith) (omega arith) in
          by_t (eqb v w)
          (λ r. let r' : v ≡ w = eqb-true _ _ r in at_turn x i (subst (λ (j : ℕ). p ≡ branch l⁺ j x.key) r' q)
          (subst (λ (j : ℕ). block_of j x.key ≡ block_of j k) r' b) (omega arith)
          (subst (λ (j : ℕ). 2 ≤ size_over l⁺ j x.key) r' two))
          (λ r. let n : v ≡ w → ⊥ = eqb-false _ _ r in
          absurd (small v x (omega arith) (up {v = v} {w = suc v} x.key k (omega arith) b) big))))
        where
          at_turn : (x : Item) → In x l⁺ → p ≡ branch l⁺ w x.key → block_of w x.key ≡ block_of w k → 1 ≤ w →
              2 ≤ size_over l⁺ w x.key → New p
          at_turn x i q b pos two =
              let a : size_over l⁺ w x.key ≡ suc (size_over l w k) = ap (size l⁺ w) b ∙ more_size e l fresh w in
              let (y, j, d) = some_in w (omega arith) in
              let same : block_of w y.key ≡ block_of w x.key = d ∙ sym b in
              let sy : size_over l w y.key ≡ size_over l w k = ap (size l w) d in
              let sy' : size_over l⁺ w y.key ≡ suc (size_over l w k) = ap (size l⁺ w) d ∙ more_size e l fresh w in
              let ab : size_over l (suc w) y.key ≡ size_over l (suc w) k = ap (size l (suc w)) (up {v = w} {w = suc w} y.key k (omega arith) d) in
              let lo : low_from l y.key w ≡ w = few_low l w y.key (omega arith) in
              let lo' : low_from l⁺ y.key w ≡ w = few_low l⁺ w y.key (omega arith) in
              by_t (eqb (size_over l w k) 1)
              (λ c. inr (
                eqb-true _ _ c,
                q ∙ nd_of l⁺ w x.key (few_low l⁺ w x.key (omega arith)) ∙
                    ap (λ (g : ℕ). part w 0 (g * 2 ^ tier_bits w)) b,
              ))
              (λ c. let n : size_over l w k ≡ 1 → ⊥ = eqb-false _ _ c in
              old w y j (few_upper l w y.key pos (omega arith) (omega arith) (omega arith) (omega arith))
              (q ∙ sym (branch_same l⁺ w (old_in j) i same) ∙
              ap (λ (r : ℕ). part r (w - r) (block_of r y.key * 2 ^ tier_bits r)) (lo' ∙ sym lo)))

      beside : (v : ℕ) (x : Item) → In x l⁺ → is_upper l⁺ v x.key ≡ true → p ≡ branch l⁺ v x.key →
          block_of (suc v) x.key ≡ block_of (suc v) k → (block_of v k ≡ block_of v x.key → ⊥) → New p
      beside v x i u q b n = elim (in_insert e l i) [
        | inl a ↦ absurd (n (ap (λ (z : Item). block_of v z.key) (sym a)))
        | inr j ↦ go j
      ]
        where
          go : In x l → New p
          go j =
              by_t (leb w v)
              (λ c. old v x j (sym (beside_upper e l fresh w above under open' v x (leb-true _ _ c) j b n) ∙ u)
              (q ∙ sym (far_branch (apart_insert e l) v x.key n)))
              (λ c. let h : v < w = leb-false _ _ c in
              by_t (eqb v 0)
              (λ z. absurd (clash (ap (has l) (q ∙ ap (λ (r : ℕ). branch l⁺ r x.key) (eqb-true _ _ z) ∙ leaf_is l⁺ x.key) ∙ has_leaf l j) f))
              (λ z. let n0 : v ≡ 0 → ⊥ = eqb-false _ _ z in
              let (two, big) = deep_two l⁺ v x.key u (omega arith) (omega arith) in absurd (small v x h b big)))

  new_leaf : has l (leaf l k) ≡ false
  new_leaf = is_false (λ t. let (x, i, u, q) = has_open l (leaf l k) t in
      fresh x i (sym (ap (λ (r : Part). r.base) (q ∙ leaf_is l x.key))))

  leaf_new : (has l⁺ (leaf l k) ≡ true) × (has l (leaf l k) ≡ false)
  leaf_new = (has_leaf l⁺ (insert_in e l), new_leaf)

  -- THE ONE NEW PART
  pub one_new : (size_over l w k ≡ 1 → ⊥) → new_parts l l⁺ ≡ leaf l k ∷ []
  one_new n = new_are l l⁺ (leaf l k ∷ []) sorted (c_more (λ q i. elim i [ ]) c_end)
      (λ p i. elim (in_cons i) [ inl a ↦ subst (λ (r : Part). (has l⁺ r ≡ true) × (has l r ≡ false)) (sym a) leaf_new | inr b ↦ elim b [ ] ])
      (λ p t f. elim (new_only p t f) [
        | inl a ↦ subst (λ (r : Part). In r (leaf l k ∷ [])) (sym a) here
        | inr a ↦ absurd (n a.0)
      ])

  -- A NODE OF TWO
  module _ (one : size_over l w k ≡ 1) where
    w_pos : 1 ≤ w
    w_pos = by_t (eqb w 0)
        (λ z. let z' : w ≡ 0 = eqb-true _ _ z in
        let (y, i, d) = some_in w (omega arith) in
        absurd (fresh y i (sym (block_zero y.key) ∙ subst (λ (r : ℕ). block_of r y.key ≡ block_of r k) z' d ∙ block_zero k)))
        (λ z. let n : w ≡ 0 → ⊥ = eqb-false _ _ z in omega arith)

    pair_new : (has l⁺ pair ≡ true) × (has l pair ≡ false)
    pair_new = (
      ap (has l⁺) (sym (nd_of l⁺ w k (few_low l⁺ w k (omega (arith, more_size e l fresh w))))) ∙
          has_branch l⁺ w (insert_in e l) (few_upper l⁺ w k w_pos (omega arith) (omega (arith, more_size e l fresh w))
          (omega (arith, more_size e l fresh w)) (omega (arith, more_size e l fresh (suc w)))),
      is_false (λ t. let (x, i, u, q) = has_open l pair t in
          let tp : top pair ≡ w = omega arith in
          let b : block_of w x.key ≡ block_of w k =
          sym (over_branch l (top pair) w x.key (omega (arith, low_le l x.key (top pair)))) ∙
          ap (λ (r : Part). block_of w r.base) (sym q) ∙ block_at (tier_bits w) (block_of w k) in
          let (two, big) = deep_two l (top pair) x.key u (omega (arith, w_pos)) (omega arith) in
          let sz : size_over l (top pair) x.key ≡ 1 =
          ap (λ (v : ℕ). size_over l v x.key) tp ∙ ap (size l w) b ∙ one in omega arith),
    )

    pub two_new : new_parts l l⁺ ≡ pair ∷ leaf l k ∷ []
    two_new = new_are l l⁺ (pair ∷ leaf l k ∷ []) sorted
        (c_more (λ q i. after q (in_cons {y = leaf l k} {l = []} i)) (c_more (λ q i. elim i [ ]) c_end))
        (λ p i. elim (in_cons i) [
          | inl a ↦ subst (λ (r : Part). (has l⁺ r ≡ true) × (has l r ≡ false)) (sym a) pair_new
          | inr j ↦ elim (in_cons j) [
            | inl a ↦ subst (λ (r : Part). (has l⁺ r ≡ true) × (has l r ≡ false)) (sym a) leaf_new
            | inr b ↦ elim b [ ]
          ]
        ])
        (λ p t f. elim (new_only p t f) [
          | inl a ↦ subst (λ (r : Part). In r (pair ∷ leaf l k ∷ [])) (sym a) (there here)
          | inr a ↦ subst (λ (r : Part). In r (pair ∷ leaf l k ∷ [])) (sym a.1) here
        ])
      where
        after : (q : Part) → (q ≡ leaf l k) ⊎ In q [] → Before pair q
        after q (inl a) = inl (subst (λ (r : Part). top r < top pair) (sym a) (omega (arith, w_pos)))
        after q (inr b) = elim b [ ]
