-- What a delete takes, where the key was in a slot of its own, in a node of at most 16 keys, or one of two: nothing. (The
-- same two lists as in OneNew, read the other way: l⁺ is the list before.)
use Prim.Native.Nat.{ℕ, suc, ◌*◌, ◌-◌, ◌^◌, ◌≤◌, ◌<◌}
use mathlib.Core.Path.{◌≡◌, sym, ap, ◌∙◌, subst}
use mathlib.Core.Bool.{true, false}
use mathlib.Core.List.{List, []}
use native.Mathlib.Omega.{arith}
use lib.Dec.{leb, eqb}
use borrow.Author.Tests.{eqb-true, eqb-false, leb-true, leb-false}
use Rattle.blocks.specs.Lists.{In}
use Rattle.blocks.proofs.BoolLaws.{by_t, clash}
use Rattle.assoc_tree.specs.Keys.{Item, insert, Sorted}
use Rattle.assoc_tree.specs.Parts.{Part, part, top, tier_bits, block_of, size, size_over, full, top_tier, skipped, low_from, branch, is_upper, has, new_parts}
use Rattle.assoc_tree.proofs.SizeLaws.{up, has_branch, over_branch, low_le}
use Rattle.assoc_tree.proofs.KeyLaws.{leaf_is, has_leaf}
use Rattle.assoc_tree.proofs.SortedLaws.{insert_stays}
use Rattle.assoc_stay.proofs.StayLaws.{apart_insert, far_branch, far_has}
use Rattle.assoc_tree.proofs.PartLaws.{has_open}
use Rattle.assoc_stay.proofs.ChainLaws.{c_end, new_are}
use Rattle.assoc_stay.proofs.MoreLaws.{more_size, path_upper, path_branch, beside_upper}
use Rattle.assoc_tree.proofs.RunLaws.{size_mono, deep_two, few_low, few_upper}

module _ (e : Item) (l : List Item) (fresh : (x : Item) → In x l → x.key ≡ e.key → ⊥) (sorted : Sorted 0 l)
    (w : ℕ) (above : full < size_over l (suc w) e.key) (few : size_over l w e.key < full) (high : suc w ≤ top_tier)
    (open' : (x : Item) → In x l → block_of (suc w) x.key ≡ block_of (suc w) e.key → skipped l (suc w) x.key ≡ false) where
  abbrev k : ℕ
  k = e.key

  abbrev l⁺ : List Item
  l⁺ = insert e l

  under : size_over l w k ≤ full
  under = omega arith

  old_in : {x : Item} → In x l → In x l⁺
  old_in {x} i = insert_stays e l i (fresh x i)

  leaf_stays : (p : Part) (x : Item) → In x l → p ≡ branch l 0 x.key → has l⁺ p ≡ true
  leaf_stays p x i q = ap (has l⁺) (q ∙ leaf_is l x.key) ∙ has_leaf l⁺ (old_in i)

  -- under the turn there is nothing but leaves
  small : (v : ℕ) (x : Item) → v < w → block_of (suc v) x.key ≡ block_of (suc v) k → full < size_over l (suc v) x.key → ⊥
  small v x h b g =
      let a : size_over l (suc v) x.key ≡ size_over l (suc v) k = ap (size l (suc v)) b in
      let m : size_over l (suc v) k ≤ size_over l w k = size_mono l (suc v) w k h in omega arith

  on_path_lem : (p : Part) (v : ℕ) (x : Item) → In x l → is_upper l v x.key ≡ true → p ≡ branch l v x.key →
      block_of v x.key ≡ block_of v k → has l⁺ p ≡ true
  on_path_lem p v x i u q b =
      by_t (leb (suc w) v)
      (λ c. let h : suc w ≤ v = leb-true _ _ c in
      ap (has l⁺) (q ∙ sym (path_branch e l fresh w above under open' v x h i b)) ∙
      has_branch l⁺ v (old_in i) (path_upper e l fresh w above under open' v x h i b ∙ u))
      (λ c. let h : v < suc w = leb-false _ _ c in
      by_t (eqb v 0) (λ z. leaf_stays p x i (q ∙ ap (λ (r : ℕ). branch l r x.key) (eqb-true _ _ z)))
      (λ z. let n0 : v ≡ 0 → ⊥ = eqb-false _ _ z in
      let (two, big) = deep_two l v x.key u (omega arith) (omega arith) in
      by_t (eqb v w)
      (λ r. at_turn (eqb-true _ _ r) (omega arith) two)
      (λ r. let n : v ≡ w → ⊥ = eqb-false _ _ r in
      absurd (small v x (omega arith) (up {v = v} {w = suc v} x.key k (omega arith) b) big))))
    where
      at_turn : v ≡ w → 1 ≤ v → 2 ≤ size_over l v x.key → has l⁺ p ≡ true
      at_turn r pos two =
          let a : size_over l⁺ v x.key ≡ suc (size_over l v k) = ap (size l⁺ v) b ∙ more_size e l fresh v in
          let s : size_over l v x.key ≡ size_over l v k = ap (size l v) b in
          let f : size_over l v k < full = subst (λ (j : ℕ). size_over l j k < full) (sym r) few in
          let g : full < size_over l (suc v) k = subst (λ (j : ℕ). full < size_over l (suc j) k) (sym r) above in
          let b' : block_of (suc v) x.key ≡ block_of (suc v) k = up {v = v} {w = suc v} x.key k (omega arith) b in
          let a' : size_over l⁺ (suc v) x.key ≡ suc (size_over l (suc v) k) = ap (size l⁺ (suc v)) b' ∙ more_size e l fresh (suc v) in
          let lo : low_from l x.key v ≡ v = few_low l v x.key (omega arith) in
          let lo' : low_from l⁺ x.key v ≡ v = few_low l⁺ v x.key (omega arith) in
          ap (has l⁺) (q ∙ ap (λ (j : ℕ). part j (v - j) (block_of j x.key * 2 ^ tier_bits j)) (lo ∙ sym lo')) ∙
          has_branch l⁺ v (old_in i) (few_upper l⁺ v x.key pos (omega arith) (omega arith) (omega arith) (omega arith))

  beside : (p : Part) (v : ℕ) (x : Item) → In x l → is_upper l v x.key ≡ true → p ≡ branch l v x.key →
      block_of (suc v) x.key ≡ block_of (suc v) k → (block_of v k ≡ block_of v x.key → ⊥) → has l⁺ p ≡ true
  beside p v x i u q b n =
      by_t (leb w v)
      (λ c. ap (has l⁺) (q ∙ far_branch (apart_insert e l) v x.key n) ∙
      has_branch l⁺ v (old_in i) (beside_upper e l fresh w above under open' v x (leb-true _ _ c) i b n ∙ u))
      (λ c. let h : v < w = leb-false _ _ c in
      by_t (eqb v 0) (λ z. leaf_stays p x i (q ∙ ap (λ (r : ℕ). branch l r x.key) (eqb-true _ _ z)))
      (λ z. let n0 : v ≡ 0 → ⊥ = eqb-false _ _ z in
      let (two, big) = deep_two l v x.key u (omega arith) (omega arith) in absurd (small v x h b big)))

  pub old_stays : (p : Part) → has l p ≡ true → has l⁺ p ≡ true
  old_stays p t = go (has_open l p t)
    where
      go : (x : Item) × In x l × (is_upper l (top p) x.key ≡ true) × (p ≡ branch l (top p) x.key) → has l⁺ p ≡ true
      go (x, i, u, q) =
          by_t (eqb (block_of (suc (top p)) k) (block_of (suc (top p)) x.key))
          (λ a. by_t (eqb (block_of (top p) k) (block_of (top p) x.key))
          (λ b. on_path_lem p (top p) x i u q (sym (eqb-true _ _ b)))
          (λ b. beside p (top p) x i u q (sym (eqb-true _ _ a)) (eqb-false _ _ b)))
          (λ a. sym (far_has (apart_insert e l) p (λ d. eqb-false _ _ a (d ∙ far_base))) ∙ t)
        where
          far_base : block_of (suc (top p)) p.base ≡ block_of (suc (top p)) x.key
          far_base = ap (λ (r : Part). block_of (suc (top p)) r.base) q ∙
              over_branch l (top p) (suc (top p)) x.key (omega (arith, low_le l x.key (top p)))

  pub none_less : new_parts l⁺ l ≡ []
  none_less = new_are l⁺ l [] sorted c_end (λ p i. elim i [ ]) (λ p t f. absurd (clash (old_stays p t) f))
