-- The list of a tree's parts: who is in it, and that none is in it twice.
use Prim.Native.Nat.{ℕ, zero, suc, ◌^◌, ◌≤◌, ◌<◌}
use mathlib.Core.Path.{◌≡◌, refl, sym, ap, ◌∙◌, subst}
use mathlib.Core.Bool.{true, false}
use mathlib.Core.List.{List, [], ◌∷◌, ◌++◌}
use mathlib.Core.Option.{Option, none, some}
use mathlib.Core.Logic.{◌⊎◌, inl, inr}
use native.Mathlib.Omega.{arith}
use native.Mathlib.Nat.{le_refl, div-eq_of_lt, pow-le-pow_right, le_trans}
use lib.Dec.{leb, ltb, eqb}
use lib.ListN.{length}
use borrow.Author.Tests.{eqb-true, eqb-false, leb-true, leb-false, eq-eqb, ne_eqb}
use Rattle.blocks.specs.Choice.{both}
use Rattle.blocks.specs.Lists.{any, keep, first, In, here, there, Distinct, d_end, d_more}
use Rattle.blocks.proofs.BoolLaws.{clash, by_t, both_no, either_yes}
use Rattle.blocks.proofs.ListLaws.{first_yes, each, in_cons, in_any, in_left, in_right, in_append}
use Rattle.blocks.proofs.Ascending.{Asc, asc_end, asc_more, mem, mem_low}
use Rattle.assoc_tree.specs.Keys.{Item, Sorted}
use Rattle.assoc_tree.specs.Parts.{Part, top, is_part, tier_bits, block_of, over, size, size_over, full, top_tier, skipped, branch, is_upper, part_over, part_at, has, cons_if, parts_in, key_of, always, blocks, parts_to, parts}
use Rattle.assoc_tree.proofs.SizeLaws.{low_le, top_branch, over_branch, same_refl, same_is}
use Rattle.assoc_tree.proofs.KeyLaws.{key_top}
use Rattle.blocks.proofs.TierLaws as T

-- BLOCKS with a key
pub asc_blocks : (v : ℕ) (l : List Item) → Asc 0 (blocks v l)
asc_blocks v l = T.asc_blocks key_of always (tier_bits v) l

pub mem_blocks : (v c : ℕ) (l : List Item) → mem c (blocks v l) ≡ any (over v c) l
mem_blocks v c l = T.mem_blocks key_of always (tier_bits v) c l

module _ (l : List Item) where
  -- THE PART AT A BLOCK
  pub part_at_lem : (v c : ℕ) (p : Part) → part_at l v c ≡ some p →
      (top p ≡ v) × (block_of v p.base ≡ c) × (any (over v c) l ≡ true)
  part_at_lem v c p e = go (first (over v c) l) refl e
    where
      go : (o : Option Item) → first (over v c) l ≡ o → part_over l v o ≡ some p →
          (top p ≡ v) × (block_of v p.base ≡ c) × (any (over v c) l ≡ true)
      go none q d = let z : ◌≡◌ {A = ℕ} 0 1 = cc in absurd (omega arith)
      go (some x) q d =
          let (t, i) = first_yes (over v c) (each l (λ z n. n)) q in
          by_t (is_upper l v x.key)
          (λ u. let f : branch l v x.key ≡ p = cc u in (
            ap top (sym f) ∙ top_branch l v x.key,
            ap (λ (r : Part). block_of v r.base) (sym f) ∙ over_branch l v v x.key (low_le l x.key v) ∙ eqb-true _ _ t,
            in_any (over v c) i t,
          ))
          (λ u. let z : ◌≡◌ {A = ℕ} 0 1 = cc u in absurd (omega arith))

  pub part_has : (v c : ℕ) (p : Part) → part_at l v c ≡ some p → has l p ≡ true
  unfolding has
  part_has v c p e =
      let (a, b, i) = part_at_lem v c p e in
      ap (λ (w : ℕ). is_part p (part_at l w (block_of w p.base))) a ∙ ap (λ (d : ℕ). is_part p (part_at l v d)) b ∙
      ap (is_part p) e ∙ same_refl l p

  pub has_part : (p : Part) → has l p ≡ true → part_at l (top p) (block_of (top p) p.base) ≡ some p
  unfolding has
  has_part p t = go (part_at l (top p) (block_of (top p) p.base)) t
    where
      go : (o : Option Part) → is_part p o ≡ true → o ≡ some p
      go none u = absurd (clash u refl)
      go (some q) u = ap some (same_is q p u)

  -- ONE TIER
  pub in_tier : (v c : ℕ) (cs : List ℕ) (p : Part) → mem c cs ≡ true → part_at l v c ≡ some p → In p (parts_in l v cs)
  in_tier v c [] p m e = absurd (clash m refl)
  in_tier v c (d ∷ cs) p m e =
      by_t (eqb d c)
      (λ t. let q : part_at l v d ≡ some p = ap (part_at l v) (eqb-true _ _ t) ∙ e in rw q here)
      (λ t. let m' : mem c cs ≡ true = (rw t at m) in cons (part_at l v d) (in_tier v c cs p m' e))
    where
      cons : (o : Option Part) → In p (parts_in l v cs) → In p (cons_if l o (parts_in l v cs))
      cons none i = i
      cons (some q) i = there i

  pub tier_in : (v : ℕ) (cs : List ℕ) (p : Part) → In p (parts_in l v cs) → (c : ℕ) × (mem c cs ≡ true) × (part_at l v c ≡ some p)
  tier_in v [] p i = elim i [ ]
  tier_in v (d ∷ cs) p i = go (part_at l v d) refl i (λ j. tier_in v cs p j)
    where
      go : (o : Option Part) → part_at l v d ≡ o → In p (cons_if l o (parts_in l v cs)) →
          (In p (parts_in l v cs) → (c : ℕ) × (mem c cs ≡ true) × (part_at l v c ≡ some p)) →
          (c : ℕ) × (mem c (d ∷ cs) ≡ true) × (part_at l v c ≡ some p)
      go none e j f = let (c, m, q) = f j in (c, rw (m, either_yes), q)
      go (some r) e j f = elim (in_cons j) [
        | inl b ↦ (d, rw (eq-eqb d d refl), e ∙ ap some (sym b))
        | inr b ↦ (let (c, m, q) = f b in (c, rw (m, either_yes), q))
      ]

  -- ALL TIERS
  pub in_to : (w : ℕ) (p : Part) → has l p ≡ true → top p ≤ w → In p (parts_to l w)
  in_to zero p t h =
      let z : top p ≡ 0 = omega arith in
      let e : part_at l 0 (block_of 0 p.base) ≡ some p = subst (λ (v : ℕ). part_at l v (block_of v p.base) ≡ some p) z (has_part p t) in
      in_tier 0 (block_of 0 p.base) (blocks 0 l) p (mem_blocks 0 _ l ∙ (part_at_lem 0 _ p e).2) e
  in_to (suc w) p t h =
      by_t (eqb (top p) (suc w))
      (λ c. let z : top p ≡ suc w = eqb-true _ _ c in
      let e : part_at l (suc w) (block_of (suc w) p.base) ≡ some p =
      subst (λ (v : ℕ). part_at l v (block_of v p.base) ≡ some p) z (has_part p t) in
      in_left (parts_to l w) (in_tier (suc w) (block_of (suc w) p.base) (blocks (suc w) l) p
      (mem_blocks (suc w) _ l ∙ (part_at_lem (suc w) _ p e).2) e))
      (λ c. let n : top p ≡ suc w → ⊥ = eqb-false _ _ c in
      in_right (parts_in l (suc w) (blocks (suc w) l)) (in_to w p t (omega arith)))

  pub to_in : (w : ℕ) (p : Part) → In p (parts_to l w) → (top p ≤ w) × (has l p ≡ true)
  to_in zero p i =
      let (c, m, e) = tier_in 0 (blocks 0 l) p i in
      let z : top p ≡ 0 = (part_at_lem 0 c p e).0 in (omega arith, part_has 0 c p e)
  to_in (suc w) p i = go (in_append (parts_in l (suc w) (blocks (suc w) l)) i) (λ j. to_in w p j)
    where
      go : In p (parts_in l (suc w) (blocks (suc w) l)) ⊎ In p (parts_to l w) →
          (In p (parts_to l w) → (top p ≤ w) × (has l p ≡ true)) → (top p ≤ suc w) × (has l p ≡ true)
      go (inl j) f =
          let (c, m, e) = tier_in (suc w) (blocks (suc w) l) p j in
          let z : top p ≡ suc w = (part_at_lem (suc w) c p e).0 in (omega arith, part_has (suc w) c p e)
      go (inr j) f = let (a, b) = f j in (omega arith, b)

  -- NONE TWICE
  distinct_tier : (v : ℕ) {n : ℕ} {cs : List ℕ} (r : List Part) → Asc n cs → ((p : Part) → In p r → top p < v) → Distinct r →
      Distinct (parts_in l v cs ++ r)
  distinct_tier v r asc_end f d = d
  distinct_tier v r (asc_more {x = c} {s = cs} h a) f d = go (part_at l v c) refl (distinct_tier v r a f d)
    where
      go : (o : Option Part) → part_at l v c ≡ o → Distinct (parts_in l v cs ++ r) → Distinct (cons_if l o (parts_in l v cs) ++ r)
      go none e t = t
      go (some p) e t = d_more (λ i. out (in_append (parts_in l v cs) i)) t
        where
          out : In p (parts_in l v cs) ⊎ In p r → ⊥
          out (inl i) =
              let (b, m, q) = tier_in v cs p i in
              let s : b ≡ c = sym (part_at_lem v b p q).1 ∙ (part_at_lem v c p e).1 in
              clash (rw (← s) m) (mem_low c (le_refl _) a)
          out (inr i) = omega (arith, f p i, (part_at_lem v c p e).0)

  append-nil : (s : List Part) → s ++ [] ≡ s
  append-nil [] = refl
  append-nil (x ∷ s) = ap (λ (r : List Part). x ∷ r) (append-nil s)

  pub distinct_to : (w : ℕ) → Distinct (parts_to l w)
  distinct_to zero = subst Distinct (append-nil (parts_in l 0 (blocks 0 l)))
      (distinct_tier 0 [] (asc_blocks 0 l) (λ p i. elim i [ ]) d_end)
  distinct_to (suc w) = distinct_tier (suc w) (parts_to l w) (asc_blocks (suc w) l)
      (λ p i. omega (arith, (to_in w p i).0)) (distinct_to w)

  pub distinct_parts : Distinct (parts l)
  distinct_parts = distinct_to top_tier

  pub parts_in_lem : (p : Part) → In p (parts l) → has l p ≡ true
  parts_in_lem p i = (to_in top_tier p i).1

  -- NO UPPER END above the root
  module _ (s : Sorted 0 l) where
    all_in : (v x : ℕ) → top_tier ≤ v → x < 2 ^ 264 → size_over l v x ≡ length l
    unfolding size
    all_in v x h g = go l (λ y i. key_top s i)
      where
        high : (y : ℕ) → y < 2 ^ 264 → block_of v y ≡ 0
        high y b = div-eq_of_lt (le_trans b (pow-le-pow_right {n = 2} (omega arith) {i = 264} {j = tier_bits v} (omega arith)))

        go : (t : List Item) → ((y : Item) → In y t → y.key < 2 ^ 264) → length (keep (over v (block_of v x)) t) ≡ length t
        go [] f = refl
        go (y ∷ t) f = rw (eq-eqb (block_of v y.key) (block_of v x) (high y.key (f y here) ∙ sym (high x g)))
            (ap suc (go t (λ z i. f z (there i))))

    none_above : (u x : ℕ) → x < 2 ^ 264 → top_tier < u → is_upper l u x ≡ true → ⊥
    unfolding is_upper skipped
    none_above zero x g h q = omega arith
    none_above (suc u) x g h q =
        let a : size_over l u x ≡ length l = all_in u x (omega arith) g in
        let b : size_over l (suc u) x ≡ length l = all_in (suc u) x (omega arith) g in
        let d : size_over l (suc (suc u)) x ≡ length l = all_in (suc (suc u)) x (omega arith) g in
        let n : eqb (suc u) top_tier ≡ false = ne_eqb (suc u) top_tier (omega arith) in
        by_t (ltb full (length l))
        (λ c. clash q (rw (n, a, b, d, c, eq-eqb (length l) (length l) refl) (both_no (both (leb 2 (length l)) true))))
        (λ c. clash q (rw (n, d, c, both_no (leb 2 (size_over l (suc u) x)))))

    pub upper_le : (v x : ℕ) → x < 2 ^ 264 → is_upper l v x ≡ true → v ≤ top_tier
    upper_le v x g t = by_t (leb v top_tier) (λ c. leb-true _ _ c) (λ c. absurd (none_above v x g (leb-false _ _ c) t))

    part_upper : (v c : ℕ) (p : Part) → part_at l v c ≡ some p → v ≤ top_tier
    part_upper v c p e = go (first (over v c) l) refl e
      where
        go : (o : Option Item) → first (over v c) l ≡ o → part_over l v o ≡ some p → v ≤ top_tier
        go none q d = let z : ◌≡◌ {A = ℕ} 0 1 = cc in absurd (omega arith)
        go (some x) q d =
            let (t, i) = first_yes (over v c) (each l (λ z n. n)) q in
            by_t (is_upper l v x.key) (λ u. upper_le v x.key (key_top s i) u)
            (λ u. let z : ◌≡◌ {A = ℕ} 0 1 = cc u in absurd (omega arith))

    pub in_parts : (p : Part) → has l p ≡ true → In p (parts l)
    in_parts p t = in_to top_tier p t (part_upper (top p) (block_of (top p) p.base) p (has_part p t))

-- a part is a branch over a key whose block is an upper end
pub has_open : (l : List Item) (p : Part) → has l p ≡ true →
    (x : Item) × In x l × (is_upper l (top p) x.key ≡ true) × (p ≡ branch l (top p) x.key)
has_open l p t = go (first (over (top p) (block_of (top p) p.base)) l) refl (has_part l p t)
  where
    go : (o : Option Item) → first (over (top p) (block_of (top p) p.base)) l ≡ o → part_over l (top p) o ≡ some p →
        (x : Item) × In x l × (is_upper l (top p) x.key ≡ true) × (p ≡ branch l (top p) x.key)
    go none q d = let z : ◌≡◌ {A = ℕ} 0 1 = cc in absurd (omega arith)
    go (some x) q d =
        let (a, i) = first_yes (over (top p) (block_of (top p) p.base)) (each l (λ z n. n)) q in
        by_t (is_upper l (top p) x.key) (λ u. let f : branch l (top p) x.key ≡ p = cc u in (x, i, u, sym f))
        (λ u. let z : ◌≡◌ {A = ℕ} 0 1 = cc u in absurd (omega arith))
