-- A seventeenth key in a node of sixteen, tier w: t is the tier where the seventeen part. New are, if t < w, the shortcut to tier t and
-- the node there; the nodes of tier t - 1 with two keys or more; and the leaf.
use Prim.Native.Nat.{ℕ, zero, suc, ◌+◌, ◌*◌, ◌-◌, ◌^◌, ◌≤◌, ◌<◌}
use mathlib.Core.Path.{◌≡◌, refl, sym, ap, ◌∙◌, subst}
use mathlib.Core.Bool.{true, false}
use mathlib.Core.List.{List, [], ◌∷◌, ◌++◌}
use mathlib.Core.Option.{some}
use mathlib.Core.Logic.{◌⊎◌, inl, inr}
use native.Mathlib.Omega.{arith}
use native.Mathlib.Nat.{le_refl, div-eq_of_lt, le_trans, pow-le-pow_right}
use lib.Dec.{leb, ltb, eqb}
use lib.ListN.{length}
use borrow.Author.Tests.{eqb-true, eqb-false, ltb-true, ltb-false, leb-true, leb-false, eq-eqb, ne_eqb, le-leb, lt-ltb}
use Rattle.blocks.specs.Choice.{pick}
use Rattle.blocks.specs.Lists.{keep, In, here}
use Rattle.blocks.proofs.BoolLaws.{by_t, is_false, clash, both_r}
use Rattle.blocks.proofs.BlockLaws.{block_at}
use Rattle.blocks.proofs.ListLaws.{in_cons, in_any, any_in_lem, in_left, in_right, in_append}
use Rattle.assoc_tree.specs.Keys.{Item, insert, Sorted}
use Rattle.assoc_tree.specs.Parts.{Part, part, top, tier_bits, block_of, over, in_block, size, size_over, full, top_tier, skipped, low_from, branch, leaf, is_deep, is_upper, has, part_at, parts_in, blocks, new_parts, slots}
use Rattle.assoc_tree.proofs.SizeLaws.{low_same, up, branch_same, upper_same, has_branch, over_branch, low_le, low_size, low_ends}
use Rattle.assoc_tree.proofs.KeyLaws.{leaf_is, has_leaf, low_pos, size_zero, key_top}
use Rattle.assoc_tree.proofs.SlotLaws.{root_upper, size_pos, in_keep, keep_in, low_here, upper_here, upper_child}
use Rattle.assoc_tree.proofs.SortedLaws.{in_insert, insert_in, insert_stays}
use Rattle.assoc_stay.proofs.StayLaws.{apart_insert, far_branch, far_has}
use Rattle.assoc_tree.proofs.PartLaws.{has_open, has_part, part_at_lem, part_has, upper_le, asc_blocks, mem_blocks, in_tier, tier_in}
use Rattle.assoc_stay.proofs.ChainLaws.{Chain, c_end, c_more, chain_tier, new_are}
use Rattle.assoc_stay.proofs.MoreLaws.{more_size, turn_open, path_upper, path_branch, beside_upper}
use Rattle.assoc_tree.proofs.RunLaws.{size_mono, two_in, deep_two, nd_of, few_low, few_upper, run_skipped, inside_run, open_upper, in_size}
use Rattle.assoc_stay.proofs.PartNew.{chain_pick, in_pick, pick_here, pick_there}
use Rattle.assoc_tree.specs.Sums.{sum}
use Rattle.assoc_tree.proofs.SumLaws.{size_sum}
use Rattle.assoc_stay.proofs.MostLaws.{total, total_le, parts_half, keep_within}

skip_yes : (l : List Item) (v x : ℕ) → size_over l (suc v) x ≡ suc full → size_over l v x ≡ suc full → skipped l (suc v) x ≡ true
unfolding skipped
skip_yes l v x a b = rw (a, b)

skip_sizes : (l : List Item) (v x : ℕ) → skipped l (suc v) x ≡ true → size_over l v x ≡ size_over l (suc v) x
unfolding skipped
skip_sizes l v x t = eqb-true _ _ (both_r (ltb full (size_over l (suc v) x)) _ t)

-- all keys lie in the root's block
pub root_block : (v x : ℕ) → top_tier ≤ v → x < 2 ^ 264 → block_of v x ≡ 0
root_block v x h g = div-eq_of_lt (le_trans g (pow-le-pow_right {n = 2} (omega arith) {i = 264} {j = tier_bits v} (omega arith)))

-- a block of sixteen numbers has at most sixteen keys
sum_le : (f : ℕ → ℕ) (n : ℕ) → ((j : ℕ) → f j ≤ 1) → sum f n ≤ n
unfolding sum
sum_le f zero h = le_refl _
sum_le f (suc n) h = let a : sum f n ≤ n = sum_le f n h in let b : f n ≤ 1 = h n in omega arith

size_one : {l : List Item} → Sorted 0 l → (c : ℕ) → size l 1 c ≤ full
size_one {l} s c = subst (λ (n : ℕ). n ≤ full) (size_sum l 0 c) (sum_le _ slots (λ j. size_zero (slots * c + j) s))

module _ (e : Item) (l : List Item) (fresh : (x : Item) → In x l → x.key ≡ e.key → ⊥) (sorted : Sorted 0 l) (sorted⁺ : Sorted 0 (insert e l))
    (w : ℕ) (w_pos : 1 ≤ w) (sixteen : size_over l w e.key ≡ full)
    (place : (w ≡ top_tier) ⊎ ((w < top_tier) × (full < size_over l (suc w) e.key))) where
  abbrev k : ℕ
  k = e.key

  abbrev l⁺ : List Item
  l⁺ = insert e l

  abbrev t : ℕ
  t = low_from l⁺ k w

  high : w ≤ top_tier
  high = elim place [ inl a ↦ omega arith | inr b ↦ omega (arith, b.0) ]

  e_in : In e l⁺
  e_in = insert_in e l

  old_in : {x : Item} → In x l → In x l⁺
  old_in {x} i = insert_stays e l i (fresh x i)

  t_le : t ≤ w
  t_le = low_le l⁺ k w

  more : (v : ℕ) → size_over l⁺ v k ≡ suc (size_over l v k)
  more v = more_size e l fresh v

  -- sixteen from t up to w, fewer below
  t_size : size_over l t k ≡ full
  t_size =
      by_t (eqb t w) (λ c. ap (λ (v : ℕ). size_over l v k) (eqb-true t w c) ∙ sixteen)
      (λ c. let n : t ≡ w → ⊥ = eqb-false _ _ c in
      let (a, b) = low_size l⁺ k w (omega (arith, t_le)) in omega (arith, more t, more w))

  t_two : 2 ≤ t
  t_two =
      by_t (leb 2 t) (λ c. leb-true _ _ c)
      (λ c. let g : t < 2 = leb-false _ _ c in
      let one : t ≡ 1 = omega (arith, low_pos sorted⁺ k w w_pos) in
      let a : size_over l⁺ 1 k ≡ suc full = ap (λ (v : ℕ). size_over l⁺ v k) (sym one) ∙ more t ∙ ap suc t_size in
      absurd (omega (arith, size_one sorted⁺ (block_of 1 k))))

  abbrev s : ℕ
  s = t - 1

  between : (v : ℕ) → t ≤ v → v ≤ w → size_over l v k ≡ full
  between v a b = omega (arith, t_size, sixteen, size_mono l t v k a, size_mono l v w k b)

  s_size : size_over l s k < full
  s_size =
      let d : t ≡ suc s = omega (arith, t_two) in
      by_t (ltb (size_over l s k) full) (λ c. ltb-true _ _ c)
      (λ c. let g : full ≤ size_over l s k = ltb-false _ _ c in
      let m : size_over l s k ≤ size_over l t k = size_mono l s t k (omega (arith, t_two)) in
      absurd (clash (skip_t d (omega (arith, t_size))) (low_ends l⁺ k w)))
    where
      skip_t : t ≡ suc s → size_over l s k ≡ full → skipped l⁺ t k ≡ true
      skip_t d q = subst (λ (v : ℕ). skipped l⁺ v k ≡ true) (sym d) (go (ap (λ (v : ℕ). size_over l v k) (sym d) ∙ t_size) q)
        where
          go : size_over l (suc s) k ≡ full → size_over l s k ≡ full → skipped l⁺ (suc s) k ≡ true
          go a b = skip_yes l⁺ s k (more (suc s) ∙ ap suc a) (more s ∙ ap suc b)

  below_s : (v : ℕ) → v ≤ s → size_over l v k < full
  below_s v h = let m : size_over l v k ≤ size_over l s k = size_mono l v s k h in omega (arith, s_size)

  under : size_over l w k ≤ full
  under = omega (arith, sixteen)

  -- above the node no run begins or ends
  open' : full < size_over l (suc w) k → (x : Item) → In x l → block_of (suc w) x.key ≡ block_of (suc w) k → skipped l (suc w) x.key ≡ false
  open' ab x i b = is_false (λ c. go (skip_sizes l w x.key c))
    where
      go : size_over l w x.key ≡ size_over l (suc w) x.key → ⊥
      go q =
          let a : size_over l (suc w) x.key ≡ size_over l (suc w) k = ap (size l (suc w)) b in
          by_t (eqb (block_of w x.key) (block_of w k))
          (λ d. let g : size_over l w x.key ≡ size_over l w k = ap (size l w) (eqb-true _ _ d) in omega (arith, sixteen))
          (λ d. let g : size_over l w x.key + size_over l w k ≤ size_over l (suc w) k = two_in l w x.key k (eqb-false _ _ d) b in
          omega (arith, sixteen))

  -- THE NEW PARTS
  abbrev cut : Part
  cut = part t (w - t) (block_of t k * 2 ^ tier_bits t)

  abbrev node : Part
  node = part t 0 (block_of t k * 2 ^ tier_bits t)

  abbrev kids : List Part
  kids = parts_in l⁺ s (blocks s (in_block l⁺ t (block_of t k)))

  low_t : low_from l⁺ k t ≡ t
  low_t = low_here l⁺ t k (low_ends l⁺ k w)

  -- a part of tier s in the block of tier t
  in_kids : (p : Part) → has l⁺ p ≡ true → top p ≡ s → (x : Item) → In x l⁺ → block_of t x.key ≡ block_of t k →
      block_of s p.base ≡ block_of s x.key → In p kids
  in_kids p h q x i b d =
      let c : part_at l⁺ s (block_of s p.base) ≡ some p = subst (λ (v : ℕ). part_at l⁺ v (block_of v p.base) ≡ some p) q (has_part l⁺ p h) in
      in_tier l⁺ s (block_of s p.base) (blocks s (in_block l⁺ t (block_of t k))) p
      (mem_blocks s (block_of s p.base) (in_block l⁺ t (block_of t k)) ∙
      in_any (over s (block_of s p.base)) (in_keep (over t (block_of t k)) i (eq-eqb _ _ b)) (eq-eqb _ _ (sym d))) c

  abbrev New : Part → Type 0
  New p = ((t < w) × ((p ≡ cut) ⊎ (p ≡ node))) ⊎ (In p kids ⊎ (p ≡ leaf l k))

  new_only : (p : Part) → has l⁺ p ≡ true → has l p ≡ false → New p
  new_only p h f =
      let (x, i, u, q) = has_open l⁺ p h in
      by_t (eqb (block_of (suc (top p)) k) (block_of (suc (top p)) x.key))
      (λ a. by_t (eqb (block_of (top p) k) (block_of (top p) x.key))
      (λ b. on_path_lem (top p) refl x i u q (sym (eqb-true _ _ b)))
      (λ b. beside (top p) refl x i u q (sym (eqb-true _ _ a)) (eqb-false _ _ b)))
      (λ a. absurd (clash (far_has (apart_insert e l) p (λ d. eqb-false _ _ a (d ∙ far_base x q)) ∙ h) f))
    where
      far_base : (x : Item) → p ≡ branch l⁺ (top p) x.key → block_of (suc (top p)) p.base ≡ block_of (suc (top p)) x.key
      far_base x q = ap (λ (r : Part). block_of (suc (top p)) r.base) q ∙
          over_branch l⁺ (top p) (suc (top p)) x.key (omega (arith, low_le l⁺ x.key (top p)))

      own_base : (v : ℕ) (x : Item) → p ≡ branch l⁺ v x.key → block_of v p.base ≡ block_of v x.key
      own_base v x q = ap (λ (r : Part). block_of v r.base) q ∙ over_branch l⁺ v v x.key (low_le l⁺ x.key v)

      old : (v : ℕ) (y : Item) → In y l → is_upper l v y.key ≡ true → p ≡ branch l v y.key → New p
      old v y j u q = absurd (clash (ap (has l) q ∙ has_branch l v j u) f)

      -- at tier w itself the node stays where t = w
      stays : t ≡ w → p ≡ branch l⁺ w k → New p
      stays c q =
          let (y, j, d) = in_size l w k (omega (arith, sixteen)) in
          let sy : size_over l w y.key ≡ full = ap (size l w) d ∙ sixteen in
          let lo : low_from l y.key w ≡ w = few_low l w y.key (omega arith) in
          old w y j (upper_y y d sy place) (q ∙ nd_of l⁺ w k c ∙ ap (λ (g : ℕ). part w 0 (g * 2 ^ tier_bits w)) (sym d) ∙ sym (nd_of l w y.key lo))
        where
          upper_y : (y : Item) → block_of w y.key ≡ block_of w k → size_over l w y.key ≡ full →
              (w ≡ top_tier) ⊎ ((w < top_tier) × (full < size_over l (suc w) k)) → is_upper l w y.key ≡ true
          upper_y y d sy (inl a) = subst (λ (v : ℕ). is_upper l v y.key ≡ true) (sym a)
              (root_upper l y.key (subst (λ (v : ℕ). 1 ≤ size_over l v y.key) a (omega arith)))
          upper_y y d sy (inr a) = few_upper l w y.key w_pos a.0 (omega arith) (omega arith)
              (let g : size_over l (suc w) y.key ≡ size_over l (suc w) k = ap (size l (suc w)) (up {v = w} {w = suc w} y.key k (omega arith) d) in
              omega (arith, a.1))

      over_w : (v : ℕ) (x : Item) → w < v → In x l⁺ → is_upper l⁺ v x.key ≡ true → p ≡ branch l⁺ v x.key →
          block_of v x.key ≡ block_of v k → (w ≡ top_tier) ⊎ ((w < top_tier) × (full < size_over l (suc w) k)) → New p
      over_w v x g i u q b (inl a) = absurd (omega (arith, upper_le l⁺ sorted⁺ v x.key (key_top sorted⁺ i) u))
      over_w v x g i u q b (inr a) =
          let m : size_over l (suc w) k ≤ size_over l v k = size_mono l (suc w) v k g in
          let (y, j, d) = in_size l v k (omega (arith, a.1)) in
          let same : block_of v y.key ≡ block_of v x.key = d ∙ sym b in
          old v y j (sym (path_upper e l fresh w a.1 under (open' a.1) v y g j d) ∙ upper_same l⁺ v (old_in j) i same ∙ u)
          (q ∙ sym (branch_same l⁺ v (old_in j) i same) ∙ path_branch e l fresh w a.1 under (open' a.1) v y g j d)

      on_path_lem : (v : ℕ) → top p ≡ v → (x : Item) → In x l⁺ → is_upper l⁺ v x.key ≡ true → p ≡ branch l⁺ v x.key →
          block_of v x.key ≡ block_of v k → New p
      on_path_lem v tp x i u q b =
          let ue : is_upper l⁺ v k ≡ true = upper_same l⁺ v e_in i (sym b) ∙ u in
          let pe : p ≡ branch l⁺ v k = q ∙ sym (branch_same l⁺ v e_in i (sym b)) in
          by_t (ltb w v) (λ c. over_w v x (ltb-true _ _ c) i u q b place)
          (λ c. let g : v ≤ w = ltb-false _ _ c in
          by_t (eqb v w)
          (λ d. let d' : v ≡ w = eqb-true _ _ d in
          let pw : p ≡ branch l⁺ w k = pe ∙ ap (λ (j : ℕ). branch l⁺ j k) d' in
          by_t (eqb t w) (λ r. stays (eqb-true _ _ r) pw)
          (λ r. let n : t ≡ w → ⊥ = eqb-false _ _ r in inl (omega (arith, t_le), inl pw)))
          (λ d. let n : v ≡ w → ⊥ = eqb-false _ _ d in
          by_t (ltb t v)
          (λ r. let r' : t < v = ltb-true _ _ r in
          absurd (inside_run l⁺ v k (omega arith) (λ y. omega (arith, high)) (run_skipped l⁺ k w v r' g)
          (run_skipped l⁺ k w (suc v) (omega arith) (omega arith)) ue))
          (λ r. let r' : v ≤ t = ltb-false _ _ r in
          by_t (eqb v t)
          (λ y. let y' : v ≡ t = eqb-true _ _ y in
          inl (omega arith, inr (pe ∙ ap (λ (j : ℕ). branch l⁺ j k) y' ∙ nd_of l⁺ t k low_t)))
          (λ y. let m : v ≡ t → ⊥ = eqb-false _ _ y in
          by_t (eqb v s)
          (λ z. inr (inl (in_kids p h (tp ∙ eqb-true v s z) x i (up {v = v} {w = t} x.key k r' b)
          (subst (λ (j : ℕ). block_of j p.base ≡ block_of j x.key) (eqb-true v s z) (own_base v x q)))))
          (λ z. let m' : v ≡ s → ⊥ = eqb-false _ _ z in
          by_t (eqb v 0)
          (λ o. let o' : v ≡ 0 = eqb-true _ _ o in
          inr (inr (pe ∙ ap (λ (j : ℕ). branch l⁺ j k) o' ∙ leaf_is l⁺ k)))
          (λ o. let o' : v ≡ 0 → ⊥ = eqb-false _ _ o in
          let (two, big) = deep_two l⁺ v k ue (omega arith) (omega (arith, high)) in
          absurd (omega (arith, more (suc v), below_s (suc v) (omega arith)))))))))

      beside : (v : ℕ) → top p ≡ v → (x : Item) → In x l⁺ → is_upper l⁺ v x.key ≡ true → p ≡ branch l⁺ v x.key →
          block_of (suc v) x.key ≡ block_of (suc v) k → (block_of v k ≡ block_of v x.key → ⊥) → New p
      beside v tp x i u q b n = elim (in_insert e l i) [
        | inl a ↦ absurd (n (ap (λ (y : Item). block_of v y.key) (sym a)))
        | inr j ↦ go j
      ]
        where
          at_or_over : In x l → w ≤ v → (w ≡ top_tier) ⊎ ((w < top_tier) × (full < size_over l (suc w) k)) → New p
          at_or_over j g (inl a) = absurd (n (root_block v k (omega arith) (key_top sorted⁺ e_in) ∙ sym (root_block v x.key (omega arith) (key_top sorted j))))
          at_or_over j g (inr a) = old v x j (sym (beside_upper e l fresh w a.1 under (open' a.1) v x g j b n) ∙ u)
              (q ∙ sym (far_branch (apart_insert e l) v x.key n))

          go : In x l → New p
          go j =
              by_t (leb w v) (λ c. at_or_over j (leb-true _ _ c) place)
              (λ c. let g : v < w = leb-false _ _ c in
              by_t (ltb t (suc v))
              (λ d. let d' : t < suc v = ltb-true _ _ d in
              let m : size_over l v x.key + size_over l v k ≤ size_over l (suc v) k = two_in l v x.key k (λ y. n (sym y)) b in
              absurd (omega (arith, between v (omega arith) (omega arith), between (suc v) (omega arith) (omega arith), size_pos {x = x} v j)))
              (λ d. let d' : suc v ≤ t = ltb-false _ _ d in
              by_t (eqb v s)
              (λ z. let z' : v ≡ s = eqb-true _ _ z in
              inr (inl (in_kids p h (tp ∙ z') x i (up {v = suc v} {w = t} x.key k d' b)
              (subst (λ (y : ℕ). block_of y p.base ≡ block_of y x.key) z' (own_base v x q)))))
              (λ z. let m' : v ≡ s → ⊥ = eqb-false _ _ z in
              by_t (eqb v 0)
              (λ o. absurd (clash (ap (has l) (q ∙ ap (λ (y : ℕ). branch l⁺ y x.key) (eqb-true _ _ o) ∙ leaf_is l⁺ x.key) ∙ has_leaf l j) f))
              (λ o. let o' : v ≡ 0 → ⊥ = eqb-false _ _ o in
              let (two, big) = deep_two l⁺ v x.key u (omega arith) (omega (arith, high)) in
              let a : size_over l⁺ (suc v) x.key ≡ suc (size_over l (suc v) k) = ap (size l⁺ (suc v)) b ∙ more (suc v) in
              absurd (omega (arith, below_s (suc v) (omega arith)))))))

  -- EACH IS NEW
  abbrev IsNew : Part → Type 0
  IsNew p = (has l⁺ p ≡ true) × (has l p ≡ false)

  -- a part of the old tree over a block of the path
  near : (p : Part) (v c : ℕ) → top p ≡ v → block_of v p.base ≡ c → has l p ≡ true →
      (x : Item) × In x l × (is_upper l v x.key ≡ true) × (p ≡ branch l v x.key) × (block_of v x.key ≡ c)
  near p v c a b h =
      let (x, i, u, q) = has_open l p h in
      let q' : p ≡ branch l v x.key = q ∙ ap (λ (j : ℕ). branch l j x.key) a in (
        x,
        i,
        subst (λ (j : ℕ). is_upper l j x.key ≡ true) a u,
        q',
        sym (over_branch l v v x.key (low_le l x.key v)) ∙ ap (λ (r : Part). block_of v r.base) (sym q') ∙ b,
      )

  own : (v : ℕ) → t ≤ v → block_of v (block_of t k * 2 ^ tier_bits t) ≡ block_of v k
  own v h = up {v = t} {w = v} _ k h (block_at (tier_bits t) (block_of t k))

  cut_new : t < w → IsNew cut
  cut_new h = (
    has_branch l⁺ w e_in (upper place),
    is_false (λ c. let (x, i, u, q, b) = near cut w (block_of w k) (omega (arith, t_le)) (own w t_le) c in
        let sx : size_over l w x.key ≡ full = ap (size l w) b ∙ sixteen in
        let lo : low_from l x.key w ≡ w = few_low l w x.key (omega arith) in
        let d : t ≡ low_from l x.key w = ap (λ (r : Part). r.tier) q in omega arith),
  )
    where
      upper : (w ≡ top_tier) ⊎ ((w < top_tier) × (full < size_over l (suc w) k)) → is_upper l⁺ w k ≡ true
      upper (inl a) = subst (λ (v : ℕ). is_upper l⁺ v k ≡ true) (sym a)
          (root_upper l⁺ k (subst (λ (v : ℕ). 1 ≤ size_over l⁺ v k) a (omega (arith, more w))))
      upper (inr a) = upper_child l⁺ w k w_pos a.0 (omega (arith, more w, sixteen)) (omega (arith, more (suc w), a.1))
          (turn_open e l fresh w a.1 under k refl)

  node_new : t < w → IsNew node
  node_new h = (
    ap (has l⁺) (sym (nd_of l⁺ t k low_t)) ∙ has_branch l⁺ t e_in (open_upper l⁺ t k (omega (arith, t_two)) deep (low_ends l⁺ k w)),
    is_false (λ c. let (x, i, u, q, b) = near node t (block_of t k) (omega arith) (own t (le_refl _)) c in
        let (two, big) = deep_two l t x.key u (omega (arith, t_two)) (omega (arith, high)) in
        let sx : size_over l (suc t) x.key ≡ size_over l (suc t) k = ap (size l (suc t)) (up {v = t} {w = suc t} x.key k (omega arith) b) in
        omega (arith, between (suc t) (omega arith) (omega arith))),
  )
    where
      deep : is_deep l⁺ t k ≡ true
      deep = rw (
        ne_eqb t top_tier (omega (arith, high)),
        le-leb 2 (size_over l⁺ t k) (omega (arith, more t, t_size)),
        lt-ltb full (size_over l⁺ (suc t) k) (omega (arith, more (suc t), between (suc t) (omega arith) (omega arith))),
      )

  kid_at : (p : Part) → In p kids → (x : Item) × In x l⁺ × (block_of t x.key ≡ block_of t k) × (part_at l⁺ s (block_of s x.key) ≡ some p)
  kid_at p i =
      let (c, m, q) = tier_in l⁺ s (blocks s (in_block l⁺ t (block_of t k))) p i in
      let (x, j, d) = any_in_lem (over s c) (in_block l⁺ t (block_of t k)) (sym (mem_blocks s c (in_block l⁺ t (block_of t k))) ∙ m) in
      let (a, b) = keep_in (over t (block_of t k)) l⁺ j in
      (x, a, eqb-true _ _ b, ap (part_at l⁺ s) (eqb-true _ _ d) ∙ q)

  kid_new : (p : Part) → In p kids → IsNew p
  kid_new p i =
      let (y, j, b, q) = kid_at p i in
      let (tp, bp, o) = part_at_lem l⁺ s (block_of s y.key) p q in (
        part_has l⁺ s (block_of s y.key) p q,
        is_false (λ c. let (x, i, u, r, d) = near p s (block_of s y.key) tp bp c in
            let ut : block_of t x.key ≡ block_of t k = up {v = s} {w = t} x.key y.key (omega arith) d ∙ b in
            let (two, big) = deep_two l s x.key u (omega (arith, t_two)) (omega (arith, high, t_le, t_two)) in
            let e' : suc s ≡ t = omega (arith, t_two) in
            let sx : size_over l (suc s) x.key ≡ full =
            ap (λ (v : ℕ). size_over l v x.key) e' ∙ ap (size l t) ut ∙ t_size in omega arith),
      )

  leaf_new : IsNew (leaf l k)
  leaf_new = (
    has_leaf l⁺ e_in,
    is_false (λ c. let (x, i, u, q) = has_open l (leaf l k) c in
        fresh x i (sym (ap (λ (r : Part). r.base) (q ∙ leaf_is l x.key)))),
  )

  -- IN ORDER
  abbrev ends : List Part
  ends = leaf l k ∷ []

  in_ends : (q : Part) → In q ends → q ≡ leaf l k
  in_ends q i = elim (in_cons i) [ inl a ↦ a | inr b ↦ elim b [ ] ]

  rest_top : (q : Part) → In q (kids ++ ends) → top q < t
  rest_top q i = elim (in_append kids i) [
    | inl a ↦ (let (y, j, b, g) = kid_at q a in let d : top q ≡ s = (part_at_lem l⁺ s (block_of s y.key) q g).0 in omega (arith, t_two))
    | inr b ↦ subst (λ (r : Part). top r < t) (sym (in_ends q b)) (omega (arith, t_two))
  ]

  rest_chain : Chain (kids ++ ends)
  rest_chain = chain_tier l⁺ s ends (asc_blocks s (in_block l⁺ t (block_of t k)))
      (λ p i. subst (λ (r : Part). top r < s) (sym (in_ends p i)) (omega (arith, t_two))) (c_more (λ q i. elim i [ ]) c_end)

  abbrev splitting : List Part
  splitting = pick (ltb t w) (cut ∷ pick (ltb t w) (node ∷ kids ++ ends) (kids ++ ends)) (pick (ltb t w) (node ∷ kids ++ ends) (kids ++ ends))

  abbrev nodes : List Part
  nodes = pick (ltb t w) (node ∷ kids ++ ends) (kids ++ ends)

  nodes_top : t < w → (q : Part) → In q nodes → top q < top cut
  nodes_top h q i = elim (in_pick (ltb t w) node (kids ++ ends) i) [
    | inl a ↦ subst (λ (r : Part). top r < top cut) (sym a.1) (omega arith)
    | inr b ↦ (let d : top q < t = rest_top q b in omega arith)
  ]

  -- the new nodes, in the order in which they take numbers
  pub split_new : new_parts l l⁺ ≡ splitting
  split_new = new_are l l⁺ splitting sorted⁺
      (chain_pick (ltb t w) cut nodes (λ c q i. inl (nodes_top (ltb-true _ _ c) q i))
      (chain_pick (ltb t w) node (kids ++ ends) (λ c q i. inl (let d : top q < t = rest_top q i in omega arith)) rest_chain))
      (λ p i. elim (in_pick (ltb t w) cut nodes i) [
        | inl a ↦ subst IsNew (sym a.1) (cut_new (ltb-true _ _ a.0))
        | inr j ↦ elim (in_pick (ltb t w) node (kids ++ ends) j) [
          | inl a ↦ subst IsNew (sym a.1) (node_new (ltb-true _ _ a.0))
          | inr m ↦ elim (in_append kids m) [
            | inl a ↦ kid_new p a
            | inr a ↦ subst IsNew (sym (in_ends p a)) leaf_new
          ]
        ]
      ])
      (λ p c f. elim (new_only p c f) [
        | inl a ↦ elim a.1 [
          | inl b ↦ subst (λ (r : Part). In r splitting) (sym b) (pick_here (ltb t w) cut nodes (lt-ltb t w a.0))
          | inr b ↦ pick_there (ltb t w) cut nodes (subst (λ (r : Part). In r nodes) (sym b) (pick_here (ltb t w) node (kids ++ ends) (lt-ltb t w a.0)))
        ]
        | inr a ↦ pick_there (ltb t w) cut nodes (pick_there (ltb t w) node (kids ++ ends) (elim a [
          | inl b ↦ in_left ends b
          | inr b ↦ in_right kids (subst (λ (r : Part). In r ends) (sym b) here)
        ]))
      ])

  -- WHAT A DELETE TAKES of that key: the node of sixteen, where the seventeen were below it
  abbrev packed : Part
  packed = part w 0 (block_of w k * 2 ^ tier_bits w)

  -- below the node there are leaves only
  old_small : (v : ℕ) (x : Item) → v < w → block_of (suc v) x.key ≡ block_of (suc v) k → full < size_over l (suc v) x.key → ⊥
  old_small v x h b g =
      let a : size_over l (suc v) x.key ≡ size_over l (suc v) k = ap (size l (suc v)) b in
      let m : size_over l (suc v) k ≤ size_over l w k = size_mono l (suc v) w k h in omega (arith, sixteen)

  whole_upper : t ≡ w → is_upper l⁺ w k ≡ true
  whole_upper q = elim place [
    | inl a ↦ subst (λ (v : ℕ). is_upper l⁺ v k ≡ true) (sym a) (root_upper l⁺ k (subst (λ (v : ℕ). 1 ≤ size_over l⁺ v k) a (omega (arith, more w))))
    | inr b ↦ upper_here l⁺ w k w_pos b.0 (omega (arith, more w, sixteen)) (subst (λ (v : ℕ). skipped l⁺ v k ≡ false) q (low_ends l⁺ k w))
  ]

  old_only : (p : Part) → has l p ≡ true → has l⁺ p ≡ false → (t < w) × (p ≡ packed)
  old_only p h f = go (has_open l p h)
    where
      Given : Type 0
      Given = (t < w) × (p ≡ packed)

      stays : (v : ℕ) (x : Item) → In x l → is_upper l⁺ v x.key ≡ true → p ≡ branch l⁺ v x.key → Given
      stays v x i u q = absurd (clash (ap (has l⁺) q ∙ has_branch l⁺ v (old_in i) u) f)

      leaf_stays : (v : ℕ) (x : Item) → In x l → v ≡ 0 → p ≡ branch l v x.key → Given
      leaf_stays v x i z q =
          absurd (clash (ap (has l⁺) (q ∙ ap (λ (j : ℕ). branch l j x.key) z ∙ leaf_is l x.key) ∙ has_leaf l⁺ (old_in i)) f)

      beside : (v : ℕ) (x : Item) → In x l → is_upper l v x.key ≡ true → p ≡ branch l v x.key →
          block_of (suc v) x.key ≡ block_of (suc v) k → (block_of v k ≡ block_of v x.key → ⊥) → Given
      beside v x i u q b n =
          by_t (leb w v)
          (λ c. elim place [
            | inl a ↦ absurd (n (root_block v k (omega (arith, leb-true w v c)) (key_top sorted⁺ e_in) ∙
                sym (root_block v x.key (omega (arith, leb-true w v c)) (key_top sorted i))))
            | inr d ↦ stays v x i (beside_upper e l fresh w d.1 under (open' d.1) v x (leb-true _ _ c) i b n ∙ u)
                (q ∙ far_branch (apart_insert e l) v x.key n)
          ])
          (λ c. let lt : v < w = leb-false _ _ c in
          by_t (eqb v 0) (λ z. leaf_stays v x i (eqb-true _ _ z) q)
          (λ z. let n0 : v ≡ 0 → ⊥ = eqb-false _ _ z in
          let (two, big) = deep_two l v x.key u (omega arith) (omega (arith, high)) in absurd (old_small v x lt b big)))

      at_node_lem : (x : Item) → In x l → p ≡ branch l w x.key → block_of w x.key ≡ block_of w k → Given
      at_node_lem x i q b =
          let sx : size_over l w x.key ≡ full = ap (size l w) b ∙ sixteen in
          let pk : p ≡ packed = q ∙ nd_of l w x.key (few_low l w x.key (omega arith)) ∙ ap (λ (g : ℕ). part w 0 (g * 2 ^ tier_bits w)) b in
          by_t (eqb t w)
          (λ c. absurd (clash (ap (has l⁺) (pk ∙ sym (nd_of l⁺ w k (eqb-true t w c))) ∙ has_branch l⁺ w e_in (whole_upper (eqb-true t w c))) f))
          (λ c. let ne : t ≡ w → ⊥ = eqb-false _ _ c in (omega (arith, t_le), pk))

      on_path_lem : (v : ℕ) (x : Item) → In x l → is_upper l v x.key ≡ true → p ≡ branch l v x.key →
          block_of v x.key ≡ block_of v k → Given
      on_path_lem v x i u q b =
          by_t (leb (suc w) v)
          (λ c. let h : suc w ≤ v = leb-true _ _ c in elim place [
            | inl a ↦ absurd (omega (arith, upper_le l sorted v x.key (key_top sorted i) u))
            | inr d ↦ stays v x i (path_upper e l fresh w d.1 under (open' d.1) v x h i b ∙ u)
                (q ∙ sym (path_branch e l fresh w d.1 under (open' d.1) v x h i b))
          ])
          (λ c. let lt : v < suc w = leb-false _ _ c in
          by_t (eqb v w)
          (λ d. let d' : v ≡ w = eqb-true _ _ d in
          at_node_lem x i (q ∙ ap (λ (j : ℕ). branch l j x.key) d') (subst (λ (j : ℕ). block_of j x.key ≡ block_of j k) d' b))
          (λ d. let ne : v ≡ w → ⊥ = eqb-false _ _ d in
          by_t (eqb v 0) (λ z. leaf_stays v x i (eqb-true _ _ z) q)
          (λ z. let n0 : v ≡ 0 → ⊥ = eqb-false _ _ z in
          let (two, big) = deep_two l v x.key u (omega arith) (omega (arith, high)) in
          absurd (old_small v x (omega arith) (up {v = v} {w = suc v} x.key k (omega arith) b) big))))

      go : (x : Item) × In x l × (is_upper l (top p) x.key ≡ true) × (p ≡ branch l (top p) x.key) → Given
      go (x, i, u, q) =
          by_t (eqb (block_of (suc (top p)) k) (block_of (suc (top p)) x.key))
          (λ a. by_t (eqb (block_of (top p) k) (block_of (top p) x.key))
          (λ b. on_path_lem (top p) x i u q (sym (eqb-true _ _ b)))
          (λ b. beside (top p) x i u q (sym (eqb-true _ _ a)) (eqb-false _ _ b)))
          (λ a. absurd (clash (sym (far_has (apart_insert e l) p (λ d. eqb-false _ _ a (d ∙ far_base))) ∙ h) f))
        where
          far_base : block_of (suc (top p)) p.base ≡ block_of (suc (top p)) x.key
          far_base = ap (λ (r : Part). block_of (suc (top p)) r.base) q ∙
              over_branch l (top p) (suc (top p)) x.key (omega (arith, low_le l x.key (top p)))

  packed_new : t < w → (has l packed ≡ true) × (has l⁺ packed ≡ false)
  packed_new lt = (there_is (in_size l w k (omega (arith, sixteen))), is_false (λ h. no (has_open l⁺ packed h)))
    where
      there_is : (y : Item) × In y l × (block_of w y.key ≡ block_of w k) → has l packed ≡ true
      there_is (y, i, b) =
          let sy : size_over l w y.key ≡ full = ap (size l w) b ∙ sixteen in
          let u : is_upper l w y.key ≡ true = elim place [
            | inl a ↦ subst (λ (v : ℕ). is_upper l v y.key ≡ true) (sym a)
                (root_upper l y.key (subst (λ (v : ℕ). 1 ≤ size_over l v y.key) a (omega arith)))
            | inr d ↦ few_upper l w y.key w_pos d.0 (omega arith) (omega arith)
                (subst (λ (c : ℕ). full < size l (suc w) c) (sym (up {v = w} {w = suc w} y.key k (omega arith) b)) d.1)
          ] in
          ap (has l) (ap (λ (g : ℕ). part w 0 (g * 2 ^ tier_bits w)) (sym b) ∙ sym (nd_of l w y.key (few_low l w y.key (omega arith)))) ∙
          has_branch l w i u

      no : (x : Item) × In x l⁺ × (is_upper l⁺ (top packed) x.key ≡ true) × (packed ≡ branch l⁺ (top packed) x.key) → ⊥
      no (x, i, u, q) =
          let tw : top packed ≡ w = omega arith in
          let q' : packed ≡ branch l⁺ w x.key = q ∙ ap (λ (j : ℕ). branch l⁺ j x.key) tw in
          let b : block_of w x.key ≡ block_of w k =
          sym (over_branch l⁺ w w x.key (low_le l⁺ x.key w)) ∙ ap (λ (r : Part). block_of w r.base) (sym q') ∙
          block_at (tier_bits w) (block_of w k) in
          let a : low_from l⁺ x.key w ≡ t = (low_same l⁺ w i e_in b).0 in
          let c : w ≡ low_from l⁺ x.key w = ap (λ (r : Part). r.tier) q' in
          omega arith

  pub split_less : new_parts l⁺ l ≡ pick (ltb t w) (packed ∷ []) []
  split_less = new_are l⁺ l (pick (ltb t w) (packed ∷ []) []) sorted
      (chain_pick (ltb t w) packed [] (λ c q i. elim i [ ]) c_end)
      (λ p i. elim (in_pick (ltb t w) packed [] i) [
        | inl a ↦ subst (λ (r : Part). (has l r ≡ true) × (has l⁺ r ≡ false)) (sym a.1) (packed_new (ltb-true _ _ a.0))
        | inr b ↦ elim b [ ]
      ])
      (λ p h f. let (lt, q) = old_only p h f in
      subst (λ (r : Part). In r (pick (ltb t w) (packed ∷ []) [])) (sym q) (pick_here (ltb t w) packed [] (lt-ltb t w lt)))

  -- HOW MANY: the seventeen keys make at most eight nodes of two or more
  kid_two : (c : ℕ) (p : Part) → In c (blocks s (in_block l⁺ t (block_of t k))) → part_at l⁺ s c ≡ some p →
      2 ≤ length (keep (over s c) (in_block l⁺ t (block_of t k)))
  unfolding size
  kid_two c p i e =
      let (y, j, d) = any_in_lem (over s c) (in_block l⁺ t (block_of t k))
      (sym (mem_blocks s c (in_block l⁺ t (block_of t k))) ∙ in_any (λ b. eqb b c) i (eq-eqb c c refl)) in
      let (j', b) = keep_in (over t (block_of t k)) l⁺ j in
      let (tp, bp, o) = part_at_lem l⁺ s c p e in
      let (x, n, u, q) = has_open l⁺ p (part_has l⁺ s c p e) in
      let q' : p ≡ branch l⁺ s x.key = q ∙ ap (λ (v : ℕ). branch l⁺ v x.key) tp in
      let bx : block_of s x.key ≡ c =
      sym (over_branch l⁺ s s x.key (low_le l⁺ x.key s)) ∙ ap (λ (r : Part). block_of s r.base) (sym q') ∙ bp in
      let (two, big) = deep_two l⁺ s x.key (subst (λ (v : ℕ). is_upper l⁺ v x.key ≡ true) tp u) (omega (arith, t_two))
      (omega (arith, high, t_le, t_two)) in
      subst (λ (z : List Item). 2 ≤ length z)
      (sym (keep_within (over s c) (over t (block_of t k)) l⁺ (λ z m r. eq-eqb _ _ (up {v = s} {w = t} z.key y.key (omega arith)
      (eqb-true _ _ r ∙ sym (eqb-true _ _ d)) ∙ eqb-true _ _ b))))
      (subst (λ (g : ℕ). 2 ≤ length (keep (over s g) l⁺)) bx two)

  kids_few : length kids ≤ 8
  unfolding size
  kids_few =
      let a : 2 * length kids ≤ total s (blocks s (in_block l⁺ t (block_of t k))) (in_block l⁺ t (block_of t k)) =
      parts_half s l⁺ (in_block l⁺ t (block_of t k)) (blocks s (in_block l⁺ t (block_of t k))) kid_two in
      let b : total s (blocks s (in_block l⁺ t (block_of t k))) (in_block l⁺ t (block_of t k)) ≤ length (in_block l⁺ t (block_of t k)) =
      total_le s (in_block l⁺ t (block_of t k)) (asc_blocks s (in_block l⁺ t (block_of t k))) in
      let c : length (in_block l⁺ t (block_of t k)) ≡ suc (length (in_block l t (block_of t k))) = more t in
      let d : length (in_block l t (block_of t k)) ≡ full = t_size in
      omega arith

  length_more : (ps qs : List Part) → length (ps ++ qs) ≡ length ps + length qs
  length_more [] qs = omega arith
  length_more (p ∷ ps) qs = let e : length (ps ++ qs) ≡ length ps + length qs = length_more ps qs in omega arith

  pub split_most : length (new_parts l l⁺) ≤ 11
  split_most =
      let a : length (kids ++ ends) ≡ length kids + 1 = length_more kids ends in
      subst (λ (ps : List Part). length ps ≤ 11) (sym split_new)
      (by_t (ltb t w) (λ c. rw c (omega (arith, kids_few))) (λ c. rw c (omega (arith, kids_few))))
