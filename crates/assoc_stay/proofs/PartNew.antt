-- A new key that parts a run: the shortcut from tier r down to tier low is cut at tier q = w + 1, where the key leaves it. New are
-- the upper shortcut (if q < r), the node of tier q, the lower shortcut (if low < w) and the leaf.
use Prim.Native.Nat.{ℕ, zero, suc, ◌*◌, ◌-◌, ◌^◌, ◌≤◌, ◌<◌}
use mathlib.Core.Path.{◌≡◌, refl, sym, ap, ◌∙◌, subst}
use mathlib.Core.Bool.{Bool, true, false}
use mathlib.Core.List.{List, [], ◌∷◌}
use mathlib.Core.Logic.{◌⊎◌, inl, inr}
use native.Mathlib.Omega.{arith}
use native.Mathlib.Nat.{le_refl}
use lib.Dec.{leb, ltb, eqb}
use borrow.Author.Tests.{eqb-true, eqb-false, ltb-true, ltb-false, leb-true, leb-false, ne_eqb, le-leb, lt-ltb}
use Rattle.blocks.specs.Choice.{pick}
use Rattle.blocks.specs.Lists.{In, here, there}
use Rattle.blocks.proofs.BoolLaws.{by_t, is_false, clash}
use Rattle.blocks.proofs.BlockLaws.{block_at}
use Rattle.blocks.proofs.ListLaws.{in_cons}
use Rattle.assoc_tree.specs.Keys.{Item, insert, Sorted}
use Rattle.assoc_tree.specs.Parts.{Part, part, top, tier_bits, block_of, size, size_over, full, top_tier, skipped, low_from, branch, leaf, is_deep, is_upper, has, new_parts}
use Rattle.assoc_tree.proofs.SizeLaws.{up, size_step, branch_same, upper_same, has_branch, top_branch, over_branch, low_le, low_same, low_size, low_ends}
use Rattle.assoc_tree.proofs.KeyLaws.{block_zero, leaf_is, has_leaf, low_pos, key_top}
use Rattle.assoc_tree.proofs.SlotLaws.{upper_here, upper_child}
use Rattle.assoc_tree.proofs.SortedLaws.{in_insert, insert_in, insert_stays}
use Rattle.assoc_stay.proofs.StayLaws.{apart_insert, far_size, far_skipped, far_branch, far_has}
use Rattle.assoc_tree.proofs.PartLaws.{has_open, upper_le}
use Rattle.assoc_stay.proofs.ChainLaws.{Before, Chain, c_end, c_more, new_are}
use Rattle.assoc_stay.proofs.MoreLaws.{more_size, skip_same, turn_open}
use Rattle.assoc_tree.proofs.RunLaws.{size_mono, deep_two, nd_of, run_skipped, low_stops, inside_run, upper_top, in_size, open_upper}

-- LISTS with an optional head
module _ (b : Bool) (p : Part) (ps : List Part) where
  pub chain_pick : (b ≡ true → (q : Part) → In q ps → Before p q) → Chain ps → Chain (pick b (p ∷ ps) ps)
  chain_pick f c = by_t b (λ t. rw t (c_more (f t) c)) (λ t. rw t c)

  pub in_pick : {q : Part} → In q (pick b (p ∷ ps) ps) → ((b ≡ true) × (q ≡ p)) ⊎ In q ps
  in_pick {q} i = by_t b (λ t. elim (in_cons {x = q} {y = p} {l = ps} (rw t at i)) [ inl a ↦ inl (t, a) | inr c ↦ inr c ])
      (λ t. inr (rw t at i))

  pub pick_here : b ≡ true → In p (pick b (p ∷ ps) ps)
  pick_here e = rw e here

  pub pick_there : {q : Part} → In q ps → In q (pick b (p ∷ ps) ps)
  pick_there i = by_t b (λ t. rw t (there i)) (λ t. rw t i)

module _ (e : Item) (l : List Item) (fresh : (x : Item) → In x l → x.key ≡ e.key → ⊥) (sorted : Sorted 0 l) (sorted⁺ : Sorted 0 (insert e l))
    (z : Item) (z-in : In z l) (r w : ℕ) (r-upper : is_upper l r z.key ≡ true) (high : r ≤ top_tier) (q-le : suc w ≤ r)
    (low_lt : low_from l z.key r < suc w) (meet : block_of (suc w) z.key ≡ block_of (suc w) e.key)
    (part_at : block_of w z.key ≡ block_of w e.key → ⊥) where
  abbrev k : ℕ
  k = e.key

  abbrev l⁺ : List Item
  l⁺ = insert e l

  abbrev low : ℕ
  low = low_from l z.key r

  old_in : {x : Item} → In x l → In x l⁺
  old_in {x} i = insert_stays e l i (fresh x i)

  low_ge : 1 ≤ low
  low_ge = low_pos sorted z.key r (omega arith)

  z_on : (v : ℕ) → suc w ≤ v → block_of v z.key ≡ block_of v k
  z_on v h = up {v = suc w} {w = v} z.key k h meet

  -- all keys of the run's block are below its lower end
  with_z : (x : Item) → In x l → block_of (suc w) x.key ≡ block_of (suc w) k → block_of low z.key ≡ block_of low x.key
  with_z x i b = (low_same l r z-in i (up {v = suc w} {w = r} z.key x.key q-le (meet ∙ sym b))).1

  with_z_at : (v : ℕ) (x : Item) → low ≤ v → In x l → block_of (suc w) x.key ≡ block_of (suc w) k → block_of v x.key ≡ block_of v z.key
  with_z_at v x h i b = sym (up {v = low} {w = v} z.key x.key h (with_z x i b))

  none_under : (x : Item) → In x l → block_of w x.key ≡ block_of w k → ⊥
  none_under x i b = part_at (sym (with_z_at w x (omega arith) i (up {v = w} {w = suc w} x.key k (omega arith) b)) ∙ b)

  empty : (v : ℕ) → v ≤ w → size_over l v k ≡ 0
  empty v h = by_t (eqb (size_over l v k) 0) (λ c. eqb-true _ _ c) (λ c. absurd (go (eqb-false _ _ c)))
    where
      go : (size_over l v k ≡ 0 → ⊥) → ⊥
      go n = let (y, i, b) = in_size l v k (omega arith) in none_under y i (up {v = v} {w = w} y.key k h b)

  z_size : (v : ℕ) → suc w ≤ v → size_over l v z.key ≡ size_over l v k
  z_size v h = ap (size l v) (z_on v h)

  above : full < size_over l (suc w) k
  above =
      let (a, b) = low_size l z.key r (omega arith) in
      let c : size_over l low z.key ≤ size_over l (suc w) z.key = size_mono l low (suc w) z.key (omega arith) in
      omega (arith, z_size (suc w) (le_refl _))

  under : size_over l w k ≤ full
  under = omega (arith, empty w (le_refl _))

  skip_up : (v : ℕ) (x : ℕ) → suc w < v → block_of v x ≡ block_of v k → skipped l⁺ v x ≡ skipped l v x
  skip_up zero x h b = absurd (omega arith)
  skip_up (suc v) x h b =
      let m : size_over l (suc w) k ≤ size_over l v k = size_mono l (suc w) v k (omega arith) in
      skip_same e l fresh v x (omega (arith, above)) b

  q_open : (x : ℕ) → block_of (suc w) x ≡ block_of (suc w) k → skipped l⁺ (suc w) x ≡ false
  q_open x b = turn_open e l fresh w above under x b

  -- the new parts
  abbrev upper_cut : Part
  upper_cut = part (suc w) (r - suc w) (block_of (suc w) z.key * 2 ^ tier_bits (suc w))

  abbrev new_node : Part
  new_node = part (suc w) 0 (block_of (suc w) z.key * 2 ^ tier_bits (suc w))

  abbrev lower_cut : Part
  lower_cut = branch l w z.key

  low_q : low_from l⁺ z.key (suc w) ≡ suc w
  low_q = low_stops l⁺ z.key (suc w) (suc w) (le_refl _) (q_open z.key meet) (λ j a b. absurd (omega arith))

  low_r : low_from l⁺ z.key r ≡ suc w
  low_r = low_stops l⁺ z.key r (suc w) q-le (q_open z.key meet)
      (λ j a b. skip_up j z.key a (z_on j (omega arith)) ∙ run_skipped l z.key r j (omega arith) b)

  -- upper ends above the cut
  deep_more : (v : ℕ) → suc w ≤ v → is_deep l⁺ v z.key ≡ is_deep l v z.key
  deep_more v h =
      let m : size_over l (suc w) k ≤ size_over l v k = size_mono l (suc w) v k h in
      let g : size_over l v k ≤ size_over l (suc v) k = size_step l v k in
      let a : size_over l⁺ v z.key ≡ suc (size_over l v k) = ap (size l⁺ v) (z_on v h) ∙ more_size e l fresh v in
      let b : size_over l⁺ (suc v) z.key ≡ suc (size_over l (suc v) k) = ap (size l⁺ (suc v)) (z_on (suc v) (omega arith)) ∙ more_size e l fresh (suc v) in
      let ab : full < size_over l (suc w) k = above in
      rw (
        a,
        b,
        z_size v h,
        z_size (suc v) (omega arith),
        le-leb 1 (suc (size_over l v k)) (omega arith),
        le-leb 1 (size_over l v k) (omega arith),
        le-leb 2 (suc (size_over l v k)) (omega arith),
        le-leb 2 (size_over l v k) (omega arith),
        lt-ltb full (suc (size_over l (suc v) k)) (omega arith),
        lt-ltb full (size_over l (suc v) k) (omega arith),
      )

  upper_more : (v : ℕ) → suc w < v → is_upper l⁺ v z.key ≡ is_upper l v z.key
  unfolding is_upper
  upper_more zero h = absurd (omega arith)
  upper_more (suc v) h =
      rw (
        deep_more (suc v) (omega arith),
        skip_up (suc v) z.key h (z_on (suc v) (omega arith)),
        skip_up (suc (suc v)) z.key (omega arith) (z_on (suc (suc v)) (omega arith)),
      )

  low_above : (v : ℕ) → suc r ≤ v → skipped l (suc r) z.key ≡ false → low_from l⁺ z.key v ≡ low_from l z.key v
  unfolding low_from
  low_above zero h c = absurd (omega arith)
  low_above (suc v) h c =
      rw (skip_up (suc v) z.key (omega arith) (z_on (suc v) (omega arith)))
      (by_t (eqb v r)
      (λ d. let s : skipped l (suc v) z.key ≡ false = ap (λ (j : ℕ). skipped l (suc j) z.key) (eqb-true v r d) ∙ c in rw s)
      (λ d. let n : v ≡ r → ⊥ = eqb-false _ _ d in
      by_t (skipped l (suc v) z.key) (λ t. rw t (low_above v (omega arith) c)) (λ t. rw t)))

  beside_more : (v : ℕ) (x : Item) → suc w ≤ v → block_of (suc v) x.key ≡ block_of (suc v) k →
      (block_of v k ≡ block_of v x.key → ⊥) → is_upper l⁺ v x.key ≡ is_upper l v x.key
  unfolding is_upper
  beside_more zero x h b n = refl
  beside_more (suc v) x h b n =
      let m : size_over l (suc w) k ≤ size_over l (suc (suc v)) k = size_mono l (suc w) (suc (suc v)) k (omega arith) in
      let ab : full < size_over l (suc w) k = above in
      let a : size_over l (suc v) x.key ≡ size_over l⁺ (suc v) x.key = far_size (apart_insert e l) (suc v) (block_of (suc v) x.key) n in
      let c : size_over l⁺ (suc (suc v)) x.key ≡ suc (size_over l (suc (suc v)) k) = ap (size l⁺ (suc (suc v))) b ∙ more_size e l fresh (suc (suc v)) in
      let d : size_over l (suc (suc v)) x.key ≡ size_over l (suc (suc v)) k = ap (size l (suc (suc v))) b in
      rw (
        sym (far_skipped (apart_insert e l) (suc v) x.key n),
        skip_up (suc (suc v)) x.key (omega arith) b,
        ← a,
        c,
        d,
        lt-ltb full (suc (size_over l (suc (suc v)) k)) (omega arith),
        lt-ltb full (size_over l (suc (suc v)) k) (omega arith),
      )

  -- the node at the run's lower end was there
  low_upper : is_upper l low z.key ≡ true
  low_upper =
      let (a, b) = low_size l z.key r (omega arith) in
      let c : size_over l low z.key ≤ size_over l (suc low) z.key = size_step l low z.key in
      open_upper l low z.key low_ge
      (rw (ne_eqb low top_tier (omega arith), le-leb 2 (size_over l low z.key) (omega arith), lt-ltb full (size_over l (suc low) z.key) (omega arith)))
      (low_ends l z.key r)

  abbrev New : Part → Type 0
  New p = ((suc w < r) × (p ≡ upper_cut)) ⊎ ((p ≡ new_node) ⊎ (((low < w) × (p ≡ lower_cut)) ⊎ (p ≡ leaf l k)))

  pub new_only : (p : Part) → has l⁺ p ≡ true → has l p ≡ false → New p
  new_only p t f =
      let (x, i, u, q) = has_open l⁺ p t in
      by_t (eqb (block_of (suc (top p)) k) (block_of (suc (top p)) x.key))
      (λ a. by_t (eqb (block_of (top p) k) (block_of (top p) x.key))
      (λ b. on_path_lem (top p) x i u q (sym (eqb-true _ _ b)))
      (λ b. beside (top p) x i u q (sym (eqb-true _ _ a)) (eqb-false _ _ b)))
      (λ a. absurd (clash (far_has (apart_insert e l) p (λ d. eqb-false _ _ a (d ∙ far_base x q)) ∙ t) f))
    where
      far_base : (x : Item) → p ≡ branch l⁺ (top p) x.key → block_of (suc (top p)) p.base ≡ block_of (suc (top p)) x.key
      far_base x q = ap (λ (s : Part). block_of (suc (top p)) s.base) q ∙
          over_branch l⁺ (top p) (suc (top p)) x.key (omega (arith, low_le l⁺ x.key (top p)))

      old : (v : ℕ) (y : Item) → In y l → is_upper l v y.key ≡ true → p ≡ branch l v y.key → New p
      old v y j u q = absurd (clash (ap (has l) q ∙ has_branch l v j u) f)

      on_path_lem : (v : ℕ) (x : Item) → In x l⁺ → is_upper l⁺ v x.key ≡ true → p ≡ branch l⁺ v x.key →
          block_of v x.key ≡ block_of v k → New p
      on_path_lem v x i u q b =
          by_t (leb (suc w) v)
          (λ c. let h : suc w ≤ v = leb-true _ _ c in
          let same : block_of v z.key ≡ block_of v x.key = z_on v h ∙ sym b in
          let uz : is_upper l⁺ v z.key ≡ true = upper_same l⁺ v (old_in z-in) i same ∙ u in
          let pz : p ≡ branch l⁺ v z.key = q ∙ sym (branch_same l⁺ v (old_in z-in) i same) in
          by_t (eqb v (suc w))
          (λ d. let d' : v ≡ suc w = eqb-true _ _ d in
          inr (inl (pz ∙ ap (λ (j : ℕ). branch l⁺ j z.key) d' ∙ nd_of l⁺ (suc w) z.key low_q)))
          (λ d. let n : v ≡ suc w → ⊥ = eqb-false _ _ d in
          let uo : is_upper l v z.key ≡ true = sym (upper_more v (omega arith)) ∙ uz in
          by_t (eqb v r)
          (λ g. let g' : v ≡ r = eqb-true _ _ g in
          inl (
            omega arith,
            pz ∙ ap (λ (j : ℕ). branch l⁺ j z.key) g' ∙
                ap (λ (j : ℕ). part j (r - j) (block_of j z.key * 2 ^ tier_bits j)) low_r,
          ))
          (λ g. let m : v ≡ r → ⊥ = eqb-false _ _ g in
          by_t (ltb v r)
          (λ s. let s' : v < r = ltb-true _ _ s in
          absurd (inside_run l v z.key (omega arith) (λ y. omega arith)
          (run_skipped l z.key r v (omega arith) (omega arith)) (run_skipped l z.key r (suc v) (omega arith) (omega arith)) uo))
          (λ s. let s' : r ≤ v = ltb-false _ _ s in
          elim (upper_top l r z.key (omega arith) r-upper (run_skipped l z.key r r (omega arith) (le_refl _))) [
            | inl a ↦ absurd (omega (arith, upper_le l sorted v z.key (key_top sorted z-in) uo))
            | inr a ↦ old v z z-in uo (pz ∙
                ap (λ (j : ℕ). part j (v - j) (block_of j z.key * 2 ^ tier_bits j)) (low_above v (omega arith) a))
          ]))))
          (λ c. let h : v < suc w = leb-false _ _ c in
          by_t (eqb v 0)
          (λ y. let y' : v ≡ 0 = eqb-true _ _ y in
          let key : x.key ≡ k = sym (block_zero x.key) ∙ subst (λ (j : ℕ). block_of j x.key ≡ block_of j k) y' b ∙ block_zero k in
          inr (inr (inr (q ∙ ap (λ (j : ℕ). branch l⁺ j x.key) y' ∙ leaf_is l⁺ x.key ∙ ap (leaf l) key))))
          (λ y. let n0 : v ≡ 0 → ⊥ = eqb-false _ _ y in
          let (two, big) = deep_two l⁺ v x.key u (omega arith) (omega arith) in
          let a : size_over l⁺ v x.key ≡ suc (size_over l v k) = ap (size l⁺ v) b ∙ more_size e l fresh v in
          absurd (omega (arith, empty v (omega arith)))))

      beside : (v : ℕ) (x : Item) → In x l⁺ → is_upper l⁺ v x.key ≡ true → p ≡ branch l⁺ v x.key →
          block_of (suc v) x.key ≡ block_of (suc v) k → (block_of v k ≡ block_of v x.key → ⊥) → New p
      beside v x i u q b n = elim (in_insert e l i) [
        | inl a ↦ absurd (n (ap (λ (y : Item). block_of v y.key) (sym a)))
        | inr j ↦ go j
      ]
        where
          go : In x l → New p
          go j =
              let pl : p ≡ branch l v x.key = q ∙ sym (far_branch (apart_insert e l) v x.key n) in
              by_t (leb (suc w) v)
              (λ c. old v x j (sym (beside_more v x (leb-true _ _ c) b n) ∙ u) pl)
              (λ c. let h : v < suc w = leb-false _ _ c in
              by_t (eqb v w)
              (λ d. let d' : v ≡ w = eqb-true _ _ d in
              let b' : block_of (suc w) x.key ≡ block_of (suc w) k = subst (λ (y : ℕ). block_of (suc y) x.key ≡ block_of (suc y) k) d' b in
              let pw : p ≡ branch l w z.key = pl ∙ ap (λ (y : ℕ). branch l y x.key) d' ∙
              branch_same l w j z-in (with_z_at w x (omega arith) j b') in
              by_t (eqb low w)
              (λ g. let g' : low ≡ w = eqb-true _ _ g in
              old low z z-in low_upper (pw ∙ ap (λ (y : ℕ). branch l y z.key) (sym g')))
              (λ g. let m : low ≡ w → ⊥ = eqb-false _ _ g in inr (inr (inl (omega arith, pw)))))
              (λ d. let m : v ≡ w → ⊥ = eqb-false _ _ d in
              absurd (none_under x j (up {v = suc v} {w = w} x.key k (omega arith) b))))

  -- EACH IS NEW
  abbrev IsNew : Part → Type 0
  IsNew p = (has l⁺ p ≡ true) × (has l p ≡ false)

  -- a part over the block of z: its key is with z
  near : (p : Part) (v : ℕ) → top p ≡ v → block_of v p.base ≡ block_of v z.key → has l p ≡ true →
      (x : Item) × In x l × (is_upper l v x.key ≡ true) × (p ≡ branch l v x.key) × (block_of v x.key ≡ block_of v z.key)
  near p v e b t =
      let (x, i, u, q) = has_open l p t in
      let q' : p ≡ branch l v x.key = q ∙ ap (λ (j : ℕ). branch l j x.key) e in (
        x,
        i,
        subst (λ (j : ℕ). is_upper l j x.key ≡ true) e u,
        q',
        sym (over_branch l v v x.key (low_le l x.key v)) ∙ ap (λ (s : Part). block_of v s.base) (sym q') ∙ b,
      )

  own : (v : ℕ) → suc w ≤ v → block_of v (block_of (suc w) z.key * 2 ^ tier_bits (suc w)) ≡ block_of v z.key
  own v h = up {v = suc w} {w = v} _ z.key h (block_at (tier_bits (suc w)) (block_of (suc w) z.key))

  upper_new : suc w < r → IsNew upper_cut
  upper_new h = (
    ap (has l⁺) (sym (ap (λ (j : ℕ). part j (r - j) (block_of j z.key * 2 ^ tier_bits j)) low_r)) ∙
        has_branch l⁺ r (old_in z-in) (upper_more r h ∙ r-upper),
    is_false (λ t. let (x, i, u, q, b) = near upper_cut r (omega arith) (own r q-le) t in
        let a : low_from l x.key r ≡ low = (low_same l r i z-in b).0 in
        let c : suc w ≡ low_from l x.key r = ap (λ (s : Part). s.tier) q in omega arith),
  )

  deep_q : is_deep l (suc w) z.key ≡ true
  deep_q =
      let a : size_over l (suc w) z.key ≡ size_over l (suc w) k = z_size (suc w) (le_refl _) in
      let b : size_over l (suc w) z.key ≤ size_over l (suc (suc w)) z.key = size_step l (suc w) z.key in
      let c : full < size_over l (suc w) k = above in
      by_t (eqb (suc w) top_tier) (λ d. rw (d, le-leb 1 (size_over l (suc w) z.key) (omega arith)))
      (λ d. rw (d, le-leb 2 (size_over l (suc w) z.key) (omega arith), lt-ltb full (size_over l (suc (suc w)) z.key) (omega arith)))

  node_new : IsNew new_node
  node_new = (
    ap (has l⁺) (sym (nd_of l⁺ (suc w) z.key low_q)) ∙ has_branch l⁺ (suc w) (old_in z-in)
        (open_upper l⁺ (suc w) z.key (omega arith) (deep_more (suc w) (le_refl _) ∙ deep_q) (q_open z.key meet)),
    is_false (λ t. let (x, i, u, q, b) = near new_node (suc w) (omega arith) (own (suc w) (le_refl _)) t in
        let a : low_from l x.key (suc w) ≡ low_from l z.key (suc w) = (low_same l (suc w) i z-in b).0 in
        let c : suc w ≡ low_from l z.key (suc w) = ap (λ (s : Part). s.tier) q ∙ a in
        clash (run_skipped l z.key r (suc w) low_lt q-le) (ap (λ (j : ℕ). skipped l j z.key) c ∙ low_ends l z.key (suc w))),
  )

  lower_new : low < w → IsNew lower_cut
  lower_new h = (
    ap (has l⁺) (far_branch (apart_insert e l) w z.key (λ d. part_at (sym d))) ∙ has_branch l⁺ w (old_in z-in) upper,
    is_false (λ t. let (x, i, u, q, b) = near lower_cut w (top_branch l w z.key) (over_branch l w w z.key (low_le l z.key w)) t in
        inside_run l w z.key (omega (arith, low_ge)) (λ y. omega arith) (run_skipped l z.key r w h (omega arith))
        (run_skipped l z.key r (suc w) low_lt q-le) (upper_same l w z-in i (sym b) ∙ u)),
  )
    where
      upper : is_upper l⁺ w z.key ≡ true
      upper =
          let (a, b) = low_size l z.key r (omega arith) in
          let c : size_over l low z.key ≤ size_over l w z.key = size_mono l low w z.key (omega arith) in
          let d : size_over l w z.key ≡ size_over l⁺ w z.key = far_size (apart_insert e l) w (block_of w z.key) (λ y. part_at (sym y)) in
          let g : size_over l⁺ (suc w) z.key ≡ suc (size_over l (suc w) k) = ap (size l⁺ (suc w)) meet ∙ more_size e l fresh (suc w) in
          upper_child l⁺ w z.key (omega (arith, low_ge)) (omega arith) (omega arith) (omega (arith, above)) (q_open z.key meet)

  leaf_new : IsNew (leaf l k)
  leaf_new = (
    has_leaf l⁺ (insert_in e l),
    is_false (λ t. let (x, i, u, q) = has_open l (leaf l k) t in
        fresh x i (sym (ap (λ (s : Part). s.base) (q ∙ leaf_is l x.key)))),
  )

  -- THE NEW PARTS, in order
  abbrev parting : List Part
  parting = pick (ltb (suc w) r) (upper_cut ∷ new_node ∷ pick (ltb low w) (lower_cut ∷ leaf l k ∷ []) (leaf l k ∷ []))
      (new_node ∷ pick (ltb low w) (lower_cut ∷ leaf l k ∷ []) (leaf l k ∷ []))

  abbrev ends : List Part
  ends = leaf l k ∷ []

  abbrev mids : List Part
  mids = pick (ltb low w) (lower_cut ∷ ends) ends

  in_ends : (q : Part) → In q ends → q ≡ leaf l k
  in_ends q i = elim (in_cons i) [ inl a ↦ a | inr b ↦ elim b [ ] ]

  in_mids : (q : Part) → In q mids → ((low < w) × (q ≡ lower_cut)) ⊎ (q ≡ leaf l k)
  in_mids q i = elim (in_pick (ltb low w) lower_cut ends i) [
    | inl a ↦ inl (ltb-true _ _ a.0, a.1)
    | inr b ↦ inr (in_ends q b)
  ]

  mids_top : (q : Part) → In q mids → top q < suc w
  mids_top q i = elim (in_mids q i) [
    | inl a ↦ subst (λ (s : Part). top s < suc w) (sym a.1) (let t : top lower_cut ≡ w = top_branch l w z.key in omega arith)
    | inr b ↦ subst (λ (s : Part). top s < suc w) (sym b) (omega arith)
  ]

  rest_top : suc w < r → (q : Part) → In q (new_node ∷ mids) → top q < top upper_cut
  rest_top h q i = elim (in_cons i) [
    | inl a ↦ subst (λ (s : Part). top s < top upper_cut) (sym a) (omega arith)
    | inr b ↦ (let t : top q < suc w = mids_top q b in omega arith)
  ]

  parting_chain : Chain parting
  parting_chain =
      chain_pick (ltb (suc w) r) upper_cut (new_node ∷ mids) (λ t q i. inl (rest_top (ltb-true _ _ t) q i))
      (c_more (λ q i. inl (let t : top q < suc w = mids_top q i in omega arith))
      (chain_pick (ltb low w) lower_cut ends (λ t q i. inl (subst (λ (s : Part). top s < top lower_cut) (sym (in_ends q i))
      (let h : low < w = ltb-true _ _ t in let g : top lower_cut ≡ w = top_branch l w z.key in omega arith)))
      (c_more (λ q i. elim i [ ]) c_end)))

  pub part_new : new_parts l l⁺ ≡ parting
  part_new = new_are l l⁺ parting sorted⁺ parting_chain
      (λ p i. elim (in_pick (ltb (suc w) r) upper_cut (new_node ∷ mids) i) [
        | inl a ↦ subst IsNew (sym a.1) (upper_new (ltb-true _ _ a.0))
        | inr j ↦ elim (in_cons j) [
          | inl a ↦ subst IsNew (sym a) node_new
          | inr m ↦ elim (in_mids p m) [
            | inl a ↦ subst IsNew (sym a.1) (lower_new a.0)
            | inr a ↦ subst IsNew (sym a) leaf_new
          ]
        ]
      ])
      (λ p t f. elim (new_only p t f) [
        | inl a ↦ subst (λ (s : Part). In s parting) (sym a.1) (pick_here (ltb (suc w) r) upper_cut (new_node ∷ mids) (lt-ltb (suc w) r a.0))
        | inr b ↦ pick_there (ltb (suc w) r) upper_cut (new_node ∷ mids) (elim b [
          | inl a ↦ subst (λ (s : Part). In s (new_node ∷ mids)) (sym a) here
          | inr c ↦ there (elim c [
            | inl a ↦ subst (λ (s : Part). In s mids) (sym a.1) (pick_here (ltb low w) lower_cut ends (lt-ltb low w a.0))
            | inr a ↦ pick_there (ltb low w) lower_cut ends (subst (λ (s : Part). In s ends) (sym a) here)
          ])
        ])
      ])

  -- WHAT A DELETE TAKES of that key: the one shortcut
  abbrev whole : Part
  whole = branch l r z.key

  far_upper_low : is_upper l⁺ low z.key ≡ true
  far_upper_low =
      let (a, b) = low_size l z.key r (omega arith) in
      let ne : block_of low k ≡ block_of low z.key → ⊥ = λ d. part_at (up {v = low} {w = w} z.key k (omega arith) (sym d)) in
      let c : size_over l low z.key ≡ size_over l⁺ low z.key = far_size (apart_insert e l) low (block_of low z.key) ne in
      upper_here l⁺ low z.key low_ge (omega arith) (omega arith)
      (sym (far_skipped (apart_insert e l) low z.key ne) ∙ low_ends l z.key r)

  old_only : (p : Part) → has l p ≡ true → has l⁺ p ≡ false → p ≡ whole
  old_only p t f = go (has_open l p t)
    where
      stays : (v : ℕ) (x : Item) → In x l → is_upper l⁺ v x.key ≡ true → p ≡ branch l⁺ v x.key → p ≡ whole
      stays v x i u q = absurd (clash (ap (has l⁺) q ∙ has_branch l⁺ v (old_in i) u) f)

      beside : (v : ℕ) (x : Item) → In x l → is_upper l v x.key ≡ true → p ≡ branch l v x.key →
          block_of (suc v) x.key ≡ block_of (suc v) k → (block_of v k ≡ block_of v x.key → ⊥) → p ≡ whole
      beside v x i u q b n =
          by_t (leb (suc w) v)
          (λ c. stays v x i (beside_more v x (leb-true _ _ c) b n ∙ u) (q ∙ far_branch (apart_insert e l) v x.key n))
          (λ c. let h : v < suc w = leb-false _ _ c in
          by_t (eqb v w)
          (λ d. let d' : v ≡ w = eqb-true _ _ d in
          let b' : block_of (suc w) x.key ≡ block_of (suc w) k = subst (λ (y : ℕ). block_of (suc y) x.key ≡ block_of (suc y) k) d' b in
          let same : block_of w x.key ≡ block_of w z.key = with_z_at w x (omega arith) i b' in
          let uz : is_upper l w z.key ≡ true = upper_same l w z-in i (sym same) ∙ subst (λ (y : ℕ). is_upper l y x.key ≡ true) d' u in
          let pz : p ≡ branch l w z.key = q ∙ ap (λ (y : ℕ). branch l y x.key) d' ∙ branch_same l w i z-in same in
          by_t (eqb low w)
          (λ g. let g' : low ≡ w = eqb-true _ _ g in
          stays low z z-in far_upper_low (pz ∙ ap (λ (y : ℕ). branch l y z.key) (sym g') ∙
          far_branch (apart_insert e l) low z.key (λ y. part_at (up {v = low} {w = w} z.key k (omega arith) (sym y)))))
          (λ g. let m : low ≡ w → ⊥ = eqb-false _ _ g in
          absurd (inside_run l w z.key (omega (arith, low_ge)) (λ y. omega arith) (run_skipped l z.key r w (omega arith) (omega arith))
          (run_skipped l z.key r (suc w) low_lt q-le) uz)))
          (λ d. let m : v ≡ w → ⊥ = eqb-false _ _ d in
          absurd (none_under x i (up {v = suc v} {w = w} x.key k (omega arith) b))))

      on_path_lem : (v : ℕ) (x : Item) → In x l → is_upper l v x.key ≡ true → p ≡ branch l v x.key →
          block_of v x.key ≡ block_of v k → p ≡ whole
      on_path_lem v x i u q b =
          by_t (leb (suc w) v)
          (λ c. let h : suc w ≤ v = leb-true _ _ c in
          let same : block_of v z.key ≡ block_of v x.key = z_on v h ∙ sym b in
          let uz : is_upper l v z.key ≡ true = upper_same l v z-in i same ∙ u in
          let pz : p ≡ branch l v z.key = q ∙ sym (branch_same l v z-in i same) in
          by_t (eqb v r) (λ d. pz ∙ ap (λ (j : ℕ). branch l j z.key) (eqb-true _ _ d))
          (λ d. let ne : v ≡ r → ⊥ = eqb-false _ _ d in
          by_t (ltb v r)
          (λ g. let g' : v < r = ltb-true _ _ g in
          absurd (inside_run l v z.key (omega arith) (λ y. omega arith) (run_skipped l z.key r v (omega arith) (omega arith))
          (run_skipped l z.key r (suc v) (omega arith) (omega arith)) uz))
          (λ g. let g' : r ≤ v = ltb-false _ _ g in
          elim (upper_top l r z.key (omega arith) r-upper (run_skipped l z.key r r (omega arith) (le_refl _))) [
            | inl a ↦ absurd (omega (arith, upper_le l sorted v z.key (key_top sorted z-in) uz))
            | inr a ↦ stays v z z-in (upper_more v (omega arith) ∙ uz) (pz ∙
                ap (λ (j : ℕ). part j (v - j) (block_of j z.key * 2 ^ tier_bits j)) (sym (low_above v (omega arith) a)))
          ])))
          (λ c. absurd (none_under x i (up {v = v} {w = w} x.key k (omega (arith, leb-false (suc w) v c)) b)))

      go : (x : Item) × In x l × (is_upper l (top p) x.key ≡ true) × (p ≡ branch l (top p) x.key) → p ≡ whole
      go (x, i, u, q) =
          by_t (eqb (block_of (suc (top p)) k) (block_of (suc (top p)) x.key))
          (λ a. by_t (eqb (block_of (top p) k) (block_of (top p) x.key))
          (λ b. on_path_lem (top p) x i u q (sym (eqb-true _ _ b)))
          (λ b. beside (top p) x i u q (sym (eqb-true _ _ a)) (eqb-false _ _ b)))
          (λ a. absurd (clash (sym (far_has (apart_insert e l) p (λ d. eqb-false _ _ a (d ∙ far_base))) ∙ t) f))
        where
          far_base : block_of (suc (top p)) p.base ≡ block_of (suc (top p)) x.key
          far_base = ap (λ (s : Part). block_of (suc (top p)) s.base) q ∙
              over_branch l (top p) (suc (top p)) x.key (omega (arith, low_le l x.key (top p)))

  whole_new : (has l whole ≡ true) × (has l⁺ whole ≡ false)
  whole_new = (has_branch l r z-in r-upper, is_false (λ t. no (has_open l⁺ whole t)))
    where
      tw : top whole ≡ r
      tw = top_branch l r z.key

      no : (x : Item) × In x l⁺ × (is_upper l⁺ (top whole) x.key ≡ true) × (whole ≡ branch l⁺ (top whole) x.key) → ⊥
      no (x, i, u, q) =
          let q' : whole ≡ branch l⁺ r x.key = q ∙ ap (λ (j : ℕ). branch l⁺ j x.key) tw in
          let b : block_of r x.key ≡ block_of r z.key =
          sym (over_branch l⁺ r r x.key (low_le l⁺ x.key r)) ∙ ap (λ (s : Part). block_of r s.base) (sym q') ∙
          over_branch l r r z.key (low_le l z.key r) in
          let a : low_from l⁺ x.key r ≡ low_from l⁺ z.key r = (low_same l⁺ r i (old_in z-in) b).0 in
          let c : low ≡ low_from l⁺ x.key r = ap (λ (s : Part). s.tier) q' in
          omega (arith, low_r)

  pub part_less : new_parts l⁺ l ≡ whole ∷ []
  part_less = new_are l⁺ l (whole ∷ []) sorted (c_more (λ q i. elim i [ ]) c_end)
      (λ p i. elim (in_cons i) [ inl a ↦ subst (λ (s : Part). (has l s ≡ true) × (has l⁺ s ≡ false)) (sym a) whole_new | inr b ↦ elim b [ ] ])
      (λ p t f. subst (λ (s : Part). In s (whole ∷ [])) (sym (old_only p t f)) here)
