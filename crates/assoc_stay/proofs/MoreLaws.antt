-- One key more: from the lowest tier on its path with more than 16 keys upwards the parts stay, where that block does not
-- begin or end a run. (Delete is the same with the two lists exchanged.)
use Prim.Native.Nat.{ℕ, zero, suc, ◌+◌, ◌≤◌, ◌<◌}
use mathlib.Core.Path.{◌≡◌, refl, sym, ap, ◌∙◌, subst}
use mathlib.Core.Bool.{Bool, true, false}
use mathlib.Core.List.{List, [], ◌∷◌}
use native.Mathlib.Omega.{arith}
use lib.Dec.{ltb, eqb}
use lib.ListN.{length}
use borrow.Author.Tests.{eqb-true, eqb-false, eq-eqb, ne_eqb, le-leb, lt-ltb}
use Rattle.blocks.specs.Lists.{keep, In, here, there}
use Rattle.blocks.proofs.BoolLaws.{by_t, clash, both_no, both_r}
use Rattle.assoc_tree.specs.Keys.{Item, insert}
use Rattle.assoc_tree.specs.Parts.{block_of, over, size, size_over, full, skipped, low_from, branch, is_upper}
use Rattle.assoc_tree.proofs.SizeLaws.{up, size_step, in_own}
use Rattle.assoc_stay.proofs.StayLaws.{apart_insert, far_size, far_skipped}
use Rattle.assoc_tree.proofs.RunLaws.{two_in, size_mono}

-- LISTS
keep_more : (p : Item → Bool) (e : Item) (l : List Item) → ((x : Item) → In x l → x.key ≡ e.key → ⊥) → p e ≡ true →
    length (keep p (insert e l)) ≡ suc (length (keep p l))
keep_more p e [] n t = rw t
keep_more p e (x ∷ l) n t =
    by_t (ltb e.key x.key) (λ c. rw (c, t))
    (λ c. by_t (eqb e.key x.key) (λ d. absurd (n x here (sym (eqb-true _ _ d))))
    (λ d. let r : length (keep p (insert e l)) ≡ suc (length (keep p l)) = keep_more p e l (λ y i. n y (there i)) t in
    rw (c, d) (by_t (p x) (λ u. rw u (ap suc r)) (λ u. rw u r))))

module _ (e : Item) (l : List Item) (fresh : (x : Item) → In x l → x.key ≡ e.key → ⊥) where
  abbrev k : ℕ
  k = e.key

  abbrev l⁺ : List Item
  l⁺ = insert e l

  pub more_size : (v : ℕ) → size_over l⁺ v k ≡ suc (size_over l v k)
  unfolding size
  more_size v = keep_more (over v (block_of v k)) e l fresh (in_own v e)

  -- a block on the path above one with more than 16 keys of the path is skipped as before
  pub skip_same : (w x : ℕ) → full < size_over l w k → block_of (suc w) x ≡ block_of (suc w) k →
      skipped l⁺ (suc w) x ≡ skipped l (suc w) x
  unfolding skipped
  skip_same w x h q =
      let a : size_over l⁺ (suc w) x ≡ suc (size_over l (suc w) k) = ap (size l⁺ (suc w)) q ∙ more_size (suc w) in
      let b : size_over l (suc w) x ≡ size_over l (suc w) k = ap (size l (suc w)) q in
      let big : full < size_over l (suc w) k = omega (arith, size_step l w k) in
      rw (a, b, lt-ltb full (suc (size_over l (suc w) k)) (omega arith), lt-ltb full (size_over l (suc w) k) big)
      (by_t (eqb (block_of w k) (block_of w x))
      (λ c. let d : block_of w k ≡ block_of w x = eqb-true _ _ c in
      rw (← d, more_size w) (same_eq (size_over l w k) (size_over l (suc w) k)))
      (λ c. let n : block_of w k ≡ block_of w x → ⊥ = eqb-false _ _ c in
      let s : size_over l w x ≡ size_over l⁺ w x = far_size (apart_insert e l) w (block_of w x) n in
      let t : size_over l w x + size_over l w k ≤ size_over l (suc w) k = two_in l w x k (λ f. n (sym f)) q in
      rw (← s, ne_eqb (size_over l w x) (suc (size_over l (suc w) k)) (omega arith), ne_eqb (size_over l w x) (size_over l (suc w) k) (omega arith))))
    where
      same_eq : (m n : ℕ) → eqb (suc m) (suc n) ≡ eqb m n
      same_eq m n = by_t (eqb m n) (λ c. rw (c, eq-eqb (suc m) (suc n) (ap suc (eqb-true m n c))))
          (λ c. rw (c, ne_eqb (suc m) (suc n) (λ f. eqb-false m n c (omega arith))))

  -- THE TURN: tier q = w + 1 is the lowest on the path with more than 16 keys
  module _ (w : ℕ) (above : full < size_over l (suc w) k) (under : size_over l w k ≤ full) where
    -- with the new key it is no run's
    pub turn_open : (x : ℕ) → block_of (suc w) x ≡ block_of (suc w) k → skipped l⁺ (suc w) x ≡ false
    unfolding skipped
    turn_open x q =
        let a : size_over l⁺ (suc w) x ≡ suc (size_over l (suc w) k) = ap (size l⁺ (suc w)) q ∙ more_size (suc w) in
        rw a (by_t (eqb (block_of w k) (block_of w x))
        (λ c. let d : block_of w k ≡ block_of w x = eqb-true _ _ c in
        rw (← d, more_size w, ne_eqb (suc (size_over l w k)) (suc (size_over l (suc w) k)) (omega arith)) (both_no (ltb full (suc (size_over l (suc w) k)))))
        (λ c. let n : block_of w k ≡ block_of w x → ⊥ = eqb-false _ _ c in
        let s : size_over l w x ≡ size_over l⁺ w x = far_size (apart_insert e l) w (block_of w x) n in
        let t : size_over l w x + size_over l w k ≤ size_over l (suc w) k = two_in l w x k (λ f. n (sym f)) q in
        rw (← s, ne_eqb (size_over l w x) (suc (size_over l (suc w) k)) (omega arith)) (both_no (ltb full (suc (size_over l (suc w) k))))))

    -- and before neither: the key does not part a run
    module _ (open' : (x : Item) → In x l → block_of (suc w) x.key ≡ block_of (suc w) k → skipped l (suc w) x.key ≡ false) where
      pub skip_all : (v : ℕ) (x : Item) → suc w ≤ v → In x l → block_of v x.key ≡ block_of v k →
          skipped l⁺ v x.key ≡ skipped l v x.key
      skip_all zero x h i q = absurd (omega arith)
      skip_all (suc u) x h i q =
          by_t (eqb u w)
          (λ c. let d : u ≡ w = eqb-true _ _ c in
          let q' : block_of (suc w) x.key ≡ block_of (suc w) k = subst (λ (t : ℕ). block_of (suc t) x.key ≡ block_of (suc t) k) d q in
          subst (λ (t : ℕ). skipped l⁺ (suc t) x.key ≡ skipped l (suc t) x.key) (sym d)
          (turn_open x.key q' ∙ sym (open' x i q')))
          (λ c. let n : u ≡ w → ⊥ = eqb-false _ _ c in
          let m : size_over l (suc w) k ≤ size_over l u k = size_mono l (suc w) u k (omega arith) in
          skip_same u x.key (omega arith) q)

      -- UPPER ENDS on the path, and beside it, stay
      pub path_upper : (v : ℕ) (x : Item) → suc w ≤ v → In x l → block_of v x.key ≡ block_of v k →
          is_upper l⁺ v x.key ≡ is_upper l v x.key
      unfolding is_upper
      path_upper zero x h i q = absurd (omega arith)
      path_upper (suc u) x h i q =
          let q' : block_of (suc (suc u)) x.key ≡ block_of (suc (suc u)) k =
          up {v = suc u} {w = suc (suc u)} x.key k (omega arith) q in
          let m : size_over l (suc w) k ≤ size_over l (suc u) k = size_mono l (suc w) (suc u) k (omega arith) in
          let a : size_over l⁺ (suc u) x.key ≡ suc (size_over l (suc u) k) = ap (size l⁺ (suc u)) q ∙ more_size (suc u) in
          let b : size_over l⁺ (suc (suc u)) x.key ≡ suc (size_over l (suc (suc u)) k) = ap (size l⁺ (suc (suc u))) q' ∙ more_size (suc (suc u)) in
          let c : size_over l (suc u) x.key ≡ size_over l (suc u) k = ap (size l (suc u)) q in
          let d : size_over l (suc (suc u)) x.key ≡ size_over l (suc (suc u)) k = ap (size l (suc (suc u))) q' in
          let g : size_over l (suc u) k ≤ size_over l (suc (suc u)) k = size_step l (suc u) k in
          rw (
            skip_all (suc u) x h i q,
            skip_all (suc (suc u)) x (omega arith) i q',
            a,
            b,
            c,
            d,
            le-leb 1 (suc (size_over l (suc u) k)) (omega arith),
            le-leb 1 (size_over l (suc u) k) (omega arith),
            le-leb 2 (suc (size_over l (suc u) k)) (omega arith),
            le-leb 2 (size_over l (suc u) k) (omega arith),
            lt-ltb full (suc (size_over l (suc (suc u)) k)) (omega arith),
            lt-ltb full (size_over l (suc (suc u)) k) (omega arith),
          )

      pub beside_upper : (v : ℕ) (x : Item) → w ≤ v → In x l → block_of (suc v) x.key ≡ block_of (suc v) k →
          (block_of v k ≡ block_of v x.key → ⊥) → is_upper l⁺ v x.key ≡ is_upper l v x.key
      unfolding is_upper
      beside_upper zero x h i q n = refl
      beside_upper (suc u) x h i q n =
          let m : size_over l (suc w) k ≤ size_over l (suc (suc u)) k = size_mono l (suc w) (suc (suc u)) k (omega arith) in
          let a : size_over l (suc u) x.key ≡ size_over l⁺ (suc u) x.key = far_size (apart_insert e l) (suc u) (block_of (suc u) x.key) n in
          let b : size_over l⁺ (suc (suc u)) x.key ≡ suc (size_over l (suc (suc u)) k) = ap (size l⁺ (suc (suc u))) q ∙ more_size (suc (suc u)) in
          let d : size_over l (suc (suc u)) x.key ≡ size_over l (suc (suc u)) k = ap (size l (suc (suc u))) q in
          rw (
            sym (far_skipped (apart_insert e l) (suc u) x.key n),
            skip_all (suc (suc u)) x (omega arith) i q,
            ← a,
            b,
            d,
            lt-ltb full (suc (size_over l (suc (suc u)) k)) (omega arith),
            lt-ltb full (size_over l (suc (suc u)) k) (omega arith),
          )

      -- a run on the path stays on it
      down : (u : ℕ) (x : Item) → suc w ≤ suc u → In x l → block_of (suc u) x.key ≡ block_of (suc u) k →
          skipped l (suc u) x.key ≡ true → (suc w ≤ u) × (block_of u x.key ≡ block_of u k)
      unfolding skipped
      down u x h i q c =
          by_t (eqb u w)
          (λ t. let d : u ≡ w = eqb-true _ _ t in
          absurd (clash (subst (λ (j : ℕ). skipped l (suc j) x.key ≡ true) d c)
          (open' x i (subst (λ (j : ℕ). block_of (suc j) x.key ≡ block_of (suc j) k) d q))))
          (λ t. let n : u ≡ w → ⊥ = eqb-false _ _ t in
          let m : size_over l (suc w) k ≤ size_over l u k = size_mono l (suc w) u k (omega arith) in
          let z : size_over l u x.key ≡ size_over l (suc u) k =
          eqb-true _ _ (both_r (ltb full (size_over l (suc u) x.key)) _ c) ∙ ap (size l (suc u)) q in (
            omega arith,
            by_t (eqb (block_of u x.key) (block_of u k)) (λ b. eqb-true _ _ b)
                (λ b. let r : size_over l u x.key + size_over l u k ≤ size_over l (suc u) k = two_in l u x.key k (eqb-false _ _ b) q in
                absurd (omega arith)),
          ))

      pub path_low : (v : ℕ) (x : Item) → suc w ≤ v → In x l → block_of v x.key ≡ block_of v k →
          low_from l⁺ x.key v ≡ low_from l x.key v
      unfolding low_from
      path_low zero x h i q = absurd (omega arith)
      path_low (suc u) x h i q =
          rw (skip_all (suc u) x h i q) (by_t (skipped l (suc u) x.key)
          (λ c. let (d, r) = down u x h i q c in rw c (path_low u x d i r)) (λ c. rw c))

      -- what leads to a block on the path stays
      pub path_branch : (v : ℕ) (x : Item) → suc w ≤ v → In x l → block_of v x.key ≡ block_of v k →
          branch l⁺ v x.key ≡ branch l v x.key
      path_branch v x h i q = rw (path_low v x h i q)
