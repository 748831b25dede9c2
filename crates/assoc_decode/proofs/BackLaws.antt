-- The words of a well-formed pool decode to the one list and the one numbering that prescribe them.
use Prim.Native.Nat.{ℕ, zero, suc, ◌+◌, ◌*◌, ◌-◌, ◌^◌, ◌≤◌, ◌<◌}
use mathlib.Core.Path.{◌≡◌, refl, sym, ap, ap₂, ◌∙◌, subst}
use mathlib.Core.Bool.{true}
use mathlib.Core.List.{List}
use mathlib.Core.Option.{Option, none, some}
use mathlib.Core.Logic.{inl, inr}
use native.Mathlib.Omega.{arith}
use native.Mathlib.Nat.{le_refl, zero-add}
use lib.Dec.{eqb}
use lib.ListN.{length, get_or}
use lib.Seq.{ext_get_or}
use borrow.Author.Tests.{eqb-true, eqb-false, eq-eqb, ne_eqb, lt-ltb}
use Rattle.blocks.specs.Lists.{In}
use Rattle.blocks.proofs.BoolLaws.{by_t}
use Rattle.blocks.proofs.BlockLaws.{block_lo}
use Rattle.blocks.proofs.UpToLaws.{length_up_to, get_d_up_to_or}
use Rattle.assoc_tree.specs.Keys.{Item, item, insert, is_item, Sorted, done}
use Rattle.assoc_tree.specs.Parts.{Part, top, same, tier_bits, low_from, branch, leaf, has}
use Rattle.assoc_layout.specs.Words.{place, block_words, tier_field, skip_field, value_field, base_field, slot_field, field_at, object_of}
use Rattle.assoc_keys.specs.Number.{word_of, key_words}
use Rattle.assoc_layout.specs.Decode.{word, base_at, place_in, places_of, leaves_to, list_of}
use Rattle.assoc_layout.specs.WellFormed.{WellFormed, num}
use Rattle.blocks.proofs.PlacingLaws.{in_standing}
use Rattle.blocks.proofs.PlaceNumberLaws.{number_at, number_of_lem}
use Rattle.assoc_layout.proofs.RenderLaws.{render_word}
use Rattle.assoc_tree.proofs.SizeLaws.{same_is, same_refl}
use Rattle.words.specs.Bits.{word_bits}
use Rattle.assoc_keys.proofs.NumberLaws.{number_back}
use Rattle.assoc_tree.proofs.KeyLaws.{key_short, sorted_in, unique, low_pos, find_some, leaf_is, has_leaf}
use Rattle.assoc_tree.proofs.PartLaws.{has_open}
use Rattle.assoc_tree.proofs.SortedLaws.{sorted_insert, in_insert, insert_in, insert_stays, sorted_ext}

-- PLACES
module _ {ws : List ℕ} (s : WellFormed ws) where
  abbrev l : List Item
  l = s.list

  pub at_word : (m f : ℕ) → m < s.n → f < block_words → word ws m f ≡ field_at l (num s) (get_or s.places m none) f
  at_word m f h g = ap (λ (v : List ℕ). get_or v (place m f) 0) s.words_are ∙ render_word l s.places s.n m f h g

  base_short : (p : Part) → has l p ≡ true → p.base < 2 ^ (word_bits * key_words)
  base_short p t =
      let (x, i, u, e) = has_open l p t in
      subst (λ (q : Part). q.base < 2 ^ (word_bits * key_words)) (sym e)
      (less (block_lo (tier_bits (low_from l x.key (top p))) x.key) (key_short s.valid i))
    where
      less : {a b c : ℕ} → a ≤ b → b < c → a < c
      less f g = omega arith

  pub base_back : (m : ℕ) (p : Part) → m < s.n → get_or s.places m none ≡ some p → base_at ws m ≡ p.base
  base_back m p h e = number_back ws key_words (place m base_field) p.base
      (base_short p (s.placed.sound p (in_standing p s.places m e))) (λ i g. at i g)
    where
      at : (i : ℕ) → i < key_words → get_or ws (place m base_field + i) 0 ≡ word_of p.base i
      at i g =
          let q : place m base_field + i ≡ place m (base_field + i) = omega arith in
          let d : base_field + i - base_field ≡ i = omega arith in
          ap (λ (x : ℕ). get_or ws x 0) q ∙ at_word m (base_field + i) h (omega arith) ∙
          ap (λ (o : Option Part). field_at l (num s) o (base_field + i)) e ∙
          rw (
            ne_eqb (base_field + i) tier_field (omega arith),
            ne_eqb (base_field + i) skip_field (omega arith),
            ne_eqb (base_field + i) value_field (omega arith),
            lt-ltb (base_field + i) slot_field (omega arith),
            d,
          )

  pub place_back : (m : ℕ) → m < s.n → place_in ws m ≡ get_or s.places m none
  place_back m h = go (get_or s.places m none) refl
    where
      go : (o : Option Part) → get_or s.places m none ≡ o → place_in ws m ≡ get_or s.places m none
      go none e =
          let z : word ws m tier_field ≡ 0 = at_word m tier_field h (omega arith) ∙
          ap (λ (o : Option Part). field_at l (num s) o tier_field) e in
          rw (e, z)
      go (some p) e =
          let a : word ws m tier_field ≡ suc p.tier = at_word m tier_field h (omega arith) ∙
          ap (λ (o : Option Part). field_at l (num s) o tier_field) e in
          let b : word ws m skip_field ≡ p.skip = at_word m skip_field h (omega arith) ∙
          ap (λ (o : Option Part). field_at l (num s) o skip_field) e in
          let d : suc p.tier - 1 ≡ p.tier = omega arith in
          rw (e, a, b, ne_eqb (suc p.tier) 0 (omega arith), d, base_back m p h e)

  pub places_back : places_of ws s.n ≡ s.places
  places_back = ext_get_or none (places_of ws s.n) s.places
      (length_up_to (place_in ws) 0 s.n ∙ sym s.placed.size)
      (λ m g. let h : m < s.n = (rw (length_up_to (place_in ws) 0 s.n) at g) in
      get_d_up_to_or none (place_in ws) 0 s.n m h ∙ ap (place_in ws) (zero-add m) ∙ place_back m h)

  -- THE LIST
  pub leaf_inv : (p : Part) → has l p ≡ true → p.tier ≡ 0 → (x : Item) × In x l × (p ≡ leaf l x.key)
  leaf_inv p t z =
      let (x, i, u, e) = has_open l p t in
      let d : low_from l x.key (top p) ≡ 0 = ap (λ (q : Part). q.tier) (sym e) ∙ z in
      by_t (eqb (top p) 0)
      (λ c. (x, i, e ∙ ap (λ (v : ℕ). branch l v x.key) (eqb-true _ _ c) ∙ leaf_is l x.key))
      (λ c. let ne : top p ≡ 0 → ⊥ = eqb-false _ _ c in absurd (omega (arith, low_pos s.valid x.key (top p) (omega arith))))

  -- a block that says it is a leaf is one
  pub item_back : (m : ℕ) → m < s.n → word ws m tier_field ≡ 1 →
      (x : Item) × In x l × (item (base_at ws m) (word ws m value_field) ≡ x) × (get_or s.places m none ≡ some (leaf l x.key))
  item_back m h t = go (get_or s.places m none) refl
    where
      go : (o : Option Part) → get_or s.places m none ≡ o → (x : Item) × In x l ×
          (item (base_at ws m) (word ws m value_field) ≡ x) × (get_or s.places m none ≡ some (leaf l x.key))
      go none e =
          let z : word ws m tier_field ≡ 0 = at_word m tier_field h (omega arith) ∙
          ap (λ (o : Option Part). field_at l (num s) o tier_field) e in absurd (omega arith)
      go (some p) e =
          let a : word ws m tier_field ≡ suc p.tier = at_word m tier_field h (omega arith) ∙
          ap (λ (o : Option Part). field_at l (num s) o tier_field) e in
          let (x, i, d) = leaf_inv p (s.placed.sound p (in_standing p s.places m e)) (omega arith) in
          let b : base_at ws m ≡ x.key = base_back m p h e ∙ ap (λ (q : Part). q.base) d in
          let v : word ws m value_field ≡ x.object = at_word m value_field h (omega arith) ∙
          ap (λ (o : Option Part). field_at l (num s) o value_field) (e ∙ ap some d) ∙
          ap object_of (find_some x.key s.valid i refl) in
          (x, i, ap₂ item b v, e ∙ ap some d)

  leaves_in : (k : ℕ) → k ≤ s.n → (y : Item) → In y (leaves_to ws k) → In y l
  leaves_in zero h y i = elim i [ ]
  leaves_in (suc k) h y i =
      by_t (eqb (word ws k tier_field) 1)
      (λ c. let (x, j, e, d) = item_back k (omega arith) (eqb-true _ _ c) in
      elim (in_insert _ (leaves_to ws k) (rw c at i)) [
        | inl a ↦ subst (λ (z : Item). In z l) (sym (a ∙ e)) j
        | inr b ↦ leaves_in k (omega arith) y b
      ])
      (λ c. leaves_in k (omega arith) y (rw c at i))

  leaves_sorted : (k : ℕ) → k ≤ s.n → Sorted 0 (leaves_to ws k)
  leaves_sorted zero h = done
  leaves_sorted (suc k) h =
      by_t (eqb (word ws k tier_field) 1)
      (λ c. let (x, j, e, d) = item_back k (omega arith) (eqb-true _ _ c) in
      rw c (sorted_insert (item (base_at ws k) (word ws k value_field)) (omega arith) (ap is_item e ∙ (sorted_in s.valid j).1)
      (leaves_sorted k (omega arith))))
      (λ c. rw c (leaves_sorted k (omega arith)))

  pub number_is : (p : Part) (m : ℕ) → get_or s.places m none ≡ some p → num s p ≡ m
  number_is p m e = number_of_lem same same_is (same_refl l) p s.places m s.placed.once e

  leaf_at : {x : Item} → In x l → get_or s.places (num s (leaf l x.key)) none ≡ some (leaf l x.key)
  leaf_at {x} i = (number_at same same_is (same_refl l) (leaf l x.key) s.places (s.placed.full _ (has_leaf l i))).1

  in_leaves : (k : ℕ) → k ≤ s.n → {x : Item} → In x l → num s (leaf l x.key) < k → In x (leaves_to ws k)
  in_leaves zero h i g = absurd (omega arith)
  in_leaves (suc k) h {x} i g =
      by_t (eqb (num s (leaf l x.key)) k)
      (λ c. let q : num s (leaf l x.key) ≡ k = eqb-true _ _ c in
      let e : get_or s.places k none ≡ some (leaf l x.key) = ap (λ (m : ℕ). get_or s.places m none) (sym q) ∙ leaf_at i in
      let t : word ws k tier_field ≡ 1 = at_word k tier_field (omega arith) (omega arith) ∙
      ap (λ (o : Option Part). field_at l (num s) o tier_field) e in
      let (y, j, f, d) = item_back k (omega arith) t in
      let u : y ≡ x = unique s.valid j i (key_of (sym d ∙ e)) in
      rw (eq-eqb (word ws k tier_field) 1 t) (subst (λ (z : Item). In z (insert (item (base_at ws k) (word ws k value_field)) (leaves_to ws k)))
      (f ∙ u) (insert_in _ (leaves_to ws k))))
      (λ c. let n : num s (leaf l x.key) ≡ k → ⊥ = eqb-false _ _ c in
      let r : In x (leaves_to ws k) = in_leaves k (omega arith) i (omega arith) in
      by_t (eqb (word ws k tier_field) 1)
      (λ b. let (y, j, f, d) = item_back k (omega arith) (eqb-true _ _ b) in
      rw b (insert_stays (item (base_at ws k) (word ws k value_field)) (leaves_to ws k) r
      (λ w. n (number_is (leaf l x.key) k (d ∙ ap (λ (z : ℕ). some (leaf l z)) (ap (λ (z : Item). z.key) (sym f) ∙ sym w))))))
      (λ b. rw b r))
    where
      key_of : {a b : ℕ} → some (leaf l a) ≡ some (leaf l b) → a ≡ b
      key_of {a} {b} q = let r : leaf l a ≡ leaf l b = cc in ap (λ (p : Part). p.base) r

  pub list_back : list_of ws s.n ≡ s.list
  list_back = sorted_ext (leaves_sorted s.n (le_refl _)) s.valid (λ x i. leaves_in s.n (le_refl _) x i)
      (λ x i. in_leaves s.n (le_refl _) i (bound x i))
    where
      bound : (x : Item) → In x l → num s (leaf l x.key) < s.n
      bound x i =
          let e : length s.places ≡ s.n = s.placed.size in
          omega (arith, (number_at same same_is (same_refl l) (leaf l x.key) s.places (s.placed.full _ (has_leaf l i))).0)

-- two lists that prescribe the same words are one
pub one_list : {ws : List ℕ} (s t : WellFormed ws) → s.n ≡ t.n → s.list ≡ t.list
one_list {ws} s t e = sym (list_back s) ∙ ap (list_of ws) e ∙ list_back t
