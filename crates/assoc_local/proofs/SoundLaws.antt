-- A pool that passes the check is well-formed: its words are those that the list of its leaves prescribes, at the places
-- where its blocks stand.
use Prim.Native.Nat.{ℕ, zero, suc, ◌+◌, ◌*◌, ◌-◌, ◌≤◌, ◌<◌}
use mathlib.Core.Path.{◌≡◌, refl, sym, ap, ap₂, ◌∙◌, subst}
use mathlib.Core.List.{List, [], ◌∷◌}
use mathlib.Core.Option.{Option, none, some}
use native.Mathlib.Omega.{arith}
use native.Mathlib.Nat.{zero-add, add-zero}
use lib.Dec.{eqb, ltb}
use lib.ListN.{get_or}
use borrow.Author.Tests.{eqb-true, eqb-false, ltb-true, ltb-false, eq-eqb, ne_eqb, le-leb, lt-leb}
use Rattle.blocks.specs.Lists.{up_to, first, In, here}
use Rattle.blocks.proofs.BoolLaws.{by_t, clash}
use Rattle.blocks.proofs.ListLaws.{first_yes, first_no, look, each}
use Rattle.blocks.proofs.PlaceNumberLaws.{number_of_lem}
use Rattle.assoc_tree.specs.Keys.{Item}
use Rattle.assoc_tree.specs.Parts.{Part, part, same, block_of, over, size, slots, full, top_tier, branch, leads_for, leaf_of, nth, slot, root, root_for, head_item}
use Rattle.assoc_layout.specs.Words.{Places, anchor_words, block_words, place, root_word, tier_field, skip_field, value_field, base_field, slot_field, object_of, ref, value, slot_word, field, field_at, anchor_word, number_in}
use Rattle.assoc_layout.specs.Decode.{word, base_at, place_in, places_of, list_of}
use Rattle.assoc_layout.specs.WellFormed.{WellFormed}
use Rattle.assoc_tree.proofs.SizeLaws.{up, same_refl, same_is}
use Rattle.assoc_keys.proofs.NumberLaws.{words_of}
use Rattle.assoc_tree.proofs.KeyLaws.{find_some}
use Rattle.assoc_tree.proofs.SlotLaws.{slot_spread}
use Rattle.assoc_layout.proofs.RenderLaws.{render_is}
use Rattle.assoc_local.specs.Local.{tier_of, skip_of, count_of, top_of, slot_at, keys_under, keys_at, Live, LeafOk, LeafIn, PackedOk, SlotOk, nothing, a_leaf, a_branch, SpreadOk, BlockOk, free, leaf, cut, packed, spread, PoolOk}
use Rattle.assoc_local.proofs.HangLaws.{Rooted, rooted, one_name, above_in, leaf_only}
use Rattle.assoc_local.proofs.LeafLaws.{item_of, sorted, item_leaf, leaf_item, leaf_live, leaf_ok_lem, packed_items, packed_block, SlotKey, slot_under, slot_size, size_is}
use Rattle.assoc_local.proofs.StandLaws.{part_of, some_key, low_in, low_size_is, branch_is, place_live, place_is, placed}

nth_up_to : (f : ℕ → Item) (i k j : ℕ) → j < k → nth (up_to f i k) j ≡ some (f (i + j))
nth_up_to f i zero j h = absurd (omega arith)
nth_up_to f i (suc k) zero h = ap (λ (q : ℕ). some (f q)) (sym (add-zero i))
nth_up_to f i (suc k) (suc j) h = nth_up_to f (suc i) k j (omega arith) ∙ ap (λ (q : ℕ). some (f q)) (shift i j)
  where
    shift : (i j : ℕ) → suc i + j ≡ i + suc j
    shift i j = omega arith

nth_past : (f : ℕ → Item) (i k j : ℕ) → k ≤ j → nth (up_to f i k) j ≡ none
nth_past f i zero j h = refl
nth_past f i (suc k) zero h = absurd (omega arith)
nth_past f i (suc k) (suc j) h = nth_past f (suc i) k j (omega arith)

module _ {ws : List ℕ} {n : ℕ} (s : PoolOk ws n) where
  abbrev base : ℕ → ℕ
  base m = base_at ws m

  abbrev l : List Item
  l = list_of ws n

  abbrev os : Places
  os = places_of ws n

  abbrev ν : Part → ℕ
  ν = number_in os

  num_is : {m : ℕ} → Live ws n m → ν (part_of s m) ≡ m
  num_is {m} a = number_of_lem same same_is (same_refl l) (part_of s m) os m (placed s).once (place_live s a)

  leaf_num : {x : ℕ} → x < n → word ws x tier_field ≡ 1 → ν (part 0 0 (base x)) ≡ x
  leaf_num {x} h t =
      let k : LeafOk ws n x = leaf_ok_lem s h t in
      let z : tier_of ws x ≡ 0 = omega arith in
      ap ν (ap₂ (λ (u r : ℕ). part u r (base x)) (sym z) (sym k.skip)) ∙ num_is (leaf_live s h t)

  -- SLOTS
  packed_slot : {m : ℕ} → Live ws n m → PackedOk ws n m → (j : ℕ) → j < slots →
      ref l ν (slot l (tier_of ws m) (block_of (tier_of ws m) (base m)) j) ≡ slot_at ws m j
  unfolding slot
  packed_slot {m} a k j g =
      let c : keys_under ws m ≡ count_of ws m = rw (ne_eqb (word ws m tier_field) 1 (omega (arith, k.head.low)), k.skip) in
      let d : size l (tier_of ws m) (block_of (tier_of ws m) (base m)) ≡ keys_under ws m = low_size_is s a in
      rw (le-leb (size l (tier_of ws m) (block_of (tier_of ws m) (base m))) full (omega (arith, k.few)))
      (ap (λ (t : List Item). ref l ν (leaf_of (nth t j))) (packed_block s a k) ∙
      by_t (ltb j (count_of ws m)) (λ b. filled (ltb-true _ _ b)) (λ b. empty (ltb-false _ _ b)))
    where
      filled : j < count_of ws m → ref l ν (leaf_of (nth (packed_items s m) j)) ≡ slot_at ws m j
      filled h =
          let f : LeafIn ws n m j = k.leaves j h in
          let e : slot_at ws m (0 + j) - 1 ≡ f.node = ap (λ (q : ℕ). slot_at ws m q - 1) (zero-add j) ∙ omega (arith, f.names.is) in
          ap (λ (o : Option Item). ref l ν (leaf_of o)) (nth_up_to (λ j. item_of s (slot_at ws m j - 1)) 0 (count_of ws m) j h) ∙
          ap (λ (x : ℕ). suc (ν (part 0 0 (base x)))) e ∙ ap suc (leaf_num f.names.below f.tier) ∙ sym f.names.is

      empty : count_of ws m ≤ j → ref l ν (leaf_of (nth (packed_items s m) j)) ≡ slot_at ws m j
      empty h =
          ap (λ (o : Option Item). ref l ν (leaf_of o)) (nth_past (λ j. item_of s (slot_at ws m j - 1)) 0 (count_of ws m) j h) ∙
          sym (k.empty j h g)

  -- what leads to the keys of a slot
  leads_to_lem : {m : ℕ} → Live ws n m → (k : SpreadOk ws n m) → (j : ℕ) → (g : j < slots) → (w c : ℕ) → w ≡ tier_of ws m - 1 →
      c ≡ slots * block_of (tier_of ws m) (base m) + j → SlotOk ws n m j → (o : Option Item) → first (over w c) l ≡ o →
      ref l ν (leads_for l w c o) ≡ slot_at ws m j
  leads_to_lem {m} a k j g w c ew ec b o e = go b o e
    where
      key_at_lem : (y : Item) → In y l → block_of w y.key ≡ c → SlotKey s m j y
      key_at_lem y i d = slot_under s a k g i (ap (λ (v : ℕ). block_of v y.key) (sym ew) ∙ d ∙ ec)

      size_c : size l w c ≡ keys_at ws (slot_at ws m j)
      size_c = ap₂ (size l) ew ec ∙ slot_size s a k g (λ x p q. size_is s p)

      keys_at_lem : (x : ℕ) → slot_at ws m j ≡ suc x → keys_at ws (slot_at ws m j) ≡ keys_under ws x
      keys_at_lem x d = let q : suc x - 1 ≡ x = omega arith in ap (keys_at ws) d ∙ rw (ne_eqb (suc x) 0 (omega arith), q)

      go : SlotOk ws n m j → (o : Option Item) → first (over w c) l ≡ o → ref l ν (leads_for l w c o) ≡ slot_at ws m j
      go (nothing z) none q = sym z
      go (nothing z) (some y) q =
          let (t, i) = first_yes (over w c) (each l (λ x h. h)) q in
          absurd (omega (arith, (key_at_lem y i (eqb-true _ _ t)).names.is))
      go (a_leaf x d u) none q = absurd (clash (eq-eqb _ _ (ap (λ (v : ℕ). block_of v (base x)) ew ∙ d.within ∙ sym ec))
          (look (first_no (over w c) l q) (leaf_item s d.names.below u)))
      go (a_leaf x d u) (some y) q =
          let (t, i) = first_yes (over w c) (each l (λ z h. h)) q in
          let one : size l w c ≡ 1 = size_c ∙ keys_at_lem x d.names.is ∙ rw (eq-eqb (word ws x tier_field) 1 u) in
          rw (lt-leb 2 (size l w c) (omega arith))
          (only (key_at_lem y i (eqb-true _ _ t)))
        where
          only : SlotKey s m j y → suc (ν (part 0 0 y.key)) ≡ slot_at ws m j
          only r =
              let z : r.node ≡ x = one_name s r.names d.names refl in
              let f : r.leaf ≡ x = leaf_only s r.names.below (subst (λ (q : ℕ). word ws q tier_field ≡ 1) (sym z) u) r.above ∙ z in
              ap (λ (h : Item). suc (ν (part 0 0 h.key))) (sym r.is ∙ ap (item_of s) f) ∙
              ap suc (leaf_num d.names.below u) ∙ sym d.names.is
      go (a_branch x d u t' c') o q =
          on o q (some_key s (record { below = d.names.below; used = omega (arith, u) }))
        where
          live : Live ws n x
          live = record { below = d.names.below; used = omega (arith, u) }

          here_is : block_of (top_of ws x) (base x) ≡ c
          here_is = ap (λ (v : ℕ). block_of v (base x)) t' ∙ d.within ∙ sym ec

          wide : top_of ws x ≡ w
          wide = t' ∙ sym ew

          on : (o : Option Item) → first (over w c) l ≡ o →
              (y : Item) × In y l × (block_of (tier_of ws x) y.key ≡ block_of (tier_of ws x) (base x)) →
              ref l ν (leads_for l w c o) ≡ slot_at ws m j
          on none q (y, i, f) = absurd (clash (eq-eqb _ _ (ap (λ (v : ℕ). block_of v y.key) (sym wide) ∙
              up {v = tier_of ws x} {w = top_of ws x} y.key (base x) (omega arith) f ∙ here_is)) (look (first_no (over w c) l q) i))
          on (some z) q r =
              let (t, i) = first_yes (over w c) (each l (λ z h. h)) q in
              let two : size l w c ≡ keys_under ws x = size_c ∙ keys_at_lem x d.names.is in
              let inside : block_of (top_of ws x) z.key ≡ block_of (top_of ws x) (base x) =
              ap (λ (v : ℕ). block_of v z.key) wide ∙ eqb-true _ _ t ∙ sym here_is in
              rw (le-leb 2 (size l w c) (omega arith))
              (ap (λ (p : Part). suc (ν p)) (ap (λ (v : ℕ). branch l v z.key) (sym wide) ∙
              branch_is s z live i (low_in s live i inside)) ∙ ap suc (num_is live) ∙ sym d.names.is)

  spread_slot : {m : ℕ} → Live ws n m → SpreadOk ws n m → (j : ℕ) → j < slots →
      ref l ν (slot l (tier_of ws m) (block_of (tier_of ws m) (base m)) j) ≡ slot_at ws m j
  spread_slot {m} a k j g =
      let c : keys_under ws m ≡ count_of ws m = rw (ne_eqb (word ws m tier_field) 1 (omega (arith, k.head.low)), k.skip) in
      let d : size l (tier_of ws m) (block_of (tier_of ws m) (base m)) ≡ keys_under ws m = low_size_is s a in
      ap (ref l ν) (slot_spread l (tier_of ws m) (block_of (tier_of ws m) (base m)) j (omega (arith, k.many))) ∙
      leads_to_lem a k j g (tier_of ws m - 1) (slots * block_of (tier_of ws m) (base m) + j) refl refl (k.slot j g) _ refl

  slot_is : {m : ℕ} → Live ws n m → (j : ℕ) → j < slots → slot_word l ν (part_of s m) j ≡ slot_at ws m j
  slot_is {m} a j g = go (s.block m a.below)
    where
      go : BlockOk ws n m → slot_word l ν (part_of s m) j ≡ slot_at ws m j
      go (free f) = absurd (omega (arith, f 0 (omega arith), a.used))
      go (leaf k) = rw (eq-eqb (tier_of ws m) 0 (omega (arith, k.tier))) (sym (k.empty j g))
      go (cut k) =
          rw (ne_eqb (tier_of ws m) 0 (omega (arith, k.head.low)), ne_eqb (skip_of ws m) 0 (omega (arith, k.skip)))
          (by_t (eqb j 0)
          (λ c. rw c (ap suc (ap ν node_is ∙ num_is node_live) ∙ sym (ap (slot_at ws m) (eqb-true _ _ c) ∙ k.names.is)))
          (λ c. let ne : j ≡ 0 → ⊥ = eqb-false _ _ c in rw c (sym (k.empty j (omega arith) g))))
        where
          node_live : Live ws n k.node
          node_live = record { below = k.names.below; used = omega (arith, k.same_tier, k.head.low) }

          node_is : part (tier_of ws m) 0 (base m) ≡ part_of s k.node
          node_is =
              let t : tier_of ws m ≡ tier_of ws k.node = omega (arith, k.same_tier) in
              ap (λ (u : ℕ). part u 0 (base m)) t ∙
              ap₂ (λ (r b : ℕ). part (tier_of ws k.node) r b) (sym k.is_node_lem) (sym k.same_base)
      go (packed k) = rw (ne_eqb (tier_of ws m) 0 (omega (arith, k.head.low)), eq-eqb (skip_of ws m) 0 k.skip) (packed_slot a k j g)
      go (spread k) = rw (ne_eqb (tier_of ws m) 0 (omega (arith, k.head.low)), eq-eqb (skip_of ws m) 0 k.skip) (spread_slot a k j g)

  value_is : {m : ℕ} → Live ws n m → value l ν (part_of s m) ≡ count_of ws m
  value_is {m} a = go (s.block m a.below)
    where
      node : 2 ≤ word ws m tier_field → skip_of ws m ≡ 0 → value l ν (part_of s m) ≡ count_of ws m
      node low z = rw (ne_eqb (tier_of ws m) 0 (omega arith), eq-eqb (skip_of ws m) 0 z)
          (low_size_is s a ∙ rw (ne_eqb (word ws m tier_field) 1 (omega arith), z))

      go : BlockOk ws n m → value l ν (part_of s m) ≡ count_of ws m
      go (free f) = absurd (omega (arith, f 0 (omega arith), a.used))
      go (leaf k) = rw (eq-eqb (tier_of ws m) 0 (omega (arith, k.tier)))
          (ap object_of (find_some (base m) (sorted s) (leaf_item s a.below k.tier) refl))
      go (cut k) = rw (ne_eqb (tier_of ws m) 0 (omega (arith, k.head.low)), ne_eqb (skip_of ws m) 0 (omega (arith, k.skip))) (sym k.count)
      go (packed k) = node k.head.low k.skip
      go (spread k) = node k.head.low k.skip

  field_is : {m : ℕ} → Live ws n m → (f : ℕ) → f < block_words → field l ν (part_of s m) f ≡ word ws m f
  field_is {m} a f g =
      by_t (eqb f tier_field) (λ c. let q : suc (tier_of ws m) ≡ word ws m tier_field = omega (arith, a.used) in
      rw c (q ∙ ap (word ws m) (sym (eqb-true f tier_field c))))
      (λ c. by_t (eqb f skip_field) (λ d. rw (c, d) (ap (word ws m) (sym (eqb-true _ _ d))))
      (λ d. by_t (eqb f value_field) (λ e. rw (c, d, e) (value_is a ∙ ap (word ws m) (sym (eqb-true _ _ e))))
      (λ e. let n₀ : f ≡ tier_field → ⊥ = eqb-false _ _ c in
      let n₁ : f ≡ skip_field → ⊥ = eqb-false _ _ d in
      let n₂ : f ≡ value_field → ⊥ = eqb-false _ _ e in
      by_t (ltb f slot_field)
      (λ h. let lt : f < slot_field = ltb-true _ _ h in
      let q : place m base_field + (f - base_field) ≡ place m f = omega arith in
      rw (c, d, e, h) (words_of ws s.fit (place m base_field) (f - base_field) (omega arith) ∙ ap (λ (x : ℕ). get_or ws x 0) q))
      (λ h. let le : slot_field ≤ f = ltb-false _ _ h in
      let q : slot_field + (f - slot_field) ≡ f = omega arith in
      rw (c, d, e, h) (slot_is a (f - slot_field) (omega arith) ∙ ap (word ws m) q)))))

  block_words_lem : (m f : ℕ) → m < n → f < block_words → get_or ws (place m f) 0 ≡ field_at l ν (get_or os m none) f
  block_words_lem m f h g =
      by_t (eqb (word ws m tier_field) 0)
      (λ c. let e : place_in ws m ≡ none = rw c in
      zero_word (eqb-true _ _ c) ∙ sym (ap (λ (o : Option Part). field_at l ν o f) (place_is s m h ∙ e)))
      (λ c. let ne : word ws m tier_field ≡ 0 → ⊥ = eqb-false _ _ c in live (record { below = h; used = omega arith }))
    where
      zero_word : word ws m tier_field ≡ 0 → word ws m f ≡ 0
      zero_word z = go (s.block m h)
        where
          go : BlockOk ws n m → word ws m f ≡ 0
          go (free k) = k f g
          go (leaf k) = absurd (omega (arith, k.tier))
          go (cut k) = absurd (omega (arith, k.head.low))
          go (packed k) = absurd (omega (arith, k.head.low))
          go (spread k) = absurd (omega (arith, k.head.low))

      live : Live ws n m → word ws m f ≡ field_at l ν (get_or os m none) f
      live a = sym (field_is a f g) ∙ sym (ap (λ (o : Option Part). field_at l ν o f) (place_live s a))

  -- THE ROOT
  root_live : (r : ℕ) → get_or ws root_word 0 ≡ suc r → Live ws n r
  root_live r e = record { below = (s.root r e).below; used = omega (arith, (s.root r e).low) }

  root_is : get_or ws root_word 0 ≡ ref l ν (root l)
  root_is = go l refl
    where
      nothing_in : (r : ℕ) → get_or ws root_word 0 ≡ suc r → l ≡ [] → ⊥
      nothing_in r e d = let (x, i, f) = some_key s (root_live r e) in elim (subst (λ (t : List Item). In x t) d i) [ ]

      go : (t : List Item) → l ≡ t → get_or ws root_word 0 ≡ ref l ν (root_for l (head_item t))
      go [] d = by_t (eqb (get_or ws root_word 0) 0) (λ c. eqb-true _ _ c)
          (λ c. let ne : get_or ws root_word 0 ≡ 0 → ⊥ = eqb-false _ _ c in
          absurd (nothing_in (get_or ws root_word 0 - 1) (omega arith) d))
      go (x ∷ t) d = leads (item_leaf s i)
        where
          i : In x l
          i = subst (λ (q : List Item). In x q) (sym d) here

          leads : (y : ℕ) × (y < n) × (word ws y tier_field ≡ 1) × (item_of s y ≡ x) → get_or ws root_word 0 ≡ suc (ν (branch l top_tier x.key))
          leads (y, h, u, e) = from (rooted s (leaf_live s h u))
            where
              from : Rooted s y → get_or ws root_word 0 ≡ suc (ν (branch l top_tier x.key))
              from r =
                  let a : Live ws n r.root = root_live r.root r.is in
                  let w : top_of ws r.root ≡ top_tier = (s.root r.root r.is).wide in
                  let b : block_of (top_of ws r.root) x.key ≡ block_of (top_of ws r.root) (base r.root) =
                  ap (λ (q : Item). block_of (top_of ws r.root) q.key) (sym e) ∙ above_in s r.above in
                  r.is ∙ sym (ap suc (ap ν (ap (λ (v : ℕ). branch l v x.key) (sym w) ∙ branch_is s x a i (low_in s a i b)) ∙ num_is a))

  anchor_words_lem : (i : ℕ) → i < anchor_words → get_or ws i 0 ≡ anchor_word l ν n i
  anchor_words_lem i h =
      by_t (eqb i 0) (λ c. rw c (ap (λ (k : ℕ). get_or ws k 0) (eqb-true _ _ c) ∙ s.count))
      (λ c. let ne : i ≡ 0 → ⊥ = eqb-false _ _ c in
      let e : i ≡ root_word = omega arith in rw c (ap (λ (k : ℕ). get_or ws k 0) e ∙ root_is))

  -- THE LAW
  pub well_formed_lem : WellFormed ws
  well_formed_lem = record {
    n = n;
    list = list_of ws n;
    places = places_of ws n;
    least = s.least;
    most = s.most;
    valid = sorted s;
    placed = placed s;
    words_are = render_is l os n ws s.long anchor_words_lem block_words_lem;
  }

  pub blocks_are : well_formed_lem.n ≡ n
  unfolding well_formed_lem
  blocks_are = refl
