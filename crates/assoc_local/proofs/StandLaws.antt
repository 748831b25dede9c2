-- Each block in use is a part of the tree of its leaves, each part is one of them, and none stands twice.
use Prim.Native.Nat.{ℕ, zero, suc, ◌+◌, ◌*◌, ◌-◌, ◌/◌, ◌^◌, ◌≤◌, ◌<◌}
use mathlib.Core.Path.{◌≡◌, refl, sym, ap, ap₂, ◌∙◌, subst}
use mathlib.Core.Bool.{true, false}
use mathlib.Core.List.{List, [], ◌∷◌}
use mathlib.Core.Option.{none, some}
use mathlib.Core.Logic.{inl, inr}
use native.Mathlib.Omega.{arith}
use native.Mathlib.Nat.{le_refl, mul-one, zero-add}
use lib.Dec.{eqb, ltb, leb}
use lib.ListN.{length, get_or}
use borrow.Author.Tests.{eqb-true, eqb-false, eq-eqb, ne_eqb, lt-ltb, leb-true, leb-false}
use Rattle.blocks.specs.Lists.{In, Distinct, d_end, d_more}
use Rattle.blocks.specs.Placing.{PlacesOf, standing, number_of, Placed}
use Rattle.blocks.proofs.BoolLaws.{by_t, both_no}
use Rattle.blocks.proofs.UpToLaws.{length_up_to, get_d_up_to_or}
use Rattle.blocks.proofs.PlacingLaws.{in_standing, none_some}
use Rattle.blocks.proofs.PlaceNumberLaws.{number_at}
use Rattle.assoc_tree.specs.Keys.{Item}
use Rattle.assoc_tree.specs.Parts.{Part, part, top, same, tier_bits, block_of, in_block, size, size_over, slots, full, top_tier, skipped, low_from, branch, is_upper, has}
use Rattle.assoc_layout.specs.Words.{Places, tier_field}
use Rattle.assoc_layout.specs.Decode.{word, base_at, place_in, places_of, list_of}
use Rattle.assoc_tree.proofs.SizeLaws.{up, low_le, has_branch, same_refl, same_is}
use Rattle.assoc_tree.proofs.KeyLaws.{block_zero, key_top}
use Rattle.assoc_tree.proofs.SlotLaws.{root_upper, size_pos, tier_up, low_here, upper_here, upper_child}
use Rattle.assoc_tree.proofs.RunLaws.{two_in, size_mono, deep_two, few_low, low_stops, inside_run, in_size}
use Rattle.assoc_tree.proofs.PartLaws.{has_open, upper_le}
use Rattle.assoc_local.specs.Local.{tier_of, skip_of, count_of, top_of, slot_at, keys_under, keys_at, Live, Names, CutOk, SlotOk, nothing, a_leaf, a_branch, SpreadOk, BlockOk, free, leaf, cut, packed, spread, Named, by_root, by_slot, PoolOk}
use Rattle.assoc_local.proofs.HangLaws.{Above, Under, Rooted, leaf_top, lies_in, child_of_lem, one_name, above_in, above_split, top_le, rooted, one_block, leaf_only, leaf_there}
use Rattle.assoc_local.proofs.LeafLaws.{item_of, sorted, item_leaf, leaf_item, leaf_live, KeyIn, key_in_lem, cut_block, slot_size, size_is}

module _ {ws : List ℕ} {n : ℕ} (s : PoolOk ws n) where
  abbrev base : ℕ → ℕ
  base m = base_at ws m

  abbrev l : List Item
  l = list_of ws n

  abbrev pub part_of : ℕ → Part
  part_of m = part (tier_of ws m) (skip_of ws m) (base_at ws m)

  -- key x lies in the lower block of m
  abbrev In' : ℕ → Item → Type 0
  In' m x = block_of (tier_of ws m) x.key ≡ block_of (tier_of ws m) (base m)

  -- SIZES
  pub keys_pos : {m : ℕ} → Live ws n m → 1 ≤ keys_under ws m
  keys_pos {m} a = go (s.block m a.below)
    where
      go : BlockOk ws n m → 1 ≤ keys_under ws m
      go (free f) = absurd (omega (arith, f 0 (omega arith), a.used))
      go (leaf k) = rw (eq-eqb (word ws m tier_field) 1 k.tier) (le_refl _)
      go (cut k) =
          let d : slot_at ws m 0 - 1 ≡ k.node = omega (arith, k.names.is) in
          rw (ne_eqb (word ws m tier_field) 1 (omega (arith, k.head.low)), ne_eqb (skip_of ws m) 0 (omega (arith, k.skip)), d)
          (omega (arith, k.many))
      go (packed k) = rw (ne_eqb (word ws m tier_field) 1 (omega (arith, k.head.low)), k.skip) k.some_key
      go (spread k) = rw (ne_eqb (word ws m tier_field) 1 (omega (arith, k.head.low)), k.skip) (omega (arith, k.many))

  -- the lower block has the same keys
  pub low_size_is : {m : ℕ} → Live ws n m → size l (tier_of ws m) (block_of (tier_of ws m) (base m)) ≡ keys_under ws m
  unfolding size
  low_size_is {m} a = go (s.block m a.below)
    where
      node : skip_of ws m ≡ 0 → length (in_block l (tier_of ws m) (block_of (tier_of ws m) (base m))) ≡ keys_under ws m
      node e = let z : tier_of ws m ≡ top_of ws m = omega arith in
          ap (λ (u : ℕ). length (in_block l u (block_of u (base m)))) z ∙ size_is s a

      go : BlockOk ws n m → length (in_block l (tier_of ws m) (block_of (tier_of ws m) (base m))) ≡ keys_under ws m
      go (free f) = absurd (omega (arith, f 0 (omega arith), a.used))
      go (leaf k) = node k.skip
      go (cut k) = sym (ap length (cut_block s a k)) ∙ size_is s a
      go (packed k) = node k.skip
      go (spread k) = node k.skip

  pub some_key : {m : ℕ} → Live ws n m → (x : Item) × In x l × In' m x
  some_key {m} a = in_size l (tier_of ws m) (base m) (let e : size_over l (tier_of ws m) (base m) ≡ keys_under ws m = low_size_is a in
      omega (arith, keys_pos a))

  -- a key in the upper block is in the lower one
  pub low_in : {m : ℕ} {x : Item} → Live ws n m → In x l → block_of (top_of ws m) x.key ≡ block_of (top_of ws m) (base m) → In' m x
  low_in {m} {x} a i e = go (s.block m a.below)
    where
      node : skip_of ws m ≡ 0 → In' m x
      node d = let z : top_of ws m ≡ tier_of ws m = omega arith in subst (λ (v : ℕ). block_of v x.key ≡ block_of v (base m)) z e

      go : BlockOk ws n m → In' m x
      go (free f) = absurd (omega (arith, f 0 (omega arith), a.used))
      go (leaf k) = node k.skip
      go (cut k) = cut_in (key_in_lem s a k.head.low i e)
        where
          cut_in : KeyIn s m x → In' m x
          cut_in r =
              let z : r.under.slot ≡ 0 = by_t (eqb r.under.slot 0) (λ c. eqb-true _ _ c)
              (λ c. let ne : r.under.slot ≡ 0 → ⊥ = eqb-false _ _ c in
              absurd (omega (arith, k.empty r.under.slot (omega arith) r.under.names.slot, r.under.names.is))) in
              let o : r.under.node ≡ k.node = one_name s r.under.names k.names z in
              let t : top_of ws k.node ≡ tier_of ws m = omega (arith, k.same_tier, k.is_node_lem) in
              let f : block_of (top_of ws k.node) (base r.leaf) ≡ block_of (top_of ws k.node) (base k.node) =
              subst (λ (q : ℕ). block_of (top_of ws q) (base r.leaf) ≡ block_of (top_of ws q) (base q)) o (above_in s r.under.above) in
              ap (λ (w : Item). block_of (tier_of ws m) w.key) (sym r.is) ∙
              subst (λ (v : ℕ). block_of v (base r.leaf) ≡ block_of v (base k.node)) t f ∙
              ap (block_of (tier_of ws m)) k.same_base
      go (packed k) = node k.skip
      go (spread k) = node k.skip

  pub size_there : {m : ℕ} (x : Item) → Live ws n m → In' m x → size_over l (tier_of ws m) x.key ≡ keys_under ws m
  size_there {m} x a e = ap (size l (tier_of ws m)) e ∙ low_size_is a

  -- A NODE WITH MORE THAN 16 KEYS has keys in two slots
  filled_key : {p j : ℕ} → SpreadOk ws n p → j < slots → 1 ≤ slot_at ws p j →
      (y : Item) × In y l × (block_of (tier_of ws p - 1) y.key ≡ slots * block_of (tier_of ws p) (base p) + j)
  filled_key {p} {j} k g h = go (k.slot j g)
    where
      go : SlotOk ws n p j → (y : Item) × In y l × (block_of (tier_of ws p - 1) y.key ≡ slots * block_of (tier_of ws p) (base p) + j)
      go (nothing e) = absurd (omega arith)
      go (a_leaf x b t) = (item_of s x, leaf_item s b.names.below t, b.within)
      go (a_branch x b t e c) =
          let (y, i, d) = some_key (record { below = b.names.below; used = omega (arith, t) }) in
          (y, i, up {v = tier_of ws x} {w = tier_of ws p - 1} y.key (base x) (omega arith) d ∙ b.within)

  -- another key's block beside that of x, in one node: the node is not skipped
  open_by : (w : ℕ) (x y : Item) → In y l → (block_of w x.key ≡ block_of w y.key → ⊥) →
      block_of (suc w) x.key ≡ block_of (suc w) y.key → skipped l (suc w) x.key ≡ false
  unfolding skipped
  open_by w x y i ne e =
      let a : size_over l w x.key + size_over l w y.key ≤ size_over l (suc w) y.key = two_in l w x.key y.key ne e in
      let b : size_over l (suc w) x.key ≡ size_over l (suc w) y.key = ap (size l (suc w)) e in
      rw (ne_eqb (size_over l w x.key) (size_over l (suc w) x.key) (omega (arith, size_pos {l = l} {x = y} w i)))
      (both_no (ltb full (size_over l (suc w) x.key)))

  pub spread_open : {p : ℕ} {x : Item} → SpreadOk ws n p → In x l → In' p x → skipped l (tier_of ws p) x.key ≡ false
  spread_open {p} {x} k i e =
      subst (λ (v : ℕ). skipped l v x.key ≡ false) (sym next)
      (by_t (eqb (block_of (tier_of ws p - 1) x.key) (slots * block_of (tier_of ws p) (base p) + k.one))
      (λ c. by k.other k.other_slot k.other_filled (λ d. k.apart (cancel _ k.one k.other (sym (eqb-true _ _ c) ∙ d))))
      (λ c. by k.one k.one_slot k.one_filled (λ d. eqb-false _ _ c d)))
    where
      cancel : (u v w : ℕ) → u + v ≡ u + w → v ≡ w
      cancel u v w d = omega arith

      next : tier_of ws p ≡ suc (tier_of ws p - 1)
      next = omega (arith, k.head.low)

      up_to : (y j : ℕ) → j < slots → block_of (tier_of ws p - 1) y ≡ slots * block_of (tier_of ws p) (base p) + j →
          block_of (suc (tier_of ws p - 1)) y ≡ block_of (tier_of ws p) (base p)
      up_to y j g d =
          let q : (slots * block_of (tier_of ws p) (base p) + j) / slots ≡ block_of (tier_of ws p) (base p) = omega arith in
          tier_up (tier_of ws p - 1) y ∙ ap (λ (b : ℕ). b / slots) d ∙ q

      by : (j : ℕ) → j < slots → 1 ≤ slot_at ws p j →
          (block_of (tier_of ws p - 1) x.key ≡ slots * block_of (tier_of ws p) (base p) + j → ⊥) →
          skipped l (suc (tier_of ws p - 1)) x.key ≡ false
      by j g h ne =
          let (y, m, d) = filled_key k g h in
          open_by (tier_of ws p - 1) x y m (λ q. ne (q ∙ d))
          (ap (λ (v : ℕ). block_of v x.key) (sym next) ∙ e ∙ sym (up_to y.key j g d))

  -- A SHORTCUT stands for a run
  pub node_of : {p : ℕ} → (k : CutOk ws n p) → SpreadOk ws n k.node
  node_of {p} k = go (s.block k.node k.names.below)
    where
      go : BlockOk ws n k.node → SpreadOk ws n k.node
      go (free f) = absurd (omega (arith, f 0 (omega arith), k.same_tier, k.head.low))
      go (leaf j) = absurd (omega (arith, j.tier, k.same_tier, k.head.low))
      go (cut j) = absurd (omega (arith, j.skip, k.is_node_lem))
      go (packed j) = absurd (omega (arith, j.few, k.many))
      go (spread j) = j

  pub cut_skips : {p : ℕ} (x : Item) → Live ws n p → CutOk ws n p → In x l → In' p x → (j : ℕ) → tier_of ws p < j → j ≤ top_of ws p →
      skipped l j x.key ≡ true
  unfolding skipped
  cut_skips {p} x a k i e zero h g = absurd (omega arith)
  cut_skips {p} x a k i e (suc w) h g =
      let lo : size_over l (tier_of ws p) x.key ≡ keys_under ws p = size_there x a e in
      let hi : size_over l (top_of ws p) x.key ≡ keys_under ws p =
      ap (size l (top_of ws p)) (up {v = tier_of ws p} {w = top_of ws p} x.key (base p) (omega arith) e) ∙ size_is s a in
      let b : size_over l (tier_of ws p) x.key ≤ size_over l w x.key = size_mono l (tier_of ws p) w x.key (omega arith) in
      let c : size_over l w x.key ≤ size_over l (suc w) x.key = size_mono l w (suc w) x.key (omega arith) in
      let d : size_over l (suc w) x.key ≤ size_over l (top_of ws p) x.key = size_mono l (suc w) (top_of ws p) x.key g in
      let m : keys_under ws p ≡ count_of ws k.node = many_of a k in
      let f : full < count_of ws k.node = k.many in
      rw (
        lt-ltb full (size_over l (suc w) x.key) (omega arith),
        eq-eqb (size_over l w x.key) (size_over l (suc w) x.key) (omega arith),
      )
    where
      many_of : {p : ℕ} → Live ws n p → (k : CutOk ws n p) → keys_under ws p ≡ count_of ws k.node
      many_of {p} a k =
          let d : slot_at ws p 0 - 1 ≡ k.node = omega (arith, k.names.is) in
          rw (ne_eqb (word ws p tier_field) 1 (omega (arith, k.head.low)), ne_eqb (skip_of ws p) 0 (omega (arith, k.skip)), d)

  -- the way down from the upper end comes to the lower
  pub low_is : {m : ℕ} (x : Item) → Live ws n m → In x l → In' m x → low_from l x.key (top_of ws m) ≡ tier_of ws m
  low_is {m} x a i e = go (s.block m a.below)
    where
      at : top_of ws m ≡ tier_of ws m → low_from l x.key (tier_of ws m) ≡ tier_of ws m → low_from l x.key (top_of ws m) ≡ tier_of ws m
      at z d = ap (low_from l x.key) z ∙ d

      go : BlockOk ws n m → low_from l x.key (top_of ws m) ≡ tier_of ws m
      go (free f) = absurd (omega (arith, f 0 (omega arith), a.used))
      go (leaf k) = omega (arith, low_le l x.key (top_of ws m), k.tier, k.skip)
      go (cut k) = low_stops l x.key (top_of ws m) (tier_of ws m) (omega arith)
          (subst (λ (v : ℕ). skipped l v x.key ≡ false) t (spread_open (node_of k) i
          (subst (λ (v : ℕ). block_of v x.key ≡ block_of v (base k.node)) (sym t)
          (e ∙ ap (block_of (tier_of ws m)) (sym k.same_base)))))
          (cut_skips x a k i e)
        where
          t : tier_of ws k.node ≡ tier_of ws m
          t = omega (arith, k.same_tier)
      go (packed k) = at (omega (arith, k.skip)) (few_low l (tier_of ws m) x.key
          (let q : size_over l (tier_of ws m) x.key ≡ keys_under ws m = size_there x a e in
          let c : keys_under ws m ≡ count_of ws m = rw (ne_eqb (word ws m tier_field) 1 (omega (arith, k.head.low)), k.skip) in
          omega (arith, k.few)))
      go (spread k) = at (omega (arith, k.skip)) (low_here l (tier_of ws m) x.key (spread_open k i e))

  pub aligned : {m : ℕ} → Live ws n m → base_at ws m ≡ block_of (tier_of ws m) (base_at ws m) * 2 ^ tier_bits (tier_of ws m)
  aligned {m} a = go (s.block m a.below)
    where
      go : BlockOk ws n m → base_at ws m ≡ block_of (tier_of ws m) (base_at ws m) * 2 ^ tier_bits (tier_of ws m)
      go (free f) = absurd (omega (arith, f 0 (omega arith), a.used))
      go (leaf k) = let z : tier_of ws m ≡ 0 = omega (arith, k.tier) in
          subst (λ (u : ℕ). base_at ws m ≡ block_of u (base_at ws m) * 2 ^ tier_bits u) (sym z)
          (sym (mul-one (block_of 0 (base_at ws m)) ∙ block_zero (base_at ws m)))
      go (cut k) = k.head.aligned
      go (packed k) = k.head.aligned
      go (spread k) = k.head.aligned

  pub branch_is : {m : ℕ} (x : Item) → Live ws n m → In x l → In' m x → branch l (top_of ws m) x.key ≡ part_of m
  branch_is {m} x a i e =
      let z : top_of ws m - tier_of ws m ≡ skip_of ws m = omega arith in
      ap (λ (u : ℕ). part u (top_of ws m - u) (block_of u x.key * 2 ^ tier_bits u)) (low_is x a i e) ∙
      ap₂ (λ (r b : ℕ). part (tier_of ws m) r b) z (ap (λ (c : ℕ). c * 2 ^ tier_bits (tier_of ws m)) e ∙ sym (aligned a))

  -- ITS UPPER END is one of the tree's
  pub upper_is : {m : ℕ} (x : Item) → Live ws n m → In x l → In' m x → is_upper l (top_of ws m) x.key ≡ true
  unfolding is_upper
  upper_is {m} x a i e =
      by_t (eqb (word ws m tier_field) 1)
      (λ c. subst (λ (v : ℕ). is_upper l v x.key ≡ true) (sym (leaf_top s a.below (eqb-true _ _ c))) refl)
      (λ c. let ne : word ws m tier_field ≡ 1 → ⊥ = eqb-false _ _ c in go (omega (arith, a.used)) (s.named m a))
    where
      wide : size_over l (top_of ws m) x.key ≡ keys_under ws m
      wide = ap (size l (top_of ws m)) (up {v = tier_of ws m} {w = top_of ws m} x.key (base m) (omega arith) e) ∙ size_is s a

      under : {p : ℕ} → 2 ≤ word ws m tier_field → (b : Live ws n p) → {j : ℕ} → Names ws n p j m → BlockOk ws n p →
          is_upper l (top_of ws m) x.key ≡ true
      under {p} low b {j} r (free f) = absurd (omega (arith, f 0 (omega arith), b.used))
      under {p} low b {j} r (leaf k) = absurd (omega (arith, k.empty j r.slot, r.is))
      under {p} low b {j} r (cut k) =
          by_t (eqb j 0)
          (λ c. let q : k.node ≡ m = one_name s k.names r (sym (eqb-true _ _ c)) in
          let sp : SpreadOk ws n m = subst (λ (y : ℕ). SpreadOk ws n y) q (node_of k) in
          let z : top_of ws m ≡ tier_of ws m = omega (arith, sp.skip) in
          let t : word ws m tier_field ≡ word ws p tier_field = ap (λ (y : ℕ). word ws y tier_field) (sym q) ∙ k.same_tier in
          let y : keys_under ws m ≡ count_of ws m = rw (ne_eqb (word ws m tier_field) 1 (omega arith), sp.skip) in
          upper_here l (top_of ws m) x.key (omega (arith, sp.head.low)) (omega (arith, k.head.high, k.skip))
          (omega (arith, wide, sp.many)) (subst (λ (v : ℕ). skipped l v x.key ≡ false) (sym z) (spread_open sp i e)))
          (λ c. let ne : j ≡ 0 → ⊥ = eqb-false _ _ c in absurd (omega (arith, k.empty j (omega arith) r.slot, r.is)))
      under {p} low b {j} r (packed k) = absurd (omega (arith, leaf_there s k r))
      under {p} low b {j} r (spread k) = on (k.slot j r.slot)
        where
          on : SlotOk ws n p j → is_upper l (top_of ws m) x.key ≡ true
          on (nothing d) = absurd (omega (arith, r.is))
          on (a_leaf y d t) = absurd (omega (arith, t, ap (λ (q : ℕ). word ws q tier_field) (one_name s d.names r refl)))
          on (a_branch y d t w c) =
              let q : y ≡ m = one_name s d.names r refl in
              let w' : top_of ws m ≡ tier_of ws p - 1 = ap (top_of ws) (sym q) ∙ w in
              let c' : 2 ≤ keys_under ws m = subst (λ (z : ℕ). 2 ≤ keys_under ws z) q c in
              let n' : suc (top_of ws m) ≡ tier_of ws p = omega (arith, k.head.low) in
              let bx : block_of (tier_of ws p) x.key ≡ block_of (tier_of ws p) (base p) =
              up {v = tier_of ws m} {w = tier_of ws p} x.key (base m) (omega arith) e ∙
              subst (λ (z : ℕ). block_of (tier_of ws p) (base z) ≡ block_of (tier_of ws p) (base p)) q (lies_in s k.head d) in
              let g : keys_under ws p ≡ count_of ws p = rw (ne_eqb (word ws p tier_field) 1 (omega (arith, k.head.low)), k.skip) in
              let f : size_over l (tier_of ws p) x.key ≡ keys_under ws p = size_there x b bx in
              upper_child l (top_of ws m) x.key (omega arith) (omega (arith, k.head.high)) (omega (arith, wide))
              (subst (λ (v : ℕ). full < size_over l v x.key) (sym n') (omega (arith, k.many)))
              (subst (λ (v : ℕ). skipped l v x.key ≡ false) (sym n') (spread_open k i bx))

      go : 2 ≤ word ws m tier_field → Named ws n m → is_upper l (top_of ws m) x.key ≡ true
      go low (by_root d) =
          let t : top_of ws m ≡ top_tier = (s.root m d).wide in
          subst (λ (v : ℕ). is_upper l v x.key ≡ true) (sym t) (root_upper l x.key
          (subst (λ (v : ℕ). 1 ≤ size_over l v x.key) t (omega (arith, wide, keys_pos a))))
      go low (by_slot p j b r) = under low b r (s.block p b.below)

  pub has_it : {m : ℕ} → Live ws n m → has l (part_of m) ≡ true
  has_it {m} a =
      let (x, i, e) = some_key a in
      subst (λ (p : Part). has l p ≡ true) (branch_is x a i e) (has_branch l (top_of ws m) i (upper_is x a i e))

  -- EVERY PART stands at a block
  pub record Stands (v : ℕ) (x : Item) : Type 0 where
    pub block : ℕ
    pub alive : Live ws n block
    pub wide : top_of ws block ≡ v
    pub inside : In' block x

  -- v is between the upper ends of m and of what hangs in its slot: no upper end
  between : {m c j y v : ℕ} {x : Item} → Live ws n m → Names ws n m j c → Above s c y → y < n → word ws y tier_field ≡ 1 → item_of s y ≡ x →
      In x l → In' m x → top_of ws c < v → v < top_of ws m → is_upper l v x.key ≡ true → ⊥
  between {m} {c} {j} {y} {v} {x} a r b yn yt yx i e lo hi t = go (s.block m a.below)
    where
      two : (2 ≤ size_over l v x.key) × (full < size_over l (suc v) x.key)
      two = deep_two l v x.key t (omega arith) (omega (arith, top_le s a))

      here_is : size_over l (tier_of ws m) x.key ≡ keys_under ws m
      here_is = size_there x a e

      go : BlockOk ws n m → ⊥
      go (free f) = omega (arith, f 0 (omega arith), a.used)
      go (leaf k) = omega (arith, k.empty j r.slot, r.is)
      go (cut k) =
          by_t (eqb j 0)
          (λ d. let q : k.node ≡ c = one_name s k.names r (sym (eqb-true _ _ d)) in
          let z : top_of ws c ≡ tier_of ws m = ap (top_of ws) (sym q) ∙ low in
          inside_run l v x.key (omega arith) (omega (arith, top_le s a)) (cut_skips x a k i e v (omega arith) (omega arith))
          (cut_skips x a k i e (suc v) (omega arith) (omega arith)) t)
          (λ d. let ne : j ≡ 0 → ⊥ = eqb-false _ _ d in omega (arith, k.empty j (omega arith) r.slot, r.is))
        where
          low : top_of ws k.node ≡ tier_of ws m
          low = omega (arith, k.same_tier, k.is_node_lem)
      go (packed k) =
          let g : keys_under ws m ≡ count_of ws m = rw (ne_eqb (word ws m tier_field) 1 (omega (arith, k.head.low)), k.skip) in
          let f : size_over l (suc v) x.key ≤ size_over l (tier_of ws m) x.key =
          size_mono l (suc v) (tier_of ws m) x.key (omega (arith, k.skip)) in
          omega (arith, two.1, here_is, k.few)
      go (spread k) = on (k.slot j r.slot)
        where
          on : SlotOk ws n m j → ⊥
          on (nothing d) = omega (arith, r.is)
          on (a_branch z d u w f) =
              let q : z ≡ c = one_name s d.names r refl in
              omega (arith, ap (top_of ws) q, k.skip, k.head.low)
          on (a_leaf z d u) =
              let q : z ≡ c = one_name s d.names r refl in
              let o : y ≡ c = leaf_only s r.below (subst (λ (g : ℕ). word ws g tier_field ≡ 1) q u) b in
              let kx : block_of (tier_of ws m - 1) x.key ≡ slots * block_of (tier_of ws m) (base m) + j =
              ap (λ (g : Item). block_of (tier_of ws m - 1) g.key) (sym yx ∙ ap (item_of s) (o ∙ sym q)) ∙ d.within in
              let g : size_over l (tier_of ws m - 1) x.key ≡ keys_at ws (slot_at ws m j) =
              ap (size l (tier_of ws m - 1)) kx ∙ slot_size s a k r.slot (λ h p w. size_is s p) in
              let n' : suc z - 1 ≡ z = omega arith in
              let o' : keys_at ws (slot_at ws m j) ≡ 1 = ap (keys_at ws) d.names.is ∙
              rw (ne_eqb (suc z) 0 (omega arith), n', eq-eqb (word ws z tier_field) 1 u) in
              let f : size_over l v x.key ≤ size_over l (tier_of ws m - 1) x.key =
              size_mono l v (tier_of ws m - 1) x.key (omega (arith, k.skip)) in
              omega (arith, two.0)

  find_step : {m y v : ℕ} {x : Item} → Live ws n m → Above s m y → y < n → word ws y tier_field ≡ 1 → item_of s y ≡ x →
      In x l → v ≤ top_of ws m → is_upper l v x.key ≡ true →
      ((c : ℕ) → top_of ws c < top_of ws m → Live ws n c → Above s c y → v ≤ top_of ws c → Stands v x) → Stands v x
  find_step {m} {y} {v} {x} a b yn yt yx i le t f =
      by_t (eqb v (top_of ws m))
      (λ c. record { block = m; alive = a; wide = sym (eqb-true _ _ c); inside = within })
      (λ c. let ne : v ≡ top_of ws m → ⊥ = eqb-false _ _ c in elim (above_split s b) [
        | inl d ↦ (let z : top_of ws m ≡ 0 = ap (top_of ws) (sym d) ∙ leaf_top s yn yt in absurd (omega arith))
        | inr u ↦ below u (omega arith)
      ])
    where
      within : In' m x
      within = low_in a i (ap (λ (g : Item). block_of (top_of ws m) g.key) (sym yx) ∙ above_in s b)

      below : Under s m y → v < top_of ws m → Stands v x
      below u lt =
          by_t (leb v (top_of ws u.node))
          (λ c. f u.node (child_of_lem s a u.names).falls (child_of_lem s a u.names).alive u.above (leb-true _ _ c))
          (λ c. absurd (between a u.names u.above yn yt yx i within (leb-false _ _ c) lt t))

  find_from_lem : (k : ℕ) {m y v : ℕ} {x : Item} → top_of ws m ≤ k → Live ws n m → Above s m y → y < n → word ws y tier_field ≡ 1 → item_of s y ≡ x →
      In x l → v ≤ top_of ws m → is_upper l v x.key ≡ true → Stands v x
  find_from_lem zero h a b yn yt yx i le t = find_step a b yn yt yx i le t (λ c lt d e g. absurd (omega arith))
  find_from_lem (suc k) h a b yn yt yx i le t = find_step a b yn yt yx i le t (λ c lt d e g. find_from_lem k (omega arith) d e yn yt yx i g t)

  pub stands : (v : ℕ) (x : Item) → In x l → is_upper l v x.key ≡ true → Stands v x
  stands v x i t = go (item_leaf s i)
    where
      go : (y : ℕ) × (y < n) × (word ws y tier_field ≡ 1) × (item_of s y ≡ x) → Stands v x
      go (y, h, u, e) = from (rooted s (leaf_live s h u))
        where
          from : Rooted s y → Stands v x
          from r =
              let ok = s.root r.root r.is in
              find_from_lem top_tier (omega (arith, ok.wide)) (record { below = ok.below; used = omega (arith, ok.low) }) r.above h u e i
              (subst (λ (w : ℕ). v ≤ w) (sym ok.wide) (upper_le l (sorted s) v x.key (key_top (sorted s) i) t)) t

  -- THE PLACES
  abbrev os : Places
  os = places_of ws n

  pub place_is : (m : ℕ) → m < n → get_or os m none ≡ place_in ws m
  place_is m h = get_d_up_to_or none (place_in ws) 0 n m h ∙ ap (place_in ws) (zero-add m)

  pub place_live : {m : ℕ} → Live ws n m → get_or os m none ≡ some (part_of m)
  place_live {m} a = place_is m a.below ∙ rw (ne_eqb (word ws m tier_field) 0 (omega (arith, a.used)))

  pub live_place : (m : ℕ) (p : Part) → m < n → get_or os m none ≡ some p → Live ws n m × (part_of m ≡ p)
  live_place m p h e =
      by_t (eqb (word ws m tier_field) 0)
      (λ c. let d : place_in ws m ≡ some p = sym (place_is m h) ∙ e in none_some (rw c at d))
      (λ c. let d : place_in ws m ≡ some p = sym (place_is m h) ∙ e in
      let ne : word ws m tier_field ≡ 0 → ⊥ = eqb-false _ _ c in
      let d' : some (part_of m) ≡ some p = (rw c at d) in
      (record { below = h; used = omega arith }, some_in d'))
    where
      some_in : {q r : Part} → some q ≡ some r → q ≡ r
      some_in d = cc

  long : length os ≡ n
  long = length_up_to (place_in ws) 0 n

  pub in_place : (p : Part) → In p (standing os) → (m : ℕ) × Live ws n m × (part_of m ≡ p)
  in_place p i =
      let (h, e) = number_at same same_is (same_refl l) p os i in
      let (a, d) = live_place (number_of same p os) p (subst (λ (k : ℕ). number_of same p os < k) long h) e in
      (number_of same p os, a, d)

  -- none twice
  one_place : (m y : ℕ) (p : Part) → get_or os m none ≡ some p → get_or os y none ≡ some p → m < n → y < n → m ≡ y
  one_place m y p e d h g =
      let (a, q) = live_place m p h e in
      let (b, r) = live_place y p g d in
      let t : part_of m ≡ part_of y = q ∙ sym r in
      one_block s b a (ap top t) (ap (λ (z : Part). block_of (top_of ws y) z.base) t)

  distinct_by : (ps : PlacesOf Part) (o : ℕ) → ((m : ℕ) → m < length ps → get_or ps m none ≡ get_or os (o + m) none) → o + length ps ≡ n →
      Distinct (standing ps)
  distinct_by [] o f e = d_end
  distinct_by (none ∷ ps) o f e = distinct_by ps (suc o) (λ m h. f (suc m) (omega arith) ∙ ap (λ (k : ℕ). get_or os k none) (shift o m)) (omega arith)
    where
      shift : (o m : ℕ) → o + suc m ≡ suc o + m
      shift o m = omega arith
  distinct_by (some p ∷ ps) o f e =
      d_more {p = p} (λ i. again i)
      (distinct_by ps (suc o) (λ m h. f (suc m) (omega arith) ∙ ap (λ (k : ℕ). get_or os k none) (shift o m)) (omega arith))
    where
      shift : (o m : ℕ) → o + suc m ≡ suc o + m
      shift o m = omega arith

      again : In p (standing ps) → ⊥
      again i =
          let (h, d) = number_at same same_is (same_refl l) p ps i in
          let k : ℕ = number_of same p ps in
          let q : o + 0 ≡ o + suc (number_of same p ps) = one_place (o + 0) (o + suc (number_of same p ps)) p
          (sym (f 0 (omega arith))) (sym (f (suc (number_of same p ps)) (omega arith)) ∙ d) (omega arith) (omega arith) in
          omega arith

  pub placed : Placed n (has l) os
  placed = record {
    size = long;
    sound = λ p i. let (m, a, e) = in_place p i in subst (λ (q : Part). has l q ≡ true) e (has_it a);
    full = λ p t. let (x, i, u, e) = has_open l p t in
        let r : Stands (top p) x = stands (top p) x i u in
        in_standing p os r.block (place_live r.alive ∙ ap some (sym (branch_is x r.alive i r.inside) ∙
        ap (λ (v : ℕ). branch l v x.key) r.wide ∙ sym e));
    once = distinct_by os 0 (λ m h. ap (λ (k : ℕ). get_or os k none) (sym (zero-add m))) (zero-add _ ∙ long);
  }
