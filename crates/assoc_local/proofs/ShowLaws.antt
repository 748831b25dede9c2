-- A well-formed pool passes the check: each of its blocks shows what it must, and is named.
use Prim.Native.Nat.{ℕ, zero, suc, ◌+◌, ◌*◌, ◌-◌, ◌/◌, ◌%◌, ◌^◌, ◌≤◌, ◌<◌}
use mathlib.Core.Path.{◌≡◌, refl, sym, ap, ap₂, ◌∙◌, subst}
use mathlib.Core.Bool.{Bool, true, false}
use mathlib.Core.List.{List, [], ◌∷◌}
use mathlib.Core.Option.{Option, none, some}
use native.Mathlib.Omega.{arith}
use native.Mathlib.Nat.{le_refl, div-eq_of_lt}
use lib.Dec.{eqb, ltb, leb}
use lib.ListN.{length, get_or}
use borrow.Author.Tests.{eqb-true, eqb-false, eq-eqb, ne_eqb, lt-ltb, le-ltb, leb-true, leb-false, le-leb}
use Rattle.blocks.specs.Choice.{pick, both}
use Rattle.blocks.specs.Lists.{keep, first, In, here, there}
use Rattle.blocks.proofs.BoolLaws.{by_t, clash, both_r, is_false}
use Rattle.blocks.proofs.BlockLaws.{block_at}
use Rattle.blocks.proofs.ListLaws.{first_yes, first_no, look, each, keep_none}
use Rattle.blocks.proofs.PlacingLaws.{in_standing}
use Rattle.blocks.proofs.PlaceNumberLaws.{number_at}
use Rattle.assoc_tree.specs.Keys.{Item, is_item, Sorted, done, more as next}
use Rattle.assoc_tree.specs.Parts.{Part, part, top, tier_bits, block_of, over, in_block, size, size_over, slots, full, top_tier, skipped, low_from, branch, is_upper, has, leads, leads_for, leaf_of, nth, slot, root, head_item}
use Rattle.assoc_layout.specs.Words.{root_word, tier_field, skip_field, value_field, slot_field, ref, slot_word, value, field_at}
use Rattle.assoc_layout.specs.Decode.{word, base_at}
use Rattle.assoc_layout.specs.WellFormed.{WellFormed, num}
use Rattle.assoc_tree.proofs.SizeLaws.{same_refl, up, in_own, low_le, low_ends, low_size, has_branch, top_branch, over_branch, branch_same, skipped_same, size_step, same_is}
use Rattle.assoc_layout.proofs.RenderLaws.{pool_size, count_word_lem, root_word_lem, there as stands, word_of_lem}
use Rattle.assoc_keys.specs.Number.{Words}
use Rattle.assoc_tree.proofs.KeyLaws.{sorted_in, low_pos, size_zero, leaf_is, has_leaf, key_top}
use Rattle.assoc_tree.proofs.SlotLaws.{root_upper, size_pos, tier_up, in_keep, keep_in, nth_in, nth_some, nth_lt, slot_packed, slot_spread, one_key, low_here, upper_here, upper_child}
use Rattle.assoc_decode.proofs.BackLaws.{at_word, base_back, item_back, number_is}
use Rattle.assoc_tree.proofs.RunLaws.{deep_two, few_upper, few_low, nd_of, low_stops, inside_run}
use Rattle.assoc_tree.proofs.PartLaws.{has_open, upper_le}
use Rattle.assoc_tree.proofs.SumLaws.{sum_same, size_sum}
use Rattle.assoc_local.specs.Local.{tier_of, skip_of, count_of, slot_at, keys_under, keys_at, Live, Names, Head, LeafOk, CutOk, LeafIn, PackedOk, Lies, SlotOk, nothing, a_leaf, a_branch, SpreadOk, BlockOk, free, leaf, cut, packed, spread, Named, by_root, by_slot, RootOk, PoolOk}
use Rattle.assoc_tree.proofs.SortedLaws.{sorted_keep}
use Rattle.assoc_tree.specs.Parts as P

-- LISTS
-- fewer pass the narrower test: one passes the wider only
keep_less : {A : Type 0} (p q : A → Bool) (l : List A) → ((x : A) → q x ≡ true → p x ≡ true) → length (keep q l) < length (keep p l) →
    (x : A) × In x l × (p x ≡ true) × (q x ≡ false)
keep_less p q [] f h = absurd (omega arith)
keep_less p q (x ∷ l) f h =
    by_t (q x)
    (λ c. let (y, i, a, b) = keep_less p q l f (let h' : suc (length (keep q l)) < suc (length (keep p l)) = (rw (c, f x c) at h) in omega arith) in
    (y, there i, a, b))
    (λ c. by_t (p x) (λ d. (x, here, d, c))
    (λ d. let (y, i, a, b) = keep_less p q l f (rw (c, d) at h) in (y, there i, a, b)))

nth_rises : {k : ℕ} {zs : List Item} → Sorted k zs → (j : ℕ) {x y : Item} → nth zs j ≡ some x → nth zs (suc j) ≡ some y → x.key < y.key
nth_rises done j e d = let z : ◌≡◌ {A = ℕ} 0 1 = cc in absurd (omega arith)
nth_rises (next {x = z} {l = zs} h t s) zero {x} {y} e d =
    let q : z ≡ x = cc in
    let (a, b) = sorted_in s (nth_in zs 0 d) in
    subst (λ (w : Item). w.key < y.key) q a
nth_rises (next h t s) (suc j) e d = nth_rises s j e d

nth_end : (zs : List Item) (j : ℕ) → length zs ≤ j → nth zs j ≡ none
nth_end [] j h = refl
nth_end (z ∷ zs) zero h = absurd (omega arith)
nth_end (z ∷ zs) (suc j) h = nth_end zs j (omega arith)

in_nth : (zs : List Item) {y : Item} → In y zs → (j : ℕ) × (nth zs j ≡ some y)
in_nth [] {y = y} x' = elim x' [ ]
in_nth (z ∷ zs) here = (0, refl)
in_nth (z ∷ zs) (there i) = let (j, e) = in_nth zs i in (suc j, e)

skipped_size : (l : List Item) (a x : ℕ) → skipped l (suc a) x ≡ true → size_over l a x ≡ size_over l (suc a) x
unfolding skipped
skipped_size l a x t = eqb-true _ _ (both_r (ltb full (size_over l (suc a) x)) _ t)

module _ {ws : List ℕ} (fit : Words ws) (s : WellFormed ws) where
  abbrev l : List Item
  l = s.list

  abbrev n : ℕ
  n = s.n

  abbrev ν : Part → ℕ
  ν = num s

  -- the block of a part
  pub record Shown (p : Part) : Type 0 where
    pub alive : Live ws n (ν p)
    pub tier : word ws (ν p) tier_field ≡ suc p.tier
    pub skip : skip_of ws (ν p) ≡ p.skip
    pub base_is : base_at ws (ν p) ≡ p.base
    pub count : count_of ws (ν p) ≡ value l ν p
    pub slot_is : (j : ℕ) → j < slots → slot_at ws (ν p) j ≡ slot_word l ν p j

  shown : (p : Part) → has l p ≡ true → Shown p
  shown p t =
      let a : word ws (ν p) tier_field ≡ suc p.tier = word_of_lem s p tier_field t (omega arith) in
      record {
        alive = record { below = stands s p t; used = omega arith };
        tier = a;
        skip = word_of_lem s p skip_field t (omega arith);
        base_is = base_back s (ν p) p (stands s p t) (at_number p t);
        count = word_of_lem s p value_field t (omega arith);
        slot_is = λ j g. slot_of_lem p j t g;
      }
    where
      at_number : (p : Part) → has l p ≡ true → get_or s.places (ν p) none ≡ some p
      at_number p t = (number_at P.same same_is (same_refl l) p s.places (s.placed.full p t)).1

      slot_of_lem : (p : Part) (j : ℕ) → has l p ≡ true → j < slots → slot_at ws (ν p) j ≡ slot_word l ν p j
      slot_of_lem p j t g =
          let d : slot_field + j - slot_field ≡ j = omega arith in
          word_of_lem s p (slot_field + j) t (omega arith) ∙
          rw (
            ne_eqb (slot_field + j) tier_field (omega arith),
            ne_eqb (slot_field + j) skip_field (omega arith),
            ne_eqb (slot_field + j) value_field (omega arith),
            le-ltb (slot_field + j) slot_field (omega arith),
            d,
          )

  -- LEAVES
  leaf_shows : {m : ℕ} → m < n → word ws m tier_field ≡ 1 → skip_of ws m ≡ 0 → ((j : ℕ) → j < slots → slot_at ws m j ≡ 0) → LeafOk ws n m
  leaf_shows {m} h t z f =
      let (x, i, e, d) = item_back s m h t in
      record { tier = t; skip = z; good = ap is_item e ∙ (sorted_in s.valid i).1; empty = f }

  leaf_ok_lem : {y : Item} → In y l → LeafOk ws n (ν (P.leaf l y.key))
  leaf_ok_lem {y} i =
      let sh : Shown (P.leaf l y.key) = shown (P.leaf l y.key) (has_leaf l i) in
      leaf_shows sh.alive.below sh.tier sh.skip (λ j g. sh.slot_is j g)

  -- a leaf in a slot
  leaf_named : {m j : ℕ} {y : Item} → In y l → j < slots → slot_at ws m j ≡ suc (ν (P.leaf l y.key)) → Names ws n m j (ν (P.leaf l y.key))
  leaf_named {y} i g e = record { slot = g; is = e; below = stands s (P.leaf l y.key) (has_leaf l i) }

  leaf_base : {y : Item} → In y l → base_at ws (ν (P.leaf l y.key)) ≡ y.key
  leaf_base {y} i = (shown (P.leaf l y.key) (has_leaf l i)).base_is

  leaf_tier : {y : Item} → In y l → word ws (ν (P.leaf l y.key)) tier_field ≡ 1
  leaf_tier {y} i = (shown (P.leaf l y.key) (has_leaf l i)).tier

  -- NODES AND SHORTCUTS
  head_of : (p : Part) → Shown p → 1 ≤ p.tier → top p ≤ top_tier → p.base ≡ block_of p.tier p.base * 2 ^ tier_bits p.tier → Head ws n (ν p)
  head_of p sh lo hi al =
      let t : p.tier ≡ tier_of ws (ν p) = omega (arith, sh.tier) in
      record {
        low = omega (arith, sh.tier);
        high = omega (arith, sh.skip);
        aligned = sh.base_is ∙ al ∙ ap₂ (λ (u b : ℕ). block_of u b * 2 ^ tier_bits u) t (sym sh.base_is);
      }

  module _ (v : ℕ) {x : Item} (i : In x l) (pos : 1 ≤ v) (hi : v ≤ top_tier) (t : is_upper l v x.key ≡ true) where
    abbrev c : ℕ
    c = block_of v x.key

    -- A NODE
    module _ (e : low_from l x.key v ≡ v) where
      abbrev q : Part
      q = part v 0 (block_of v x.key * 2 ^ tier_bits v)

      node_has : has l q ≡ true
      node_has = ap (has l) (sym (nd_of l v x.key e)) ∙ has_branch l v i t

      sh : Shown q
      sh = shown q node_has

      own : block_of v q.base ≡ c
      own = block_at (tier_bits v) c

      tier_is : v ≡ tier_of ws (ν q)
      tier_is = omega (arith, sh.tier)

      node_block : block_of (tier_of ws (ν q)) (base_at ws (ν q)) ≡ c
      node_block = ap₂ block_of (sym tier_is) sh.base_is ∙ own

      node_count_lem : count_of ws (ν q) ≡ size l v c
      node_count_lem = sh.count ∙ rw (ne_eqb v 0 (omega arith)) (ap (size l v) own)

      node_slot : (j : ℕ) → j < slots → slot_at ws (ν q) j ≡ ref l ν (slot l v c j)
      node_slot j g = sh.slot_is j g ∙ rw (ne_eqb v 0 (omega arith)) (ap (λ (b : ℕ). ref l ν (slot l v b j)) own)

      node_head : Head ws n (ν q)
      node_head = head_of q sh pos (omega arith) (ap (λ (b : ℕ). b * 2 ^ tier_bits v) (sym own))

      -- of at most 16 keys
      module _ (few : size l v c ≤ full) where
        packed_slot : (j : ℕ) → j < slots → {y : Item} → nth (in_block l v c) j ≡ some y → slot_at ws (ν q) j ≡ suc (ν (P.leaf l y.key))
        packed_slot j g d = node_slot j g ∙ ap (ref l ν) (slot_packed l v c j few d)

        key_of : (j : ℕ) {y : Item} → nth (in_block l v c) j ≡ some y → In y l × (block_of v y.key ≡ c)
        key_of j d = let (a, b) = keep_in (over v c) l (nth_in (in_block l v c) j d) in (a, eqb-true _ _ b)

        leaf_in_lem : (j : ℕ) → j < count_of ws (ν q) → LeafIn ws n (ν q) j
        unfolding size
        leaf_in_lem j h =
            let lt : j < length (in_block l v c) = omega (arith, node_count_lem) in
            let (y, d) = nth_some (in_block l v c) j lt in
            let (k, b) = key_of j d in
            record {
              node = ν (P.leaf l y.key);
              names = leaf_named k (omega arith) (packed_slot j (omega arith) d);
              tier = leaf_tier k;
              within = ap₂ block_of (sym tier_is) (leaf_base k) ∙ b ∙ sym node_block;
            }

        rises : (j : ℕ) → suc j < count_of ws (ν q) → base_at ws (slot_at ws (ν q) j - 1) < base_at ws (slot_at ws (ν q) (suc j) - 1)
        unfolding size
        rises j h =
            let lt : suc j < length (in_block l v c) = omega (arith, node_count_lem) in
            let (y, d) = nth_some (in_block l v c) j (omega arith) in
            let (z, f) = nth_some (in_block l v c) (suc j) lt in
            let a : slot_at ws (ν q) j - 1 ≡ ν (P.leaf l y.key) = omega (arith, packed_slot j (omega arith) d) in
            let b : slot_at ws (ν q) (suc j) - 1 ≡ ν (P.leaf l z.key) = omega (arith, packed_slot (suc j) (omega arith) f) in
            less (ap (base_at ws) a ∙ leaf_base (key_of j d).0) (ap (base_at ws) b ∙ leaf_base (key_of (suc j) f).0)
            (nth_rises (sorted_keep (over v c) s.valid) j d f)
          where
            less : {a b a' b' : ℕ} → a ≡ a' → b ≡ b' → a' < b' → a < b
            less p q h = omega arith

        empties : (j : ℕ) → count_of ws (ν q) ≤ j → j < slots → slot_at ws (ν q) j ≡ 0
        unfolding size slot
        empties j h g =
            node_slot j g ∙ rw (le-leb (length (in_block l v c)) full few) (ap (λ (o : Option Item). ref l ν (leaf_of o))
            (nth_end (in_block l v c) j (omega (arith, node_count_lem))))

        packed_ok_lem : PackedOk ws n (ν q)
        packed_ok_lem = record {
          head = node_head;
          skip = sh.skip;
          some_key = omega (arith, node_count_lem, size_pos {l = l} {x = x} v i);
          few = omega (arith, node_count_lem);
          leaves = leaf_in_lem;
          rising = rises;
          empty = empties;
        }

    -- A SHORTCUT
    module _ (e : low_from l x.key v < v) where
      abbrev u : ℕ
      u = low_from l x.key v

      abbrev cut_part : Part
      cut_part = branch l v x.key

      u_pos : 1 ≤ low_from l x.key v
      u_pos = low_pos s.valid x.key v pos

      low_many : full < size_over l (low_from l x.key v) x.key
      low_many = let (f, g) = low_size l x.key v e in omega arith

      low_upper : is_upper l (low_from l x.key v) x.key ≡ true
      low_upper = upper_here l (low_from l x.key v) x.key u_pos (omega arith) low_many (low_ends l x.key v)

      low_node : low_from l x.key (low_from l x.key v) ≡ low_from l x.key v
      low_node = low_here l (low_from l x.key v) x.key (low_ends l x.key v)

  -- the node over the block of x of tier u
  abbrev node : ℕ → Item → Part
  node u x = part u 0 (block_of u x.key * 2 ^ tier_bits u)

  module _ (v : ℕ) {x : Item} (i : In x l) (pos : 1 ≤ v) (hi : v ≤ top_tier) (t : is_upper l v x.key ≡ true) (e : low_from l x.key v < v) where
    abbrev lo : ℕ
    lo = low_from l x.key v

    cut_shown : Shown (branch l v x.key)
    cut_shown = shown (branch l v x.key) (has_branch l v i t)

    lo_pos : 1 ≤ low_from l x.key v
    lo_pos = u_pos v i pos hi t e

    lo_hi : low_from l x.key v ≤ top_tier
    lo_hi = omega arith

    node_shown : Shown (node lo x)
    node_shown = sh lo i lo_pos lo_hi (low_upper v i pos hi t e) (low_node v i pos hi t e)

    cut_slot : slot_at ws (ν (branch l v x.key)) 0 ≡ suc (ν (node lo x))
    cut_slot = cut_shown.slot_is 0 (omega arith) ∙
        rw (ne_eqb lo 0 (omega (arith, lo_pos)), ne_eqb (v - lo) 0 (omega arith))

    cut_many : count_of ws (ν (node lo x)) ≡ size_over l lo x.key
    cut_many = node_count_lem lo i lo_pos lo_hi (low_upper v i pos hi t e) (low_node v i pos hi t e)

    cut_ok : CutOk ws n (ν (branch l v x.key))
    cut_ok = record {
      head = head_of (branch l v x.key) cut_shown lo_pos (omega (arith, low_le l x.key v))
          (ap (λ (b : ℕ). b * 2 ^ tier_bits lo) (sym (block_at (tier_bits lo) (block_of lo x.key))));
      skip = omega (arith, cut_shown.skip);
      count = cut_shown.count ∙ rw (ne_eqb lo 0 (omega (arith, lo_pos)), ne_eqb (v - lo) 0 (omega arith));
      node = ν (node lo x);
      names = record { slot = omega arith; is = cut_slot; below = node_shown.alive.below };
      same_tier = node_shown.tier ∙ sym cut_shown.tier;
      is_node_lem = node_shown.skip;
      same_base = node_shown.base_is ∙ sym cut_shown.base_is;
      many = omega (arith, cut_many, low_many v i pos hi t e);
      empty = λ j a g. cut_shown.slot_is j g ∙
          rw (ne_eqb lo 0 (omega (arith, lo_pos)), ne_eqb (v - lo) 0 (omega arith), ne_eqb j 0 (omega arith));
    }

  -- how many keys the blocks say are under a branch
  under_branch : (v : ℕ) {x : Item} → In x l → 1 ≤ v → v ≤ top_tier → is_upper l v x.key ≡ true →
      keys_under ws (ν (branch l v x.key)) ≡ size_over l v x.key
  under_branch v {x} i pos hi t =
      by_t (eqb (low_from l x.key v) v)
      (λ c. let e : low_from l x.key v ≡ v = eqb-true _ _ c in
      ap (λ (p : Part). keys_under ws (ν p)) (nd_of l v x.key e) ∙
      rw (ne_eqb (word ws (ν (node v x)) tier_field) 1 (omega (arith, (sh v i pos hi t e).tier)), (sh v i pos hi t e).skip)
      (node_count_lem v i pos hi t e))
      (λ c. let ne : low_from l x.key v ≡ v → ⊥ = eqb-false _ _ c in
      let e : low_from l x.key v < v = omega (arith, low_le l x.key v) in
      let d : slot_at ws (ν (branch l v x.key)) 0 - 1 ≡ ν (node (low_from l x.key v) x) = omega (arith, cut_slot v i pos hi t e) in
      rw (
        ne_eqb (word ws (ν (branch l v x.key)) tier_field) 1 (omega (arith, (cut_shown v i pos hi t e).tier, lo_pos v i pos hi t e)),
        ne_eqb (skip_of ws (ν (branch l v x.key))) 0 (omega (arith, (cut_shown v i pos hi t e).skip)),
        d,
      )
      (cut_many v i pos hi t e ∙ (low_size l x.key v e).0))

  no_keys : (w c : ℕ) → first (over w c) l ≡ none → size l w c ≡ 0
  unfolding size
  no_keys w c r = ap length (keep_none (over w c) (first_no (over w c) l r))

  -- A NODE OF MORE THAN 16 KEYS
  module _ (v : ℕ) {x : Item} (i : In x l) (pos : 1 ≤ v) (hi : v ≤ top_tier) (t : is_upper l v x.key ≡ true)
      (e : low_from l x.key v ≡ v) (many : full < size_over l v x.key) where
    abbrev q' : ℕ
    q' = ν (node v x)

    down : v ≡ suc (v - 1)
    down = omega arith

    open' : skipped l v x.key ≡ false
    open' = subst (λ (u : ℕ). skipped l u x.key ≡ false) e (low_ends l x.key v)

    up_in : (y j : ℕ) → j < slots → block_of (v - 1) y ≡ slots * block_of v x.key + j → block_of v y ≡ block_of v x.key
    up_in y j g d =
        let r : (slots * block_of v x.key + j) / slots ≡ block_of v x.key = omega arith in
        ap (λ (u : ℕ). block_of u y) down ∙ tier_up (v - 1) y ∙ ap (λ (b : ℕ). b / slots) d ∙ r

    -- what slot j shows
    pub record SlotShown (j : ℕ) : Type 0 where
      pub ok : SlotOk ws n (ν (node v x)) j
      pub keys : keys_at ws (slot_at ws (ν (node v x)) j) ≡ size l (v - 1) (slots * block_of v x.key + j)

    keys_at_lem : (m y : ℕ) → m ≡ suc y → keys_at ws m ≡ keys_under ws y
    keys_at_lem m y d = let r : suc y - 1 ≡ y = omega arith in ap (keys_at ws) d ∙ rw (ne_eqb (suc y) 0 (omega arith), r)

    lies : (j y b : ℕ) → j < slots → slot_at ws (ν (node v x)) j ≡ suc y → y < n → base_at ws y ≡ b →
        block_of (v - 1) b ≡ slots * block_of v x.key + j → Lies ws n (ν (node v x)) j y
    lies j y b g d h f r =
        let z : tier_of ws (ν (node v x)) - 1 ≡ v - 1 = omega (arith, tier_is v i pos hi t e) in
        record {
          names = record { slot = g; is = d; below = h };
          within = ap₂ block_of z f ∙ r ∙ ap (λ (k : ℕ). slots * k + j) (sym (node_block v i pos hi t e));
        }

    slot_shown : (j : ℕ) → j < slots → SlotShown j
    slot_shown j g = go (first (over (v - 1) (slots * block_of v x.key + j)) l) refl
        (node_slot v i pos hi t e j g ∙ ap (ref l ν) (slot_spread l v (block_of v x.key) j many))
      where
        w : ℕ
        w = v - 1

        on_leaf : (y : Item) → In y l → block_of (v - 1) y.key ≡ slots * block_of v x.key + j →
            size l (v - 1) (slots * block_of v x.key + j) < 2 → slot_at ws (ν (node v x)) j ≡ suc (ν (P.leaf l y.key)) → SlotShown j
        on_leaf y k b small d = record {
          ok = a_leaf (ν (P.leaf l y.key)) (lies j _ y.key g d (stands s (P.leaf l y.key) (has_leaf l k)) (leaf_base k) b) (leaf_tier k);
          keys = keys_at_lem _ _ d ∙ rw (eq-eqb (word ws (ν (P.leaf l y.key)) tier_field) 1 (leaf_tier k)) (one (ap (size l (v - 1)) b));
        }
          where
            one : size_over l (v - 1) y.key ≡ size l (v - 1) (slots * block_of v x.key + j) →
                1 ≡ size l (v - 1) (slots * block_of v x.key + j)
            one r = omega (arith, size_pos {l = l} {x = y} (v - 1) k)

        on_branch : (y : Item) → In y l → block_of (v - 1) y.key ≡ slots * block_of v x.key + j →
            2 ≤ size l (v - 1) (slots * block_of v x.key + j) → slot_at ws (ν (node v x)) j ≡ suc (ν (branch l (v - 1) y.key)) → SlotShown j
        on_branch y k b two d =
            let same_size : size_over l (v - 1) y.key ≡ size l (v - 1) (slots * block_of v x.key + j) = ap (size l (v - 1)) b in
            let by : block_of v y.key ≡ block_of v x.key = up_in y.key j g b in
            let up-size : size_over l v y.key ≡ size_over l v x.key = ap (size l v) by in
            let wpos : 1 ≤ v - 1 = by_t (eqb (v - 1) 0) (λ c. absurd (omega (arith, zero_size (eqb-true _ _ c))))
            (λ c. let ne : v - 1 ≡ 0 → ⊥ = eqb-false _ _ c in omega arith) in
            let upper : is_upper l (v - 1) y.key ≡ true = upper_child l (v - 1) y.key wpos (omega arith) (omega arith)
            (subst (λ (u : ℕ). full < size_over l u y.key) down (omega arith))
            (subst (λ (u : ℕ). skipped l u y.key ≡ false) down (skipped_same l v k i by ∙ open')) in
            let shb : Shown (branch l (v - 1) y.key) = shown (branch l (v - 1) y.key) (has_branch l (v - 1) k upper) in
            let keys-is : keys_under ws (ν (branch l (v - 1) y.key)) ≡ size l (v - 1) (slots * block_of v x.key + j) =
            under_branch (v - 1) k wpos (omega arith) upper ∙ same_size in
            record {
              ok = a_branch (ν (branch l (v - 1) y.key))
                  (lies j _ _ g d shb.alive.below shb.base_is (over_branch l (v - 1) (v - 1) y.key (low_le l y.key (v - 1)) ∙ b))
                  (omega (arith, shb.tier, low_pos s.valid y.key (v - 1) wpos))
                  (omega (arith, shb.tier, shb.skip, top_branch l (v - 1) y.key, tier_is v i pos hi t e))
                  (omega arith);
              keys = keys_at_lem _ _ d ∙ keys-is;
            }
          where
            zero_size : v - 1 ≡ 0 → size l (v - 1) (slots * block_of v x.key + j) ≤ 1
            zero_size z = subst (λ (u : ℕ). size l u (slots * block_of v x.key + j) ≤ 1) (sym z) (size_zero _ s.valid)

        go : (o : Option Item) → first (over (v - 1) (slots * block_of v x.key + j)) l ≡ o →
            slot_at ws (ν (node v x)) j ≡ ref l ν (leads_for l (v - 1) (slots * block_of v x.key + j) o) → SlotShown j
        go none r d = record {
          ok = nothing d;
          keys = ap (keys_at ws) d ∙ sym (no_keys (v - 1) (slots * block_of v x.key + j) r);
        }
        go (some y) r d =
            let (a, k) = first_yes (over (v - 1) (slots * block_of v x.key + j)) (each l (λ z m. m)) r in
            by_t (leb 2 (size l (v - 1) (slots * block_of v x.key + j)))
            (λ c. on_branch y k (eqb-true _ _ a) (leb-true _ _ c) (rw c at d))
            (λ c. on_leaf y k (eqb-true _ _ a) (leb-false _ _ c) (rw c at d))

    -- the slot of a key is filled
    filled : (y : Item) → In y l → block_of v y.key ≡ block_of v x.key →
        (1 ≤ slot_at ws (ν (node v x)) (block_of (v - 1) y.key % slots)) ×
        (block_of (v - 1) y.key ≡ slots * block_of v x.key + block_of (v - 1) y.key % slots)
    filled y k b = (full_slot (slot_shown (block_of (v - 1) y.key % slots) (omega arith)), place_is)
      where
        high : block_of v x.key ≡ block_of (v - 1) y.key / slots
        high = sym b ∙ ap (λ (u : ℕ). block_of u y.key) down ∙ tier_up (v - 1) y.key

        place_is : block_of (v - 1) y.key ≡ slots * block_of v x.key + block_of (v - 1) y.key % slots
        place_is = omega (arith, high)

        full_slot : SlotShown (block_of (v - 1) y.key % slots) → 1 ≤ slot_at ws (ν (node v x)) (block_of (v - 1) y.key % slots)
        full_slot r =
            by_t (eqb (slot_at ws (ν (node v x)) (block_of (v - 1) y.key % slots)) 0)
            (λ c. let z : keys_at ws (slot_at ws (ν (node v x)) (block_of (v - 1) y.key % slots)) ≡ 0 = rw c in
            let sz : size_over l (v - 1) y.key ≡ size l (v - 1) (slots * block_of v x.key + block_of (v - 1) y.key % slots) =
            ap (size l (v - 1)) place_is in
            absurd (omega (arith, r.keys, size_pos {l = l} {x = y} (v - 1) k)))
            (λ c. let ne : slot_at ws (ν (node v x)) (block_of (v - 1) y.key % slots) ≡ 0 → ⊥ = eqb-false _ _ c in omega arith)

    -- some key is beside that of x
    beside : (y : Item) × In y l × (block_of v y.key ≡ block_of v x.key) × (block_of (v - 1) y.key ≡ block_of (v - 1) x.key → ⊥)
    unfolding skipped size
    beside =
        let o : both (ltb full (size_over l (suc (v - 1)) x.key)) (eqb (size_over l (v - 1) x.key) (size_over l (suc (v - 1)) x.key)) ≡ false =
        subst (λ (u : ℕ). skipped l u x.key ≡ false) down open' in
        let m : full < size_over l (suc (v - 1)) x.key = subst (λ (u : ℕ). full < size_over l u x.key) down many in
        let f : eqb (size_over l (v - 1) x.key) (size_over l (suc (v - 1)) x.key) ≡ false =
        (rw (lt-ltb full (size_over l (suc (v - 1)) x.key) m) at o) in
        let ne : size_over l (v - 1) x.key ≡ size_over l (suc (v - 1)) x.key → ⊥ = eqb-false _ _ f in
        let (y, k, a, b) = keep_less (over (suc (v - 1)) (block_of (suc (v - 1)) x.key)) (over (v - 1) (block_of (v - 1) x.key)) l
        (λ z d. eq-eqb _ _ (up {v = v - 1} {w = suc (v - 1)} z.key x.key (omega arith) (eqb-true _ _ d)))
        (omega (arith, size_step l (v - 1) x.key)) in
        (y, k, subst (λ (u : ℕ). block_of u y.key ≡ block_of u x.key) (sym down) (eqb-true _ _ a), eqb-false _ _ b)

    spread_ok_lem : SpreadOk ws n (ν (node v x))
    spread_ok_lem = go beside
      where
        go : (y : Item) × In y l × (block_of v y.key ≡ block_of v x.key) × (block_of (v - 1) y.key ≡ block_of (v - 1) x.key → ⊥) →
            SpreadOk ws n (ν (node v x))
        go (y, k, b, ne) =
            let (fx, px) = filled x i refl in
            let (fy, py) = filled y k b in
            record {
              head = node_head v i pos hi t e;
              skip = (sh v i pos hi t e).skip;
              many = omega (arith, node_count_lem v i pos hi t e);
              slot = λ j g. (slot_shown j g).ok;
              total = sum_same (λ j. keys_at ws (slot_at ws (ν (node v x)) j)) (λ j. size l (v - 1) (slots * block_of v x.key + j)) slots
                  (λ j g. (slot_shown j g).keys) ∙ size_sum l (v - 1) (block_of v x.key) ∙
                  ap (λ (u : ℕ). size l u (block_of v x.key)) (sym down) ∙ sym (node_count_lem v i pos hi t e);
              one = block_of (v - 1) x.key % slots;
              other = block_of (v - 1) y.key % slots;
              one_slot = omega arith;
              other_slot = omega arith;
              apart = λ d. ne (py ∙ ap (λ (r : ℕ). slots * block_of v x.key + r) (sym d) ∙ sym px);
              one_filled = fx;
              other_filled = fy;
            }

  -- EVERY BLOCK
  part_ok : (p : Part) → has l p ≡ true → BlockOk ws n (ν p)
  part_ok p t = go (has_open l p t)
    where
      go : (x : Item) × In x l × (is_upper l (top p) x.key ≡ true) × (p ≡ branch l (top p) x.key) → BlockOk ws n (ν p)
      go (x, i, u, e) =
          by_t (eqb (top p) 0)
          (λ c. subst (λ (q : Part). BlockOk ws n (ν q))
          (sym (e ∙ ap (λ (v : ℕ). branch l v x.key) (eqb-true _ _ c) ∙ leaf_is l x.key)) (leaf (leaf_ok_lem i)))
          (λ c. let ne : top p ≡ 0 → ⊥ = eqb-false _ _ c in
          let pos : 1 ≤ top p = omega arith in
          let hi : top p ≤ top_tier = upper_le l s.valid (top p) x.key (key_top s.valid i) u in
          by_t (eqb (low_from l x.key (top p)) (top p))
          (λ d. let f : low_from l x.key (top p) ≡ top p = eqb-true _ _ d in
          subst (λ (q : Part). BlockOk ws n (ν q)) (sym (e ∙ nd_of l (top p) x.key f))
          (by_t (leb (size_over l (top p) x.key) full)
          (λ k. packed (packed_ok_lem (top p) i pos hi u f (leb-true _ _ k)))
          (λ k. spread (spread_ok_lem (top p) i pos hi u f (leb-false _ _ k)))))
          (λ d. let ne' : low_from l x.key (top p) ≡ top p → ⊥ = eqb-false _ _ d in
          subst (λ (q : Part). BlockOk ws n (ν q)) (sym e)
          (cut (cut_ok (top p) i pos hi u (omega (arith, low_le l x.key (top p)))))))

  block_ok_lem : (m : ℕ) → m < n → BlockOk ws n m
  block_ok_lem m h = go (get_or s.places m none) refl
    where
      go : (o : Option Part) → get_or s.places m none ≡ o → BlockOk ws n m
      go none e = free (λ f g. at_word s m f h g ∙ ap (λ (o : Option Part). field_at l ν o f) e)
      go (some p) e = subst (BlockOk ws n) (number_is s p m e) (part_ok p (s.placed.sound p (in_standing p s.places m e)))

  -- NAMES
  -- the root word leads to the branch over all keys
  root_is : {x : Item} → In x l → get_or ws root_word 0 ≡ suc (ν (branch l top_tier x.key))
  root_is {x} i = root_word_lem s ∙ go l refl
    where
      high : {y : Item} → In y l → block_of top_tier y.key ≡ 0
      high k = div-eq_of_lt (key_top s.valid k)

      go : (z : List Item) → l ≡ z → ref l ν (P.root_for l (head_item z)) ≡ suc (ν (branch l top_tier x.key))
      go [] d = elim (subst (λ (r : List Item). In x r) d i) [ ]
      go (y ∷ z) d =
          let k : In y l = subst (λ (r : List Item). In y r) (sym d) here in
          ap (λ (p : Part). suc (ν p)) (branch_same l top_tier k i (high k ∙ sym (high i)))

  -- in a node of at most 16 keys
  packed_names : (v : ℕ) {x : Item} → In x l → 1 ≤ v → v ≤ top_tier → is_upper l v x.key ≡ true → size_over l v x.key ≤ full →
      Named ws n (ν (P.leaf l x.key))
  unfolding size
  packed_names v {x} i pos hi t few =
      let e : low_from l x.key v ≡ v = few_low l v x.key few in
      let (j, d) = in_nth (in_block l v (block_of v x.key)) (in_keep (over v (block_of v x.key)) i (in_own v x)) in
      let h : j < length (in_block l v (block_of v x.key)) = nth_lt (in_block l v (block_of v x.key)) j d in
      by_slot (ν (node v x)) j (sh v i pos hi t e).alive
      (leaf_named i (omega arith) (packed_slot v i pos hi t e few j (omega arith) d))

  -- in a node of more
  spread_names : (v : ℕ) {x : Item} → In x l → v < top_tier → is_upper l (suc v) x.key ≡ true → skipped l (suc v) x.key ≡ false →
      full < size_over l (suc v) x.key →
      Named ws n (ν (pick (leb 2 (size_over l v x.key)) (branch l v x.key) (P.leaf l x.key)))
  spread_names v {x} i lt t o many =
      let e : low_from l x.key (suc v) ≡ suc v = low_here l (suc v) x.key o in
      let b : block_of (suc v) x.key ≡ block_of v x.key / slots = tier_up v x.key in
      let p : slots * block_of (suc v) x.key + block_of v x.key % slots ≡ block_of v x.key = omega arith in
      let w : suc v - 1 ≡ v = omega arith in
      let d : slot_at ws (ν (node (suc v) x)) (block_of v x.key % slots) ≡ ref l ν (leads l v (block_of v x.key)) =
      node_slot (suc v) i (omega arith) (omega arith) t e (block_of v x.key % slots) (omega arith) ∙
      ap (ref l ν) (slot_spread l (suc v) (block_of (suc v) x.key) (block_of v x.key % slots) many ∙ ap₂ (leads l) w p) in
      go (first (over v (block_of v x.key)) l) refl d
    where
      to : Part
      to = pick (leb 2 (size_over l v x.key)) (branch l v x.key) (P.leaf l x.key)

      go : (q : Option Item) → first (over v (block_of v x.key)) l ≡ q →
          slot_at ws (ν (node (suc v) x)) (block_of v x.key % slots) ≡ ref l ν (leads_for l v (block_of v x.key) q) →
          Named ws n (ν (pick (leb 2 (size_over l v x.key)) (branch l v x.key) (P.leaf l x.key)))
      go none r d = absurd (clash (in_own v x) (look (first_no (over v (block_of v x.key)) l r) i))
      go (some y) r d =
          let (a, k) = first_yes (over v (block_of v x.key)) (each l (λ z m. m)) r in
          let e : low_from l x.key (suc v) ≡ suc v = low_here l (suc v) x.key o in
          let by : block_of v y.key ≡ block_of v x.key = eqb-true _ _ a in
          by_t (leb 2 (size_over l v x.key))
          (λ c. let d' : slot_at ws (ν (node (suc v) x)) (block_of v x.key % slots) ≡ suc (ν (branch l v y.key)) = (rw c at d) in
          let dx : slot_at ws (ν (node (suc v) x)) (block_of v x.key % slots) ≡ suc (ν (branch l v x.key)) =
          d' ∙ ap (λ (p : Part). suc (ν p)) (branch_same l v k i by) in
          rw c (by_slot (ν (node (suc v) x)) (block_of v x.key % slots) (sh (suc v) i (omega arith) (omega arith) t e).alive
          (record { slot = omega arith; is = dx; below = stands s (branch l v x.key) (has_it c) })))
          (λ c. let d' : slot_at ws (ν (node (suc v) x)) (block_of v x.key % slots) ≡ suc (ν (P.leaf l y.key)) = (rw c at d) in
          let same : y ≡ x = one_key l v (block_of v x.key) (leb-false 2 _ c) k i a (in_own v x) in
          rw c (by_slot (ν (node (suc v) x)) (block_of v x.key % slots) (sh (suc v) i (omega arith) (omega arith) t e).alive
          (leaf_named i (omega arith) (d' ∙ ap (λ (z : Item). suc (ν (P.leaf l z.key))) same))))
        where
          has_it : leb 2 (size_over l v x.key) ≡ true → has l (branch l v x.key) ≡ true
          has_it c =
              let two : 2 ≤ size_over l v x.key = leb-true _ _ c in
              let vpos : 1 ≤ v = by_t (eqb v 0)
              (λ z. absurd (omega (arith, subst (λ (u : ℕ). size_over l u x.key ≤ 1) (sym (eqb-true v 0 z)) (size_zero (block_of 0 x.key) s.valid))))
              (λ z. let ne : v ≡ 0 → ⊥ = eqb-false _ _ z in omega arith) in
              has_branch l v i (upper_child l v x.key vpos lt two many o)

  -- a node of more than 16 keys that is not skipped is an upper end
  many_upper : (v : ℕ) {x : Item} → In x l → 1 ≤ v → v ≤ top_tier → full < size_over l v x.key → skipped l v x.key ≡ false →
      is_upper l v x.key ≡ true
  many_upper v {x} i pos hi many o =
      by_t (eqb v top_tier)
      (λ c. subst (λ (u : ℕ). is_upper l u x.key ≡ true) (sym (eqb-true _ _ c)) (root_upper l x.key (size_pos top_tier i)))
      (λ c. let ne : v ≡ top_tier → ⊥ = eqb-false _ _ c in upper_here l v x.key pos (omega arith) many o)

  -- the upper end of the run above tier v
  run_top : (k w v : ℕ) {x : Item} → In x l → w + k ≡ top_tier → v < w → full < size_over l w x.key →
      ((j : ℕ) → v < j → j ≤ w → skipped l j x.key ≡ true) →
      (w' : ℕ) × (v < w') × (w' ≤ top_tier) × (is_upper l w' x.key ≡ true) × ((j : ℕ) → v < j → j ≤ w' → skipped l j x.key ≡ true)
  run_top zero w v {x} i e h many f =
      let z : top_tier ≡ w = omega arith in
      (w, h, omega arith, subst (λ (u : ℕ). is_upper l u x.key ≡ true) z (root_upper l x.key (size_pos top_tier i)), f)
  run_top (suc k) w v {x} i e h many f =
      let step : size_over l w x.key ≤ size_over l (suc w) x.key = size_step l w x.key in
      by_t (skipped l (suc w) x.key)
      (λ c. run_top k (suc w) v i (omega arith) (omega arith) (omega arith)
      (λ j a b. by_t (eqb j (suc w)) (λ d. ap (λ (u : ℕ). skipped l u x.key) (eqb-true _ _ d) ∙ c)
      (λ d. let ne : j ≡ suc w → ⊥ = eqb-false _ _ d in f j a (omega arith))))
      (λ c. (w, h, omega arith, upper_child l w x.key (omega arith) (omega arith) (omega arith) (omega arith) c, f))

  -- the lowest tier with more than 16 keys
  turn : (w : ℕ) (x : Item) → full < size_over l w x.key →
      (a : ℕ) × (suc a ≤ w) × (full < size_over l (suc a) x.key) × (size_over l a x.key ≤ full)
  turn zero x h = absurd (omega (arith, size_zero (block_of 0 x.key) s.valid))
  turn (suc w) x h =
      by_t (leb (size_over l w x.key) full) (λ c. (w, le_refl _, h, leb-true _ _ c))
      (λ c. let (a, b, d, e) = turn w x (leb-false _ _ c) in (a, omega arith, d, e))

  leaf_names : {x : Item} → In x l → Named ws n (ν (P.leaf l x.key))
  leaf_names {x} i =
      by_t (leb (size_over l top_tier x.key) full)
      (λ c. packed_names top_tier i (omega arith) (le_refl _) (root_upper l x.key (size_pos top_tier i)) (leb-true _ _ c))
      (λ c. go (turn top_tier x (leb-false _ _ c)))
    where
      go : (a : ℕ) × (suc a ≤ top_tier) × (full < size_over l (suc a) x.key) × (size_over l a x.key ≤ full) → Named ws n (ν (P.leaf l x.key))
      go (a, hi, many, few) =
          let o : skipped l (suc a) x.key ≡ false = open_at a many few in
          let u : is_upper l (suc a) x.key ≡ true = many_upper (suc a) i (omega arith) hi many o in
          let r = spread_names a i (omega arith) u o many in
          by_t (leb 2 (size_over l a x.key))
          (λ c. let two : 2 ≤ size_over l a x.key = leb-true _ _ c in
          let apos : 1 ≤ a = by_t (eqb a 0)
          (λ z. absurd (omega (arith, subst (λ (u : ℕ). size_over l u x.key ≤ 1) (sym (eqb-true a 0 z)) (size_zero (block_of 0 x.key) s.valid))))
          (λ z. let ne : a ≡ 0 → ⊥ = eqb-false _ _ z in omega arith) in
          packed_names a i apos (omega arith) (few_upper l a x.key apos (omega arith) two few many) few)
          (λ c. rw c at r)
        where
          open_at : (a : ℕ) → full < size_over l (suc a) x.key → size_over l a x.key ≤ full → skipped l (suc a) x.key ≡ false
          open_at a m f = is_false (λ t. omega (arith, skip_size a t))
            where
              skip_size : (a : ℕ) → skipped l (suc a) x.key ≡ true → size_over l a x.key ≡ size_over l (suc a) x.key
              skip_size a t = skipped_size l a x.key t

  part_named : (p : Part) → has l p ≡ true → Named ws n (ν p)
  part_named p t = go (has_open l p t)
    where
      go : (x : Item) × In x l × (is_upper l (top p) x.key ≡ true) × (p ≡ branch l (top p) x.key) → Named ws n (ν p)
      go (x, i, u, e) = subst (λ (q : Part). Named ws n (ν q)) (sym e)
          (by_t (eqb (top p) top_tier)
          (λ c. by_root (root_is i ∙ ap (λ (v : ℕ). suc (ν (branch l v x.key))) (sym (eqb-true _ _ c))))
          (λ c. let ne : top p ≡ top_tier → ⊥ = eqb-false _ _ c in
          let hi : top p ≤ top_tier = upper_le l s.valid (top p) x.key (key_top s.valid i) u in
          by_t (eqb (top p) 0)
          (λ d. subst (λ (q : Part). Named ws n (ν q)) (sym (ap (λ (v : ℕ). branch l v x.key) (eqb-true _ _ d) ∙ leaf_is l x.key)) (leaf_names i))
          (λ d. let ne' : top p ≡ 0 → ⊥ = eqb-false _ _ d in deep (top p) (omega arith) (omega arith) u)))
        where
          deep : (v : ℕ) → 1 ≤ v → v < top_tier → is_upper l v x.key ≡ true → Named ws n (ν (branch l v x.key))
          deep v pos lt u =
              let (two, many) = deep_two l v x.key u pos lt in
              by_t (skipped l (suc v) x.key)
              (λ c. run v pos lt (is_false (λ d. inside_run l v x.key pos (omega arith) d c u)) many
              (run_top (top_tier - suc v) (suc v) v i (omega arith) (omega arith) many
              (λ j a b. let q : j ≡ suc v = omega arith in ap (λ (u : ℕ). skipped l u x.key) q ∙ c)))
              (λ c. let r = spread_names v i lt (many_upper (suc v) i (omega arith) lt many c) c many in
              rw (le-leb 2 (size_over l v x.key) two) at r)
            where
              run : (v : ℕ) → 1 ≤ v → v < top_tier → skipped l v x.key ≡ false → full < size_over l (suc v) x.key →
                  (w : ℕ) × (v < w) × (w ≤ top_tier) × (is_upper l w x.key ≡ true) × ((j : ℕ) → v < j → j ≤ w → skipped l j x.key ≡ true) →
                  Named ws n (ν (branch l v x.key))
              run v pos lt o many (w, h, hi, t, f) =
                  let z : low_from l x.key w ≡ v = low_stops l x.key w v (omega arith) o f in
                  let e : low_from l x.key w < w = omega arith in
                  let k : CutOk ws n (ν (branch l w x.key)) = cut_ok w i (omega arith) hi t e in
                  subst (λ (q : Part). Named ws n (ν q)) (ap (λ (u : ℕ). node u x) z ∙ sym (nd_of l v x.key (low_here l v x.key o)))
                  (by_slot (ν (branch l w x.key)) 0 (cut_shown w i (omega arith) hi t e).alive
                  (record { slot = omega arith; is = cut_slot w i (omega arith) hi t e; below = (node_shown w i (omega arith) hi t e).alive.below }))

  live_part : (m : ℕ) → Live ws n m → (p : Part) × (has l p ≡ true) × (ν p ≡ m)
  live_part m a = go (get_or s.places m none) refl
    where
      go : (o : Option Part) → get_or s.places m none ≡ o → (p : Part) × (has l p ≡ true) × (ν p ≡ m)
      go none e =
          let z : word ws m tier_field ≡ 0 = at_word s m tier_field a.below (omega arith) ∙ ap (λ (o : Option Part). field_at l ν o tier_field) e in
          absurd (omega (arith, a.used))
      go (some p) e = (p, s.placed.sound p (in_standing p s.places m e), number_is s p m e)

  root_ok : (r : ℕ) → get_or ws root_word 0 ≡ suc r → RootOk ws n r
  root_ok r d = go l refl
    where
      go : (z : List Item) → l ≡ z → RootOk ws n r
      go [] e = absurd (omega (arith, root_word_lem s, ap (λ (z : List Item). ref l ν (P.root_for l (head_item z))) e))
      go (x ∷ z) e =
          let i : In x l = subst (λ (q : List Item). In x q) (sym e) here in
          let h : Shown (branch l top_tier x.key) = shown (branch l top_tier x.key) (has_branch l top_tier i (root_upper l x.key (size_pos top_tier i))) in
          let q : ν (branch l top_tier x.key) ≡ r = omega (arith, root_is i) in
          subst (RootOk ws n) q (record {
            below = h.alive.below;
            low = omega (arith, h.tier, low_pos s.valid x.key top_tier (omega arith));
            wide = omega (arith, h.tier, h.skip, low_le l x.key top_tier);
          })

  -- THE LAW, the other way
  pub passes : PoolOk ws s.n
  passes = record {
    fit = fit;
    long = pool_size s;
    count = count_word_lem s;
    least = s.least;
    most = s.most;
    block = block_ok_lem;
    root = root_ok;
    named = λ m a. let (p, t, e) = live_part m a in subst (Named ws n) e (part_named p t);
  }
