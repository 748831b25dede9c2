-- One step of the way down, on a well-formed pool.
use Prim.Native.Nat.{ℕ, suc, ◌+◌, ◌*◌, ◌-◌, ◌/◌, ◌%◌, ◌^◌, ◌≤◌, ◌<◌}
use mathlib.Core.Path.{◌≡◌, refl, sym, ap, ◌∙◌, subst}
use mathlib.Core.Bool.{true, false}
use mathlib.Core.List.{List, [], ◌∷◌}
use mathlib.Core.Option.{Option, none, some}
use mathlib.Core.Logic.{◌⊎◌, inl, inr}
use native.Mathlib.Omega.{arith}
use lib.Dec.{leb, eqb}
use lib.ListN.{length, get_or}
use borrow.Author.Tests.{eqb-true, eqb-false, leb-true, leb-false, eq-eqb, ne_eqb, lt-ltb, le-ltb}
use Rattle.blocks.specs.Choice.{pick}
use Rattle.blocks.specs.Lists.{first, In, here, there}
use Rattle.blocks.proofs.BoolLaws.{clash, by_t}
use Rattle.blocks.proofs.BlockLaws.{block_lo, block_at}
use Rattle.blocks.proofs.ListLaws.{first_no, first_yes, look, each, in_cons}
use Rattle.assoc_tree.specs.Keys.{Item}
use Rattle.assoc_tree.specs.Parts.{Part, part, top, tier_bits, block_of, over, in_block, size, size_over, skipped, low_from, branch, leaf, is_upper, has, full, top_tier, leads, leads_for, nth, slot, slots}
use Rattle.assoc_layout.specs.Words.{place, tier_field, skip_field, value_field, base_field, slot_field, slot_word, ref}
use Rattle.assoc_keys.specs.Number.{word_of, key_words}
use Rattle.assoc_layout.specs.WellFormed.{WellFormed, num}
use Rattle.assoc_tree.proofs.SizeLaws.{up, low_le, low_ends, low_same, low_size, has_branch, skipped_same}
use Rattle.assoc_layout.proofs.RenderLaws.{word_of_lem, pool_size, there as stands}
use Rattle.words.specs.Bits.{word_bits}
use Rattle.std.specs.Prelude.{Option as Read, None, Some}
use Rattle.assoc_lookup.specs.Lookup.{Step, Leaf, Into, word, key_in, wanted, single_step, child_step, packed_step, step_of, At, StepOk, is_nothing, is_leaf, is_into, HasBlock, ReadyAt}
use Rattle.assoc_keys.proofs.NumberLaws.{number_back}
use Rattle.assoc_tree.proofs.KeyLaws.{block_zero, key_short, size_zero, low_pos, find_some, find_none, has_leaf}
use Rattle.assoc_tree.proofs.RunLaws.{nd_of}
use Rattle.assoc_tree.proofs.SlotLaws.{tier_up, in_keep, keep_in, nth_in, nth_some, nth_lt, slot_packed, slot_spread, one_key, upper_child, low_here, upper_here}

-- what looking through leaves finds
data PackedOk (l : List Item) (ν : Part → ℕ) (k : ℕ) (zs : List Item) : Read Step → Type 0 where
  p_none : ((y : Item) → In y zs → y.key ≡ k → ⊥) → PackedOk l ν k zs None
  p_leaf : (x : Item) → In x l → x.key ≡ k → PackedOk l ν k zs (Some (Leaf (ν (leaf l x.key))))

-- a slot that is not empty
child_step_lem : (ws ks : List ℕ) (n w : ℕ) → child_step ws ks (suc n) w ≡
    pick (eqb (word ws ks n tier_field) 1) (single_step ws ks n) (Some (Into n w))
child_step_lem ws ks n w =
    let e : suc n - 1 ≡ n = omega arith in
    rw (ne_eqb (suc n) 0 (omega arith), e)

-- the node over the block of x of tier v
abbrev nd : ℕ → ℕ → Part
nd v x = part v 0 (block_of v x * 2 ^ tier_bits v)

module _ {ws : List ℕ} (ks : List ℕ) (s : WellFormed ws) where
  abbrev l : List Item
  l = s.list

  abbrev ν : Part → ℕ
  ν = num s

  abbrev k : ℕ
  k = wanted ws ks

  has_block : (p : Part) → has l p ≡ true → length ks ≡ key_words → HasBlock ws ks (ν p)
  has_block p t e = record { n = s.n; size = pool_size s; few = s.most; key_size = e; there = stands s p t }

  -- the base that a block holds
  pub base_of : (p : Part) → has l p ≡ true → p.base < 2 ^ (word_bits * key_words) → key_in ws ks (ν p) ≡ p.base
  base_of p t h = number_back ws key_words (place (ν p) base_field) p.base h (λ i g. at i g)
    where
      at : (i : ℕ) → i < key_words → get_or ws (place (ν p) base_field + i) 0 ≡ word_of p.base i
      at i g =
          let e : place (ν p) base_field + i ≡ place (ν p) (base_field + i) = omega arith in
          let d : base_field + i - base_field ≡ i = omega arith in
          ap (λ (x : ℕ). get_or ws x 0) e ∙ word_of_lem s p (base_field + i) t (omega arith) ∙
          rw (
            ne_eqb (base_field + i) tier_field (omega arith),
            ne_eqb (base_field + i) skip_field (omega arith),
            ne_eqb (base_field + i) value_field (omega arith),
            lt-ltb (base_field + i) slot_field (omega arith),
            d,
          )

  pub slot_of_lem : (p : Part) (j : ℕ) → has l p ≡ true → j < 16 → word ws ks (ν p) (slot_field + j) ≡ slot_word l ν p j
  slot_of_lem p j t g =
      let d : slot_field + j - slot_field ≡ j = omega arith in
      word_of_lem s p (slot_field + j) t (omega arith) ∙
      rw (
        ne_eqb (slot_field + j) tier_field (omega arith),
        ne_eqb (slot_field + j) skip_field (omega arith),
        ne_eqb (slot_field + j) value_field (omega arith),
        le-ltb (slot_field + j) slot_field (omega arith),
        d,
      )

  -- A LEAF
  pub leaf_key : {x : Item} → In x l → key_in ws ks (ν (leaf l x.key)) ≡ x.key
  leaf_key {x} m = base_of (leaf l x.key) (has_leaf l m) (key_short s.valid m)

  pub single_ok : (v : ℕ) {x : Item} → In x l → ((y : Item) → In y l → y.key ≡ k → x.key ≡ y.key) →
      StepOk l ν k v (single_step ws ks (ν (leaf l x.key)))
  single_ok v {x} m f =
      by_t (eqb (block_of 0 (key_in ws ks (ν (leaf l x.key)))) (block_of 0 k))
      (λ e. rw e (is_leaf x (find_some k s.valid m (sym (leaf_key m) ∙ sym (block_zero _) ∙ eqb-true _ _ e ∙ block_zero k))))
      (λ e. rw e (is_nothing (find_none k (λ y i q. eqb-false _ _ e
      (block_zero _ ∙ leaf_key m ∙ f y i q ∙ q ∙ sym (block_zero k))))))

  -- A NODE WITH LEAVES
  packed_ok_lem : (m j : ℕ) (zs : List Item) →
      ((i : ℕ) (y : Item) → nth zs i ≡ some y → word ws ks m (slot_field + (j + i)) ≡ suc (ν (leaf l y.key))) →
      ((y : Item) → In y zs → In y l) → PackedOk l ν k zs (packed_step ws ks m j (length zs))
  unfolding packed_step
  packed_ok_lem m j [] f g = p_none (λ y i q. elim i [ ])
  packed_ok_lem m j (z ∷ zs) f g =
      let e : word ws ks m (slot_field + j) - 1 ≡ ν (leaf l z.key) = at (f 0 z refl) in
      rw e (by_t (eqb (block_of 0 (key_in ws ks (ν (leaf l z.key)))) (block_of 0 k))
      (λ t. rw t (p_leaf z (g z here) (sym (leaf_key (g z here)) ∙ sym (block_zero _) ∙ eqb-true _ _ t ∙ block_zero k)))
      (λ t. rw t (more_ok (λ q. eqb-false _ _ t (block_zero _ ∙ leaf_key (g z here) ∙ q ∙ sym (block_zero k)))
      (packed_ok_lem m (suc j) zs (λ i y h. shift i y (f (suc i) y h)) (λ y i. g y (there i))))))
    where
      at : word ws ks m (slot_field + (j + 0)) ≡ suc (ν (leaf l z.key)) →
          word ws ks m (slot_field + j) - 1 ≡ ν (leaf l z.key)
      at h = let d : j + 0 ≡ j = omega arith in
          let h' : word ws ks m (slot_field + j) ≡ suc (ν (leaf l z.key)) = ap (λ (x : ℕ). word ws ks m (slot_field + x)) (sym d) ∙ h in
          omega arith

      shift : (i : ℕ) (y : Item) → word ws ks m (slot_field + (j + suc i)) ≡ suc (ν (leaf l y.key)) →
          word ws ks m (slot_field + (suc j + i)) ≡ suc (ν (leaf l y.key))
      shift i y h = let d : suc j + i ≡ j + suc i = omega arith in ap (λ (x : ℕ). word ws ks m (slot_field + x)) d ∙ h

      more_ok : {r : Read Step} → (z.key ≡ k → ⊥) → PackedOk l ν k zs r → PackedOk l ν k (z ∷ zs) r
      more_ok n (p_none h) = p_none (λ y i q. go y (in_cons i) q)
        where
          go : (y : Item) → (y ≡ z) ⊎ In y zs → y.key ≡ k → ⊥
          go y (inl d) q = n (ap (λ (w : Item). w.key) (sym d) ∙ q)
          go y (inr i) q = h y i q
      more_ok n (p_leaf x i q) = p_leaf x i q

  -- THE NODE over the block of x of tier v
  module _ (v : ℕ) {x : Item} (m : In x l) (t : is_upper l v x.key ≡ true) (pos : 1 ≤ v)
      (agrees : block_of v x.key ≡ block_of v k) where
    module _ (e : low_from l x.key v ≡ v) where
      has_node_lem : has l (nd v x.key) ≡ true
      has_node_lem = ap (has l) (sym (nd_of l v x.key e)) ∙ has_branch l v m t

      own_block : block_of v (nd v x.key).base ≡ block_of v x.key
      own_block = block_at (tier_bits v) (block_of v x.key)

      skip_word : word ws ks (ν (nd v x.key)) skip_field ≡ 0
      skip_word = word_of_lem s (nd v x.key) skip_field has_node_lem (omega arith)

      value_word : word ws ks (ν (nd v x.key)) value_field ≡ size_over l v x.key
      value_word =
          word_of_lem s (nd v x.key) value_field has_node_lem (omega arith) ∙
          rw (ne_eqb v 0 (omega arith)) (ap (size l v) own_block)

      slot_word_lem : (j : ℕ) → j < 16 → word ws ks (ν (nd v x.key)) (slot_field + j) ≡ ref l ν (slot l v (block_of v x.key) j)
      slot_word_lem j h =
          slot_of_lem (nd v x.key) j has_node_lem h ∙
          rw (ne_eqb v 0 (omega arith)) (ap (λ (c : ℕ). ref l ν (slot l v c j)) own_block)

      pub packed_case : size_over l v x.key ≤ full →
          StepOk l ν k v (packed_step ws ks (ν (nd v x.key)) 0 (size_over l v x.key))
      unfolding size
      packed_case h = finish (packed_ok_lem (ν (nd v x.key)) 0 (in_block l v (block_of v x.key)) at
          (λ y i. (keep_in (over v (block_of v x.key)) l i).0))
        where
          at : (i : ℕ) (y : Item) → nth (in_block l v (block_of v x.key)) i ≡ some y →
              word ws ks (ν (nd v x.key)) (slot_field + (0 + i)) ≡ suc (ν (leaf l y.key))
          at i y q =
              let z : 0 + i ≡ i = omega arith in
              let lt : i < length (in_block l v (block_of v x.key)) = nth_lt (in_block l v (block_of v x.key)) i q in
              ap (λ (j : ℕ). word ws ks (ν (nd v x.key)) (slot_field + j)) z ∙ slot_word_lem i (omega arith) ∙
              ap (ref l ν) (slot_packed l v (block_of v x.key) i h q)

          finish : {r : Read Step} → PackedOk l ν k (in_block l v (block_of v x.key)) r → StepOk l ν k v r
          finish (p_none f) = is_nothing (find_none {l = l} k (λ y i q. f y
              (in_keep (over v (block_of v x.key)) i (eq-eqb _ _ (ap (block_of v) q ∙ sym agrees))) q))
          finish (p_leaf y i q) = is_leaf y (find_some k s.valid i q)

      not_skipped : skipped l v x.key ≡ false
      not_skipped = ap (λ (u : ℕ). skipped l u x.key) (sym e) ∙ low_ends l x.key v

      child_leaf : (w : ℕ) (y : Item) → In y l → over w (block_of w k) y ≡ true → size l w (block_of w k) < 2 →
          StepOk l ν k v (child_step ws ks (suc (ν (leaf l y.key))) w)
      child_leaf w y i a c =
          subst (StepOk l ν k v) (sym (child_step_lem ws ks (ν (leaf l y.key)) w ∙
          rw (word_of_lem s (leaf l y.key) tier_field (has_leaf l i) (omega arith))))
          (single_ok v i (λ z n r. ap (λ (g : Item). g.key)
          (one_key l w (block_of w k) c i n a (eq-eqb _ _ (ap (block_of w) r)))))

      child_upper : (w : ℕ) (y : Item) → v ≡ suc w → v ≤ top_tier → full < size_over l v x.key → In y l →
          block_of w y.key ≡ block_of w k → 2 ≤ size l w (block_of w k) → (1 ≤ w) × (is_upper l w y.key ≡ true)
      child_upper w y d top h i f c = (w_pos, upper)
        where
          w_pos : 1 ≤ w
          w_pos = by_t (eqb w 0) (λ z. absurd (let z' : w ≡ 0 = eqb-true _ _ z in
              let b : size l 0 (block_of 0 k) ≤ 1 = size_zero (block_of 0 k) s.valid in
              let c' : 2 ≤ size l 0 (block_of 0 k) = subst (λ (u : ℕ). 2 ≤ size l u (block_of u k)) z' c in omega arith))
              (λ z. let ne : w ≡ 0 → ⊥ = eqb-false _ _ z in omega arith)

          up_block : block_of v y.key ≡ block_of v x.key
          up_block = up {v = w} {w = v} y.key k (omega arith) f ∙ sym agrees

          upper : is_upper l w y.key ≡ true
          upper = upper_child l w y.key w_pos (omega arith) (rw f c)
              (subst (λ (u : ℕ). full < size_over l u y.key) d (rw up_block h))
              (subst (λ (u : ℕ). skipped l u y.key ≡ false) d (skipped_same l v i m up_block ∙ not_skipped))

      child_node : (w : ℕ) (y : Item) → v ≡ suc w → v ≤ top_tier → full < size_over l v x.key → In y l →
          block_of w y.key ≡ block_of w k → 2 ≤ size l w (block_of w k) →
          StepOk l ν k v (child_step ws ks (suc (ν (branch l w y.key))) w)
      child_node w y d top h i f c =
          let (w_pos, upper) = child_upper w y d top h i f c in
          subst (StepOk l ν k v) (sym (child_step_lem ws ks (ν (branch l w y.key)) w ∙
          rw (
            word_of_lem s (branch l w y.key) tier_field (has_branch l w i upper) (omega arith),
            ne_eqb (suc (low_from l y.key w)) 1 (omega (arith, low_pos s.valid y.key w w_pos)),
          )))
          (is_into (ν (branch l w y.key)) w (omega arith) (record {
            item = y;
            inside = i;
            over = f;
            upper = upper;
            number = refl;
            low = w_pos;
            high = omega arith;
          }))

      -- what a slot leads to is there
      child_has : (w : ℕ) → v ≡ suc w → v ≤ top_tier → full < size_over l v x.key → (o : Option Item) →
          first (over w (block_of w k)) l ≡ o → (r : ℕ) → r ≡ ref l ν (leads_for l w (block_of w k) o) → 1 ≤ r →
          (p : Part) × (r ≡ suc (ν p)) × (has l p ≡ true)
      child_has w d top h none q r e lt = absurd (omega arith)
      child_has w d top h (some y) q r e lt =
          let (a, i) = first_yes (over w (block_of w k)) (each l (λ z n. n)) q in
          let f : block_of w y.key ≡ block_of w k = eqb-true _ _ a in
          by_t (leb 2 (size l w (block_of w k)))
          (λ c. (branch l w y.key, e ∙ rw c, has_branch l w i (child_upper w y d top h i f (leb-true _ _ c)).1))
          (λ c. (leaf l y.key, e ∙ rw c, has_leaf l i))

      pub child_case : (w : ℕ) → v ≡ suc w → v ≤ top_tier → full < size_over l v x.key → (o : Option Item) →
          first (over w (block_of w k)) l ≡ o → StepOk l ν k v (child_step ws ks (ref l ν (leads_for l w (block_of w k) o)) w)
      child_case w d top h none q = is_nothing (find_none {l = l} k (λ y i r. clash {b = over w (block_of w k) y}
          (eq-eqb _ _ (ap (block_of w) r)) (look (first_no (over w (block_of w k)) l q) i)))
      child_case w d top h (some y) q =
          let (a, i) = first_yes (over w (block_of w k)) (each l (λ z n. n)) q in
          let f : block_of w y.key ≡ block_of w k = eqb-true _ _ a in
          by_t (leb 2 (size l w (block_of w k)))
          (λ c. rw c (child_node w y d top h i f (leb-true _ _ c)))
          (λ c. rw c (child_leaf w y i a (leb-false _ _ c)))

      towards : full < size_over l v x.key →
          word ws ks (ν (nd v x.key)) (slot_field + block_of (v - 1) k % 16) ≡ ref l ν (leads l (v - 1) (block_of (v - 1) k))
      towards h =
          let d : v ≡ suc (v - 1) = omega arith in
          let b : block_of v x.key ≡ block_of (v - 1) k / slots =
          agrees ∙ ap (λ (u : ℕ). block_of u k) d ∙ tier_up (v - 1) k in
          let g : slots * block_of v x.key + block_of (v - 1) k % 16 ≡ block_of (v - 1) k = omega arith in
          slot_word_lem (block_of (v - 1) k % 16) (omega arith) ∙
          ap (ref l ν) (slot_spread l v (block_of v x.key) (block_of (v - 1) k % 16) h ∙ ap (leads l (v - 1)) g)

      pub node_case : v ≤ top_tier → StepOk l ν k v (step_of ws ks (ν (nd v x.key)) v)
      node_case top =
          by_t (leb (size_over l v x.key) full)
          (λ c. rw (skip_word, value_word, c) (packed_case (leb-true _ _ c)))
          (λ c. rw (skip_word, value_word, c)
          (subst (λ (n : ℕ). StepOk l ν k v (child_step ws ks n (v - 1))) (sym (towards (leb-false _ _ c)))
          (child_case (v - 1) (omega arith) top (leb-false _ _ c) (first (over (v - 1) (block_of (v - 1) k)) l) refl)))

      leaf_at : size_over l v x.key ≤ full → (j : ℕ) → j < size_over l v x.key →
          (y : Item) × (word ws ks (ν (nd v x.key)) (slot_field + j) ≡ suc (ν (leaf l y.key))) × In y l
      unfolding size
      leaf_at h j g =
          let (y, q) = nth_some (in_block l v (block_of v x.key)) j g in (
            y,
            slot_word_lem j (omega arith) ∙ ap (ref l ν) (slot_packed l v (block_of v x.key) j h q),
            (keep_in (over v (block_of v x.key)) l (nth_in (in_block l v (block_of v x.key)) j q)).0,
          )

      pub node_ready : v ≤ top_tier → length ks ≡ key_words → ReadyAt ws ks (ν (nd v x.key)) v
      node_ready top size_is = record {
        block = has_block (nd v x.key) has_node_lem size_is;
        low = pos;
        high = top;
        skip_le = rw skip_word (omega arith);
        cut = λ ne. absurd (ne skip_word);
        leaves = λ z c. let c' : size_over l v x.key ≤ full = (rw value_word at c) in record {
          few = c;
          filled = λ j g. let (y, q, i) = leaf_at c' j (rw value_word at g) in omega arith;
          blocks = λ j g. let (y, q, i) = leaf_at c' j (rw value_word at g) in
              let e' : ν (leaf l y.key) ≡ word ws ks (ν (nd v x.key)) (slot_field + j) - 1 = omega arith in
              subst (HasBlock ws ks) e' (has_block (leaf l y.key) (has_leaf l i) size_is);
        };
        child = λ z c g. let c' : full < size_over l v x.key = (rw value_word at c) in
            let (p, q, h) = child_has (v - 1) (omega arith) top c' (first (over (v - 1) (block_of (v - 1) k)) l) refl
            (word ws ks (ν (nd v x.key)) (slot_field + block_of (v - 1) k % 16)) (towards c') g in
            let e' : ν p ≡ word ws ks (ν (nd v x.key)) (slot_field + block_of (v - 1) k % 16) - 1 = omega arith in
            subst (HasBlock ws ks) e' (has_block p h size_is);
      }

    -- A SHORTCUT
    module _ (e : low_from l x.key v < v) where
      cut_there : has l (branch l v x.key) ≡ true
      cut_there = has_branch l v m t

      skip_is : word ws ks (ν (branch l v x.key)) skip_field ≡ v - low_from l x.key v
      skip_is = word_of_lem s (branch l v x.key) skip_field cut_there (omega arith)

      u_pos : 1 ≤ low_from l x.key v
      u_pos = low_pos s.valid x.key v pos

      cut_slot : word ws ks (ν (branch l v x.key)) slot_field ≡ suc (ν (nd (low_from l x.key v) x.key))
      cut_slot =
          word_of_lem s (branch l v x.key) slot_field cut_there (omega arith) ∙
          rw (ne_eqb (low_from l x.key v) 0 (omega (arith, u_pos)), ne_eqb (v - low_from l x.key v) 0 (omega arith))

      pub cut_ready : v ≤ top_tier → length ks ≡ key_words → ReadyAt ws ks (ν (branch l v x.key)) v
      cut_ready top size_is = record {
        block = has_block (branch l v x.key) cut_there size_is;
        low = pos;
        high = top;
        skip_le = rw skip_is (omega arith);
        cut = λ ne. rw cut_slot (omega arith);
        leaves = λ z c. absurd (omega (arith, skip_is));
        child = λ z c g. absurd (omega (arith, skip_is));
      }

      pub cut_case : v ≤ top_tier → StepOk l ν k v (step_of ws ks (ν (branch l v x.key)) v)
      cut_case top =
          rw (skip_is, ne_eqb (v - low_from l x.key v) 0 (omega arith), back)
          (by_t (eqb (block_of (low_from l x.key v) (key_in ws ks (ν (branch l v x.key)))) (block_of (low_from l x.key v) k))
          (λ c. rw c (into (sym block_is ∙ eqb-true _ _ c)))
          (λ c. rw c (is_nothing (find_none {l = l} k (λ y i r. eqb-false _ _ c (block_is ∙
          (low_same l v m i (agrees ∙ ap (block_of v) (sym r))).1 ∙ ap (block_of (low_from l x.key v)) r))))))
        where
          back : v - (v - low_from l x.key v) ≡ low_from l x.key v
          back = omega arith

          block_is : block_of (low_from l x.key v) (key_in ws ks (ν (branch l v x.key))) ≡ block_of (low_from l x.key v) x.key
          block_is =
              ap (block_of (low_from l x.key v)) (base_of (branch l v x.key) cut_there
              (short (block_lo (tier_bits (low_from l x.key v)) x.key) (key_short s.valid m))) ∙
              block_at (tier_bits (low_from l x.key v)) (block_of (low_from l x.key v) x.key)
            where
              short : {a b c : ℕ} → a ≤ b → b < c → a < c
              short f g = omega arith

          low_is : low_from l x.key (low_from l x.key v) ≡ low_from l x.key v
          low_is = low_here l (low_from l x.key v) x.key (low_ends l x.key v)

          slot_is : word ws ks (ν (branch l v x.key)) slot_field - 1 ≡ ν (branch l (low_from l x.key v) x.key)
          slot_is =
              let a : word ws ks (ν (branch l v x.key)) slot_field ≡ suc (ν (nd (low_from l x.key v) x.key)) = cut_slot in
              let b : word ws ks (ν (branch l v x.key)) slot_field - 1 ≡ ν (nd (low_from l x.key v) x.key) = omega arith in
              b ∙ ap ν (sym (nd_of l (low_from l x.key v) x.key low_is))

          upper : is_upper l (low_from l x.key v) x.key ≡ true
          upper =
              let (a, b) = low_size l x.key v e in
              upper_here l (low_from l x.key v) x.key u_pos (omega arith)
              (let c : full < size_over l (low_from l x.key v) x.key = rw a b in c) (low_ends l x.key v)

          into : block_of (low_from l x.key v) x.key ≡ block_of (low_from l x.key v) k →
              StepOk l ν k v (Some (Into (word ws ks (ν (branch l v x.key)) slot_field - 1) (low_from l x.key v)))
          into f = is_into _ (low_from l x.key v) e (record {
            item = x;
            inside = m;
            over = f;
            upper = upper;
            number = slot_is;
            low = u_pos;
            high = omega arith;
          })

  -- ANY BLOCK
  pub step_ok : {v m : ℕ} → At l ν v k m → StepOk l ν k v (step_of ws ks m v)
  step_ok {v} {m} a =
      let x = a.item in
      subst (λ (n : ℕ). StepOk l ν k v (step_of ws ks n v)) (sym a.number)
      (by_t (eqb (low_from l x.key v) v)
      (λ c. subst (λ (p : Part). StepOk l ν k v (step_of ws ks (ν p) v)) (sym (nd_of l v x.key (eqb-true _ _ c)))
      (node_case v a.inside a.upper a.low a.over (eqb-true _ _ c) a.high))
      (λ c. cut_case v a.inside a.upper a.low a.over
      (let ne : low_from l x.key v ≡ v → ⊥ = eqb-false _ _ c in omega (arith, low_le l x.key v)) a.high))

  pub ready_at : {v m : ℕ} → length ks ≡ key_words → At l ν v k m → ReadyAt ws ks m v
  ready_at {v} {m} size_is a =
      let x = a.item in
      subst (λ (n : ℕ). ReadyAt ws ks n v) (sym a.number)
      (by_t (eqb (low_from l x.key v) v)
      (λ c. subst (λ (p : Part). ReadyAt ws ks (ν p) v) (sym (nd_of l v x.key (eqb-true _ _ c)))
      (node_ready v a.inside a.upper a.low a.over (eqb-true _ _ c) a.high size_is))
      (λ c. cut_ready v a.inside a.upper a.low a.over
      (let ne : low_from l x.key v ≡ v → ⊥ = eqb-false _ _ c in omega (arith, low_le l x.key v)) a.high size_is))
