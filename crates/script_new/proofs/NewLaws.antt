-- A store of a new entry: what planning found, as the rows need it.
use Prim.Native.Nat.{ℕ, ◌+◌, ◌/◌, ◌≤◌, ◌<◌, max}
use mathlib.Core.Path.{◌≡◌, refl, sym, ap, subst, ◌∙◌}
use mathlib.Core.Bool.{Bool, true, false, not}
use mathlib.Core.List.{List}
use mathlib.Core.Option.{Option, none}
use native.Mathlib.Omega.{arith}
use lib.Dec.{ltb, eqb}
use lib.ListN.{length, get_or}
use borrow.Author.Tests.{eqb-false, ltb-true, ne_eqb, lt-ltb}
use Rattle.blocks.specs.Choice.{both}
use Rattle.blocks.specs.Lists.{nonempty}
use Rattle.blocks.specs.Blocks.{block}
use Rattle.blocks.proofs.BoolLaws.{by_t, both_l, both_r, is_false, not-true}
use Rattle.model.specs.declared.Entry.{Entry}
use Rattle.model.specs.ByBlock.{store_new}
use Rattle.model.proofs.RangeLaws.{Apart}
use Rattle.tree.specs.Tree.{slot_bits, top_tier, tier_order, height, has, needed}
use Rattle.tree.specs.Slots.{Numbering}
use Rattle.tree.proofs.NodeListLaws.{has_in, has_le}
use Rattle.layout.specs.Words.{pool_words}
use Rattle.layout.specs.Places.{number_in, new_places, free_count}
use Rattle.layout.specs.WellFormed.{WellFormed, num}
use Rattle.layout.proofs.NewNumberLaws.{kept, was_not, new_at}
use Rattle.layout.proofs.RenderWordLaws.{pool_head, pool_length_lem}
use Rattle.plan.specs.declared.Heads.{Heads}
use Rattle.plan.proofs.AfterStoreLaws.{has_path, path_zero, has_zero, zero_apart, within_zero}
use Rattle.plan.proofs.FreshNumbers.{tiers_grow}
use Rattle.plan.proofs.PlanLaws.{low_tier, top_small, h_le_top}
use Rattle.plan.proofs.WalkLaws.{head_zero}
use Rattle.script_rows.specs.Becomes.{Turns, Roomy}
use Rattle.script_table.specs.Table.{row_count}
use Rattle.script_new.specs.New.{NewList, NewPlanned}
use Rattle.script_new.specs.Chain.{beside_of, low_chain, ChainRoom}

-- the old tree stays, in terms of the heads
pub record Stays {ws : List ℕ} (s : WellFormed ws) (heads : Heads) (i k : ℕ) : Type 0 where
  pub grows : heads.old < heads.new
  pub some_old : nonempty s.list ≡ true
  pub beside : block k i ≡ 0 → ⊥

module _ {ws : List ℕ} (s : WellFormed ws) (heads : Heads) (i k : ℕ) (head_is : heads.word ≡ get_or ws 1 0) where
  old_there : not (eqb heads.word 0) ≡ nonempty s.list
  old_there = ap (λ (w : ℕ). not (eqb w 0)) (head_is ∙ pool_head s) ∙ head_zero s.list (num s) s.valid

  pub stays_of : beside_of heads k i ≡ true → Stays s heads i k
  stays_of t = record {
    grows = ltb-true _ _ (both_l (ltb heads.old heads.new) _ t);
    some_old = sym old_there ∙ both_l (not (eqb heads.word 0)) (not (eqb (block k i) 0))
        (both_r (ltb heads.old heads.new) _ t);
    beside = eqb-false _ _ (not-true (eqb (block k i) 0) (both_r (not (eqb heads.word 0)) (not (eqb (block k i) 0))
        (both_r (ltb heads.old heads.new) _ t)));
  }

  pub of_stays : Stays s heads i k → beside_of heads k i ≡ true
  of_stays st = rw (
    lt-ltb heads.old heads.new st.grows,
    old_there ∙ st.some_old,
    ne_eqb (block k i) 0 st.beside,
  ) refl

  -- the lowest tier of the rows over index 0
  module _ {b : Bool} {low : ℕ} (b-is : b ≡ beside_of heads k i) (low_is : low ≡ low_chain heads b) where
    pub low_in : Stays s heads i k → low ≡ max 1 heads.old
    low_in st = low_is ∙ rw (b-is ∙ of_stays st) refl

    pub in_low : low < heads.new → Stays s heads i k
    in_low h = by_t b (λ t. stays_of (sym b-is ∙ t))
        (λ f. let z : low ≡ heads.new = low_is ∙ rw f refl in absurd (omega arith))

    pub low_bounds : heads.old ≤ heads.new → 1 ≤ heads.new → (max 1 heads.old ≤ low) × (low ≤ heads.new)
    low_bounds h g = by_t b
        (λ t. let st : Stays s heads i k = stays_of (sym b-is ∙ t) in let z : low ≡ max 1 heads.old = low_in st in
        (omega arith, omega (arith, st.grows)))
        (λ f. let z : low ≡ heads.new = low_is ∙ rw f refl in (omega arith, omega arith))

module _ {ws : List ℕ} (s : WellFormed ws) {i k w : ℕ} {heads : Heads} {ps cs : List ℕ}
    (np : NewPlanned s (record { index = i; order = k; word = w }) heads ps cs) where
  abbrev l : List Entry
  l = s.list

  abbrev L : List Entry
  L = store_new l i k w

  top_is : heads.new ≡ height L
  top_is = np.known.top_is

  pub low : k / slot_bits < heads.new
  low = low_tier s np.known

  pub top_le : heads.new ≤ top_tier
  top_le = top_small s np.known

  pub old_le : heads.old ≤ heads.new
  old_le = h_le_top s np.known

  pub path_lt : (u : ℕ) → k / slot_bits < u → u ≤ heads.new → get_or ps u 0 < s.n
  path_lt u a b = subst (λ (n : ℕ). n < s.n) (sym (np.plan.path_is u a (omega (arith, top_is))))
      (new_at s.n l s.places s.placed L np.enough u (block (tier_order u) i)
      (has_path np.known.new u (omega arith) (omega (arith, top_is)))).0

  pub new_roomy : {rs : List ℕ} → top_tier < length ps → pool_words row_count ≤ length rs →
      Roomy ws rs ps (k / slot_bits) heads.new
  new_roomy g r = record {
    low = low;
    top_le = top_le;
    path_long = g;
    rows_long = omega arith;
    few = λ u a b. omega (arith, path_lt u a b, s.most);
    nodes = λ u a b. omega (arith, path_lt u a b, pool_length_lem s);
  }

  -- the new head's block is 0
  pub head_flat : block (tier_order heads.new) i ≡ 0
  head_flat = ap (λ (u : ℕ). block (tier_order u) i) top_is ∙ path_zero np.known.new

  module _ (st : Stays s heads i k) where
    grown : height l < height L
    grown = omega (arith, top_is, np.known.h_is, st.grows)

    chain_lt : (u : ℕ) → heads.old ≤ u → 1 ≤ u → u ≤ heads.new → get_or cs u 0 < s.n
    chain_lt u a b c =
        let h : height l ≤ u = omega (arith, np.known.h_is) in
        let g : u ≤ height L = omega (arith, top_is) in
        subst (λ (n : ℕ). n < s.n) (sym (np.plan.chain_is grown st.some_old st.beside u h b g))
        (new_at s.n l s.places s.placed L np.enough u 0
        (has_zero np.known.new grown u h b g st.some_old st.beside)).0

    pub chain_room_lem : ChainRoom ws cs heads
    chain_room_lem = record {
      few = λ u a b c. omega (arith, chain_lt u a b c, s.most);
      nodes = λ u a b c. omega (arith, chain_lt u a b c, pool_length_lem s);
    }

  -- THE NEW LIST
  module _ {m : ℕ} {o : Option Entry} {l' : List Entry} (nl : NewList s i k w m o l') where
    abbrev μ : Numbering
    μ = number_in (new_places l l' s.places)

    pub height_is : heads.new ≡ height l'
    height_is = top_is ∙ sym nl.same_height

    same_number : (u c : ℕ) → number_in (new_places l L s.places) u c ≡ μ u c
    same_number u c = ap (λ os. number_in os u c) (sym nl.same_places)

    pub enough : needed l l' ≤ free_count s.places
    enough = subst (λ (n : ℕ). n ≤ free_count s.places) (ap length (sym nl.same_new)) np.enough

    pub path_has : (u : ℕ) → k / slot_bits < u → u ≤ heads.new → has l' u (block (tier_order u) i) ≡ true
    path_has u a b = nl.same_has u (block (tier_order u) i)
        ∙ has_path np.known.new u (omega arith) (omega (arith, top_is))

    pub path_is : (u : ℕ) → k / slot_bits < u → u ≤ heads.new → get_or ps u 0 ≡ μ u (block (tier_order u) i)
    path_is u a b = np.plan.path_is u a (omega (arith, top_is)) ∙ same_number u (block (tier_order u) i)

    pub turns_new : Turns l i k w m ps heads.new o l' μ
    turns_new = record {
      becomes = nl.becomes;
      valid = nl.valid;
      word_is = nl.word_is;
      marks_is = nl.marks_is;
      numbers = path_is;
    }

    -- where the head grows no node of the path was there
    pub no_path : heads.old < heads.new → (u : ℕ) → k / slot_bits < u → u ≤ heads.new →
        has l u (block (tier_order u) i) ≡ false
    no_path g u a b =
        let gr : height l < height L = omega (arith, top_is, np.known.h_is) in
        let t : both (ltb k (tier_order u)) (not (has l u (block (tier_order u) i))) ≡ true =
        (tiers_grow s.placed np.known.new gr).missing_is u (omega arith) (omega (arith, top_is))
        ∙ rw (lt-ltb (k / slot_bits) u a, lt-ltb u (height L + 1) (omega (arith, top_is))) refl in
        not-true (has l u (block (tier_order u) i)) (both_r (ltb k (tier_order u)) _ t)

    -- a number of a new node is that of a free one
    pub was_free : (u c n : ℕ) → has l' u c ≡ true → has l u c ≡ false → n ≡ μ u c →
        (n < s.n) × (get_or s.places n none ≡ none)
    was_free u c n t f e = (
      subst (λ (x : ℕ). x < s.n) (sym e) (new_at s.n l s.places s.placed l' enough u c t).0,
      ap (λ (x : ℕ). get_or s.places x none) e ∙ was_not s.n l s.places s.placed l' enough u c t f,
    )

    -- what was there and stays keeps its number
    pub stays_number : (u c : ℕ) → has l u c ≡ true → has l' u c ≡ true → μ u c ≡ num s u c
    stays_number u c t t' = kept s.n l s.places s.placed l' enough u c t t'

    module _ (st : Stays s heads i k) where
      pub zero_off : (u : ℕ) → u < heads.new → Apart i k (tier_order u) 0
      zero_off u h = zero_apart np.known.new (grown st) u (omega (arith, top_is)) st.beside

      pub zero_has : (u : ℕ) → heads.old ≤ u → 1 ≤ u → u ≤ heads.new → has l' u 0 ≡ true
      zero_has u a b c = nl.same_has u 0 ∙ has_zero np.known.new (grown st) u (omega (arith, np.known.h_is)) b
          (omega (arith, top_is)) st.some_old st.beside

      pub chain_is : (u : ℕ) → heads.old ≤ u → 1 ≤ u → u ≤ heads.new → get_or cs u 0 ≡ μ u 0
      chain_is u a b c = np.plan.chain_is (grown st) st.some_old st.beside u (omega (arith, np.known.h_is)) b
          (omega (arith, top_is)) ∙ same_number u 0

      pub old_has : 1 ≤ heads.old → has l (height l) 0 ≡ true
      old_has h = has_in l (height l) 0 (omega arith)
          (within_zero np.known.new (grown st) (height l) (omega arith) (omega (arith, np.known.h_is)) st.some_old)

      -- a tier between the heads has no node of the old tree over index 0
      pub new_zero : (u : ℕ) → heads.old < u → has l u 0 ≡ false
      new_zero u h = is_false (λ t. let z : u ≤ height l = has_le l u 0 t in omega (arith, np.known.h_is))
