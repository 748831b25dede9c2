-- The marks of what a new entry replaces: where the head stays, in the mark words of the entry's node; where it grows, all of
-- the anchor's or none.
use Prim.Native.Nat.{ℕ, suc, ◌+◌, ◌*◌, ◌-◌, ◌/◌, ◌^◌, ◌≤◌, ◌<◌}
use mathlib.Core.Path.{◌≡◌, refl, sym, ap, subst, ◌∙◌}
use mathlib.Core.Bool.{Bool, true, false}
use mathlib.Core.List.{List}
use mathlib.Core.Option.{Option, none, some}
use native.Mathlib.Omega.{arith}
use native.Mathlib.Nat.{le_refl, zero-div, zero-mul}
use native.Mathlib.Numerals.{add-one}
use lib.Dec.{leb, ltb, eqb}
use lib.ListN.{get_or}
use borrow.Author.Tests.{eqb-true, eqb-false, eq-eqb, leb-true, leb-false, ltb-true, ltb-false}
use Rattle.blocks.specs.Choice.{pick, both}
use Rattle.blocks.specs.Lists.{any, All}
use Rattle.blocks.specs.Blocks.{block, bit, set_bit, bits_to, NextBit}
use Rattle.blocks.proofs.BoolLaws.{by_t, clash, is_false, both_l, both_r}
use Rattle.blocks.proofs.BlockLaws.{block_up, block_block}
use Rattle.blocks.proofs.BitLaws.{bits_read, bits_none}
use Rattle.blocks.proofs.ListLaws.{All-map, any_same, any_none, any_in_lem, in_any, any_keep_both}
use Rattle.model.specs.declared.Entry.{Entry}
use Rattle.model.specs.Model.{starts, within, has_mark, marks_of, matched_mark, mark_count}
use Rattle.model.specs.ByBlock.{inside, new_entry, store_new}
use Rattle.tree.specs.Tree.{slots, slot_bits, tier_order, slot_mark, has, height, needed, Node}
use Rattle.tree.proofs.HeightLaws.{height_fits, fits_i, fits_order, fits_base, fits_tall}
use Rattle.tree.proofs.NodeListLaws.{has_in}
use Rattle.tree.proofs.SlotLaws.{tier_up, empty_marks}
use Rattle.layout.specs.Words.{mark_place, mark_field, field_at}
use Rattle.layout.specs.Places.{number_in, new_places, free_count}
use Rattle.layout.specs.WellFormed.{WellFormed, num}
use Rattle.layout.proofs.FieldLaws.{level_mark_lem}
use Rattle.layout.proofs.FreshLaws.{none_over}
use Rattle.layout.proofs.NewNumberLaws.{new_at, was, was_not}
use Rattle.layout.proofs.RenderWordLaws.{pool_node, pool_marks}
use Rattle.plan.specs.Plan.{NewStore, Known}
use Rattle.plan.specs.declared.Heads.{Heads}
use Rattle.plan.specs.declared.Target.{Target}
use Rattle.plan.proofs.AfterStoreLaws.{rooms, lows, tops, new_fits, has_path, new_tall, zero_apart}
use Rattle.write.specs.Writes.{width, offset}
use Rattle.write.proofs.RunLaws.{run_fits, slot_in_run, run_slot}
use Rattle.prepare.specs.Put.{PathPlanned, AnyBit, RunMarks}

-- A MARK IN THE SLOTS OF THE RUN
module _ (l : List Entry) (i k x : ℕ) where
  abbrev v : ℕ
  v = k / slot_bits

  abbrev b₀ : ℕ
  b₀ = block (tier_order (k / slot_bits + 1)) i

  abbrev slot_at : ℕ → ℕ
  slot_at t = slots * b₀ + (offset i k + t)

  from_run : (t : ℕ) → t < width k → slot_mark l x v (slot_at t) ≡ true → any (has_mark x) (inside l i k) ≡ true
  unfolding slot_mark
  from_run t p s =
      let (e, m, r) = any_in_lem (λ e. both (starts (tier_order v) (slot_at t) e) (has_mark x e)) l s in
      any_keep_both (has_mark x) (starts k (block k i)) l ∙ in_any (λ e. both (starts k (block k i) e) (has_mark x e)) m
      (rw (eq-eqb _ _ (slot_in_run i k t p e.base (eqb-true _ _ (both_l (starts (tier_order v) (slot_at t) e) (has_mark x e) r))))
      (both_r (starts (tier_order v) (slot_at t) e) (has_mark x e) r))

  in_run_lem : any (has_mark x) (inside l i k) ≡ true → (t : ℕ) × (t < width k) × (slot_mark l x v (slot_at t) ≡ true)
  unfolding slot_mark
  in_run_lem s =
      let (e, m, r) = any_in_lem (λ e. both (starts k (block k i) e) (has_mark x e)) l
      (sym (any_keep_both (has_mark x) (starts k (block k i)) l) ∙ s) in
      let at : block k e.base ≡ block k i = eqb-true _ _ (both_l (starts k (block k i) e) (has_mark x e) r) in
      let c : ℕ = block (tier_order v) e.base in
      let u₁ : tier_order (suc v) ≡ tier_order (v + 1) = omega arith in
      let up : c / slots ≡ b₀ = sym (tier_up v e.base) ∙
      (ap (λ (y : ℕ). block y e.base) u₁ ∙ block_up {j = k} {k = tier_order (v + 1)} e.base i (omega arith) at) in
      let (t, p, q) = run_slot i k c up (sym (block_block {j = tier_order v} {k = k} e.base (omega arith)) ∙ at) in (
        t,
        p,
        in_any (λ e. both (starts (tier_order v) (slot_at t) e) (has_mark x e)) m
            (rw (eq-eqb (block (tier_order v) e.base) (slot_at t) q) (both_r (starts k (block k i) e) (has_mark x e) r)),
      )

  -- of the node's mark word
  kept_bit : {y r : ℕ} → y ≡ bits_to (λ j. slot_mark l x v (slots * b₀ + j)) slots → AnyBit y (offset i k) (width k) r →
      r ≡ pick (any (has_mark x) (inside l i k)) 1 0
  kept_bit {y} e a = by_t (any (has_mark x) (inside l i k))
      (λ s. let (t, p, q) = in_run_lem s in rw s (a.some t p (read t p ∙ rw q refl)))
      (λ s. rw s (a.none (λ t p. read t p ∙ rw (is_false (λ q. clash (from_run t p q) s)) refl)))
    where
      read : (t : ℕ) → t < width k → bit (offset i k + t) y ≡ pick (slot_mark l x v (slot_at t)) 1 0
      read t p = ap (bit (offset i k + t)) e
          ∙ bits_read (λ j. slot_mark l x v (slots * b₀ + j)) slots (offset i k + t) (omega (arith, run_fits i k))

-- marks 0 and 1 of a list
kept_sum : (a b c : Bool) → pick a 1 0 + 2 * pick b 1 0
    ≡ set_bit matched_mark false (pick a (2 ^ 0) 0 + pick b (2 ^ 1) 0 + pick c (2 ^ 2) 0)
kept_sum true true true = refl
kept_sum true true false = refl
kept_sum true false true = refl
kept_sum true false false = refl
kept_sum false true true = refl
kept_sum false true false = refl
kept_sum false false true = refl
kept_sum false false false = refl

module _ {ws : List ℕ} (s : WellFormed ws) {i k w : ℕ} (new : NewStore s.list i k w) where
  abbrev l : List Entry
  l = s.list

  abbrev l' : List Entry
  l' = store_new l i k w

  abbrev B : ℕ
  B = block (tier_order (k / slot_bits + 1)) i

  abbrev kept : ℕ
  kept = set_bit matched_mark false (marks_of (inside l i k))

  -- THE HEAD STAYS: the entry's node was there, or its number was free
  module _ (enough : needed l l' ≤ free_count s.places) (same : height l ≡ height l') (low : k / slot_bits < height l') {a : ℕ}
      (a_is : a ≡ number_in (new_places l l' s.places) (k / slot_bits + 1) B) where
    there : has l' (k / slot_bits + 1) B ≡ true
    there = has_path new (k / slot_bits + 1) (omega arith) (omega arith)

    pub node_lt : a < s.n
    node_lt = subst (λ (m : ℕ). m < s.n) (sym a_is) (new_at s.n l s.places s.placed l' enough (k / slot_bits + 1) B there).0

    word_at : (o : Option Node) → get_or s.places a none ≡ o → (x : ℕ) → x < mark_count →
        get_or ws (mark_place a x) 0 ≡ field_at l (num s) o (mark_field + x)
    word_at o e x h = pool_node s a (mark_field + x) node_lt (omega arith) ∙ ap (λ (p : Option Node). field_at l (num s) p (mark_field + x)) e

    mark_word_lem : (x : ℕ) → x < mark_count →
        get_or ws (mark_place a x) 0 ≡ bits_to (λ j. slot_mark l x (k / slot_bits) (slots * B + j)) slots
    mark_word_lem x h = by_t (has l (k / slot_bits + 1) B)
        (λ t. word_at (some (record { tier = k / slot_bits + 1; number = B }))
        (ap (λ (m : ℕ). get_or s.places m none) a_is ∙ was s.n l s.places s.placed l' enough (k / slot_bits + 1) B there t) x h
        ∙ old)
        (λ t. word_at none
        (ap (λ (m : ℕ). get_or s.places m none) a_is ∙ was_not s.n l s.places s.placed l' enough (k / slot_bits + 1) B there t) x h
        ∙ sym (bits_none (λ j. slot_mark l x (k / slot_bits) (slots * B + j)) slots (λ j g. nothing t j g)))
      where
        one : k / slot_bits + 1 ≡ suc (k / slot_bits)
        one = add-one (k / slot_bits)

        old : field_at l (num s) (some (record { tier = k / slot_bits + 1; number = B })) (mark_field + x)
            ≡ bits_to (λ j. slot_mark l x (k / slot_bits) (slots * B + j)) slots
        old = ap (λ (u : ℕ). field_at l (num s) (some (record { tier = u; number = B })) (mark_field + x)) one
            ∙ level_mark_lem l (num s) (k / slot_bits) B x h

        nothing : has l (k / slot_bits + 1) B ≡ false → (j : ℕ) → j < slots → slot_mark l x (k / slot_bits) (slots * B + j) ≡ false
        nothing t j g =
            let B₁ : ℕ = block (tier_order (suc (k / slot_bits))) i in
            let z : B ≡ B₁ = ap (λ (u : ℕ). block (tier_order u) i) one in
            let no : any (within (tier_order (suc (k / slot_bits))) B₁) l ≡ false = is_false (λ q. clash
            (has_in l (k / slot_bits + 1) B (omega arith) (subst (λ (u : ℕ). any (within (tier_order u) (block (tier_order u) i)) l ≡ true)
            (sym one) q)) t) in
            empty_marks l (k / slot_bits) B₁ no (none_over i k 0 l (rooms new) (k / slot_bits) (omega arith) no) x (slots * B + j)
            (omega (arith, z))

    pub kept_run : {r : ℕ} → RunMarks ws a (offset i k) (width k) r → r ≡ kept
    kept_run m = m.sum_is ∙ (ap (λ (y : ℕ). y + 2 * m.high) (kept_bit l i k 0 (mark_word_lem 0 (omega arith)) m.low_is)
        ∙ (ap (λ (y : ℕ). pick (any (has_mark 0) (inside l i k)) 1 0 + 2 * y) (kept_bit l i k 1 (mark_word_lem 1 (omega arith)) m.high_is)
        ∙ kept_sum (any (has_mark 0) (inside l i k)) (any (has_mark 1) (inside l i k)) (any (has_mark 2) (inside l i k))))

  -- THE HEAD GROWS
  module _ (grows : height l < height l') where
    at_zero : All (λ x. block (tier_order (height l)) x.base ≡ 0) l
    at_zero = All-map (λ x f. fits_base (height l) x f) (height_fits (lows new) (le_refl (height l)))

    -- over the whole old tree
    module _ (zero-run : block k i ≡ 0) where
      wide : tier_order (height l) ≤ k
      wide = by_t (leb (tier_order (height l)) k) (λ t. leb-true _ _ t) (λ t.
          let g : k < tier_order (height l) = leb-false _ _ t in
          let z : block (tier_order (height l)) (block k i * 2 ^ k) ≡ 0 = rw (zero-run, zero-mul, zero-div) refl in
          absurd (omega (
            arith,
            new_tall new grows,
            fits_tall (height l) (new_entry l i k w) (fits_i (height l) (new_entry l i k w) (omega arith) z),
          )))

      all_in : (x : ℕ) → any (has_mark x) l ≡ any (has_mark x) (inside l i k)
      all_in x = any_same (has_mark x) (λ e. both (starts k (block k i) e) (has_mark x e)) (All-map (λ e z.
          rw (eq-eqb (block k e.base) (block k i) (block_up {j = tier_order (height l)} {k = k} e.base 0 wide
          (z ∙ sym (zero-div (2 ^ tier_order (height l)))) ∙ (zero-div (2 ^ k) ∙ sym zero-run))) refl) at_zero)
          ∙ sym (any_keep_both (has_mark x) (starts k (block k i)) l)

      pub kept_whole : {m r : ℕ} → m ≡ get_or ws 2 0 → r ≡ set_bit matched_mark false m → r ≡ kept
      kept_whole e f = f ∙ ap (set_bit matched_mark false) (e ∙ (pool_marks s ∙ rw (all_in 0, all_in 1, all_in 2) refl))

    -- beside it
    module _ (beside : block k i ≡ 0 → ⊥) where
      none_in : (x : ℕ) → any (has_mark x) (inside l i k) ≡ false
      none_in x = any_keep_both (has_mark x) (starts k (block k i)) l
          ∙ any_none (λ e. both (starts k (block k i) e) (has_mark x e)) (All-map (λ e z t.
          zero_apart new grows (height l) grows beside e.base z
          (eqb-true _ _ (both_l (starts k (block k i) e) (has_mark x e) t))) at_zero)

      pub kept_none : 0 ≡ kept
      kept_none = rw (none_in 0, none_in 1, none_in 2) refl

-- AS THE CODE READS THEM
pub any_bit : {w y o c t r : ℕ} → NextBit slots w o t → w ≡ y → o + c ≤ slots → r ≡ pick (ltb t (o + c)) 1 0 → AnyBit y o c r
any_bit {w} {y} {o} {c} {t} n e h q = record {
  some = λ j lt b. by_t (ltb t (o + c)) (λ u. q ∙ rw u refl) (λ u.
      let g : o + c ≤ t = ltb-false _ _ u in
      let z : 0 ≡ 1 = sym (n.first (o + j) (omega arith) (omega arith)) ∙ (ap (bit (o + j)) e ∙ b) in absurd (omega arith));
  none = λ a. by_t (ltb t (o + c)) (λ u.
      let g : t < o + c = ltb-true _ _ u in
      let p : o ≤ t = n.past in
      let d : o + (t - o) ≡ t = omega arith in
      let z : 0 ≡ 1 = sym (a (t - o) (omega arith)) ∙ (ap (λ (j : ℕ). bit j y) d ∙ (ap (bit t) (sym e) ∙ n.on (omega arith))) in
      absurd (omega arith)) (λ u. q ∙ rw u refl);
}

pub any_at : {w o o' c c' r : ℕ} → o ≡ o' → c ≡ c' → AnyBit w o c r → AnyBit w o' c' r
any_at {w} {o} {o'} {c} {c'} {r} e f a = subst (λ (x : ℕ). AnyBit w x c' r) e (subst (λ (x : ℕ). AnyBit w o x r) f a)

module _ {ws : List ℕ} (s : WellFormed ws) {target : Target} {heads : Heads} {ps : List ℕ} (p : PathPlanned s target heads ps) where
  abbrev i : ℕ
  i = target.index

  abbrev k : ℕ
  k = target.order

  abbrev known : Known s.list target heads
  known = p.planned.known

  abbrev L' : List Entry
  L' = store_new s.list target.index target.order target.word

  low_node : k / slot_bits < height L'
  low_node = omega (arith, fits_order (height L') (new_entry s.list i k target.word) (new_fits known.new), known.top_is, known.some_node)

  same_top : heads.old ≡ heads.new → height s.list ≡ height L'
  same_top e = sym known.h_is ∙ (e ∙ known.top_is)

  higher : (heads.old ≡ heads.new → ⊥) → height s.list < height L'
  higher n = let q : height s.list ≡ height L' → ⊥ = λ z. n (known.h_is ∙ (z ∙ sym known.top_is)) in
      omega (arith, tops known.new)

  path_node : get_or ps (k / slot_bits + 1) 0
      ≡ number_in (new_places s.list L' s.places) (k / slot_bits + 1) (block (tier_order (k / slot_bits + 1)) i)
  path_node = p.planned.plan.path_is (k / slot_bits + 1) (omega arith) (omega (arith, low_node))

  pub planned_lt : heads.old ≡ heads.new → get_or ps (k / slot_bits + 1) 0 < s.n
  planned_lt e = node_lt s known.new p.planned.enough (same_top e) low_node path_node

  pub planned_run : heads.old ≡ heads.new → {r : ℕ} → RunMarks ws (get_or ps (k / slot_bits + 1) 0) (offset i k) (width k) r →
      r ≡ set_bit matched_mark false (marks_of (inside s.list target.index target.order))
  planned_run e = kept_run s known.new p.planned.enough (same_top e) low_node path_node

  pub planned_whole : (heads.old ≡ heads.new → ⊥) → eqb (block k i) 0 ≡ true → heads.marks ≡ get_or ws 2 0 → {r : ℕ} →
      r ≡ set_bit matched_mark false heads.marks →
      r ≡ set_bit matched_mark false (marks_of (inside s.list target.index target.order))
  planned_whole n z e = kept_whole s known.new (higher n) (eqb-true (block k i) 0 z) e

  pub planned_none : (heads.old ≡ heads.new → ⊥) → eqb (block k i) 0 ≡ false →
      0 ≡ set_bit matched_mark false (marks_of (inside s.list target.index target.order))
  planned_none n z = kept_none s known.new (higher n) (eqb-false (block k i) 0 z)
