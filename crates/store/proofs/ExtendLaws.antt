-- A store over which the head grows, with nothing of the old tree in the target range.
use Prim.Native.Nat.{ℕ, suc, ◌+◌, ◌-◌, ◌/◌, ◌^◌, ◌≤◌, ◌<◌, max}
use mathlib.Core.Path.{◌≡◌, refl, sym, ap, subst, ◌∙◌}
use mathlib.Core.Bool.{Bool, true, false, not}
use mathlib.Core.List.{List, [], ◌∷◌}
use native.Mathlib.Omega.{arith}
use native.Mathlib.Nat.{le_refl}
use native.Mathlib.Numerals.{add-one}
use lib.Dec.{T, ltb, eqb}
use lib.ListN.{length, get_or}
use borrow.Author.Tests.{eqb-true, eqb-false, ltb-true, eq-eqb, ne_eqb}
use Rattle.blocks.specs.Choice.{pick, both, either}
use Rattle.blocks.specs.Lists.{any, All, nonempty}
use Rattle.blocks.specs.Blocks.{block}
use Rattle.blocks.proofs.BoolLaws.{by_t, clash, both_l, both_r}
use Rattle.blocks.proofs.BlockLaws.{block_up}
use Rattle.blocks.proofs.ListLaws.{each, look, any_none}
use Rattle.model.specs.declared.Entry.{Entry}
use Rattle.model.specs.Model.{enterable, within}
use Rattle.model.specs.ByBlock.{store_new}
use Rattle.tree.specs.Tree.{height, tier_order, slot_bits}
use Rattle.tree.specs.Slots.{slot, Numbering}
use Rattle.tree.proofs.HeightLaws.{height_fits, fits_base}
use Rattle.tree.proofs.NodeListLaws.{has_le}
use Rattle.tree.proofs.StoreLaws.{within_only}
use Rattle.layout.specs.Words.{filled_place, last_place}
use Rattle.layout.specs.Places.{Places, number_in, new_places, render}
use Rattle.layout.specs.WellFormed.{WellFormed}
use Rattle.layout.proofs.RenderWordLaws.{pool_length_lem}
use Rattle.lookup.proofs.StepLaws.{in_nonempty}
use Rattle.freenodes.specs.FreeNodes.{FreeMap}
use Rattle.plan.proofs.AfterStoreLaws.{lows, path_zero, has_path, zero_apart, has_zero}
use Rattle.plan.proofs.WalkLaws.{head_zero}
use Rattle.write.specs.Writes.{width, offset, linked, entered, ones, path_counts, grown_counts, extended}
use Rattle.std.specs.Prelude.{Ok}
use Rattle.store.specs.Stored.{Stores, entry_of, Prepared}
use Rattle.store.proofs.SlotCountLaws.{filled_at, empty_count, zero_count}
use Rattle.store.proofs.FinalWordLaws.{Long, Right, Counts, counts_none, OneAt, ones_counts, ones_makes, PathFinal, path_counts_lem}
use Rattle.store.proofs.FinalWordLaws.{path_makes}
use Rattle.store.proofs.NewWordLaws.{X, num_lt, FilledCounts}
use Rattle.store.proofs.PathWordLaws.{v_lt, Numbered}
use Rattle.store.proofs.FilledWordLaws.{enterable_some, path_more, path_one, entry_one, entry_more, chain_one, all_filled}
use Rattle.store.proofs.RebuildLaws.{path_lt, chain_lt, head_is, marks_is, some_is, numbered}
use Rattle.store.proofs.EmptyRangeLaws.{map_left, stores_unmarked, path_chain_entry, none_cleared}
use Rattle.plan.specs.declared.Target.{Target}
use Rattle.plan.specs.declared.Heads.{Heads}

-- the chain is made if there is an old tree
chained_if : (b e z : Bool) (x y v : List ℕ) → both b (either e (not z)) ≡ true →
    pick e y x ≡ pick b (pick (both (not e) (not z)) x y) v
chained_if true true z x y v q = refl
chained_if true false false x y v q = refl
chained_if true false true x y v q = absurd (clash q refl)
chained_if false e z x y v q = absurd (clash q refl)

-- as the code has it
module _ {ws : List ℕ} (s : WellFormed ws) {ps cs ms : List ℕ} {target : Target} {heads : Heads} {head m : ℕ}
    (r : Prepared s.list s.places ps cs ms target heads) (head_read : head ≡ get_or ws 1 0) (marks-read : m ≡ get_or ws 2 0)
    (beside : both (ltb heads.old heads.new) (either (eqb head 0) (not (eqb (block target.order target.index) 0))) ≡ true)
  where
    abbrev i : ℕ
    i = target.index

    abbrev k : ℕ
    k = target.order

    abbrev w : ℕ
    w = target.word

    abbrev h : ℕ
    h = heads.old

    abbrev top : ℕ
    top = heads.new

    abbrev l : List Entry
    l = s.list

    above : h < top
    above = ltb-true _ _ (both_l (ltb h top) _ beside)

    grows : height l < height (store_new l i k w)
    grows = omega (arith, above, r.known.h_is, r.known.top_is)

    -- an old tree lies outside the target range
    apart : nonempty l ≡ true → block k i ≡ 0 → ⊥
    apart t z =
        let e : not (eqb head 0) ≡ true = some_is s r head_read marks-read ∙ t in
        let y : either (eqb head 0) (not (eqb (block k i) 0)) ≡ true = both_r (ltb h top) _ beside in
        by_t (eqb head 0)
        (λ u. clash {b = not (eqb head 0)} e (rw u refl))
        (λ u. clash {b = either (eqb head 0) (not (eqb (block k i) 0))} y (rw (u, eq-eqb _ _ z) refl))

    -- nothing starts in the target range: each entry lies under the old head, which is apart from it
    none_start : All (λ x. block k x.base ≡ block k i → ⊥) l
    none_start = each l (λ x e q. zero_apart r.known.new grows (height l) grows
        (λ z. apart (in_nonempty e) z) x.base
        (fits_base (height l) x (look (height_fits (lows r.known.new) (le_refl _)) e)) q)

    -- THE COUNTS
    abbrev l₁ : List Entry
    l₁ = store_new l i k w

    abbrev os₁ : Places
    os₁ = new_places l l₁ s.places

    abbrev ν₁ : Numbering
    ν₁ = number_in os₁

    abbrev v : ℕ
    v = k / slot_bits

    plan : Numbered s.n l s.places i k w ps cs
    plan = numbered s r

    abbrev Y : ℕ → ℕ
    Y = X plan.enough

    v_top : v < height l₁
    v_top = v_lt plan

    lg : Long s.n Y ws
    lg = record { len = pool_length_lem s }

    -- nothing lies in a block of the path below the new head
    nothing_at : (t : ℕ) → t < height l₁ → any (within (tier_order t) (block (tier_order t) i)) l ≡ false
    nothing_at t lt = any_none (within (tier_order t) (block (tier_order t) i)) (each l (λ x m e.
        let g : ℕ = max t (height l) in
        let f : block (tier_order (max t (height l))) x.base ≡ 0 = fits_base (max t (height l)) x
        (look (height_fits (lows r.known.new) (omega arith)) m) in
        let q : block (tier_order (max t (height l))) i ≡ 0 = sym (block_up {j = tier_order t} {k = tier_order (max t (height l))} x.base i
        (omega arith) (within_only (tier_order t) (block (tier_order t) i) x e)) ∙ f in
        zero_apart r.known.new grows (max t (height l)) (omega (arith, grows)) (apart (in_nonempty m)) i q refl))

    module _ (some_word : w ≡ 0 → ⊥) where
      -- what the new head has of the old tree
      top_filled : (u e : ℕ) → suc u ≡ height l₁ → (nonempty l ≡ true → e ≡ 1) → (nonempty l ≡ false → e ≡ 0) →
          filled_at l ν₁ u (block (tier_order (suc u)) i) ≡ e
      top_filled u e q some-l none-l = by_t (nonempty l)
          (λ t. ap (λ (b : ℕ). filled_at l ν₁ u b) (ap (λ (y : ℕ). block (tier_order y) i) q ∙ path_zero r.known.new) ∙
          (zero_count r.known.new ν₁ u (omega (arith, grows)) t ∙ sym (some-l t)))
          (λ t. empty_count r.known.new ν₁ u (omega (arith, v_top))
          (any_empty_lem (within (tier_order (suc u)) (block (tier_order (suc u)) i)) l t) ∙ sym (none-l t))
        where
          any_empty_lem : (p : Entry → Bool) (l : List Entry) → nonempty l ≡ false → any p l ≡ false
          any_empty_lem p [] t = refl
          any_empty_lem p (x ∷ l) t = absurd (clash refl t)

      final : (e : ℕ) → (nonempty l ≡ true → e ≡ 1) → (nonempty l ≡ false → e ≡ 0) → PathFinal s.n Y ps k (height l₁) e
      final e some-l none-l = record {
        low = v_top;
        nodes = λ t a b. rw (r.plan.path_is t a b) (num_lt plan.enough t (block (tier_order t) i)
            (has_path r.known.new t (omega arith) b));
        alone = λ q. let d : suc v ≡ height l₁ = omega arith in
            rw (r.plan.path_is (height l₁) v_top (le_refl _))
            (subst (λ (y : ℕ). e + width k ≡ Y (filled_place (ν₁ y (block (tier_order y) i)))) q
            (subst (λ (y : ℕ). y + width k ≡ Y (filled_place (ν₁ (v + 1) (block (tier_order (v + 1)) i))))
            (ap (λ (y : ℕ). filled_at l ν₁ v (block (tier_order y) i)) (add-one v) ∙ top_filled v e d some-l none-l)
            (entry_more r.known.new plan.enough some_word v_top none_start)));
        highest = λ ne. let d : suc (height l₁ - 1) ≡ height l₁ = omega (arith, plan.some_node) in
            rw (r.plan.path_is (height l₁) v_top (le_refl _))
            (subst (λ (y : ℕ). e + 1 ≡ Y (filled_place (ν₁ y (block (tier_order y) i)))) d
            (subst (λ (y : ℕ). y + 1 ≡ Y (filled_place (ν₁ (suc (height l₁ - 1)) (block (tier_order (suc (height l₁ - 1))) i))))
            (top_filled (height l₁ - 1) e d some-l none-l)
            (path_more r.known.new plan.enough some_word (height l₁ - 1)
            (omega (arith, v_top)) (omega arith) (nothing_at (height l₁ - 1) (omega (arith, plan.some_node))))));
        lowest = λ ne. rw (r.plan.path_is (v + 1) (omega arith) (omega (arith, v_top)))
            (entry_one r.known.new plan.enough some_word v_top
            (nothing_at (v + 1) (omega (arith, v_top))));
        between = λ t a b. let d : suc (t - 1) ≡ t = omega arith in
            rw (r.plan.path_is t (omega arith) (omega arith))
            (subst (λ (y : ℕ). 1 ≡ Y (filled_place (ν₁ y (block (tier_order y) i)))) d
            (path_one r.known.new plan.enough some_word (t - 1) (omega arith)
            (omega arith) (subst (λ (y : ℕ). any (within (tier_order y) (block (tier_order y) i)) l ≡ false) (sym d)
            (nothing_at t b))));
      }

      all_right : {ws₁ : List ℕ} → Counts s.n Y ws ws₁ →
          ((t : ℕ) → v < t → t ≤ height l₁ → Right s.n Y (filled_place (get_or ps t 0)) ws₁) →
          ((t : ℕ) → height l < t → t < height l₁ → nonempty l ≡ true → Right s.n Y (filled_place (ν₁ t 0)) ws₁) →
          FilledCounts plan.enough ws ws₁
      all_right {ws₁} counts on chain = all_filled plan (none_cleared s r.known.new none_start plan.enough) some_word counts
          (λ u a t. let le : suc u ≤ height l₁ = has_le l₁ (suc u) (block (tier_order (suc u)) i) t in
          rw (← r.plan.path_is (suc u) (omega arith) le) (on (suc u) (omega arith) le))
          (λ u t g e a. let le : suc u ≤ height l₁ = has_le l₁ (suc u) 0 t in
          by_t (eqb (suc u) (height l₁))
          (λ z. absurd (a i (ap (λ (y : ℕ). block (tier_order y) i) (eqb-true _ _ z) ∙ path_zero r.known.new) refl))
          (λ z. let ne : suc u ≡ height l₁ → ⊥ = eqb-false _ _ z in chain (suc u) g (omega arith) e))

      abbrev word : ℕ
      word = slot l (number_in s.places) (height l) 0

      abbrev w₁ : List ℕ
      w₁ = grown_counts ws ps cs k (height l) (height l₁) word

      some_word_is : not (eqb word 0) ≡ nonempty l
      some_word_is = head_zero l (number_in s.places) s.valid

      counted : FilledCounts plan.enough ws w₁
      unfolding grown_counts
      counted = by_t (eqb word 0)
          (λ z. let none-l : nonempty l ≡ false = sym some_word_is ∙ rw z in
          let g : PathFinal s.n Y ps k (height l₁) 0 = final 0 (λ t. absurd (clash t none-l)) (λ t. refl) in
          let c : Counts s.n Y ws (path_counts ws ps k (height l₁) 0) = path_counts_lem s.n Y g lg in
          rw z (all_right c (λ t a b. path_makes s.n Y g lg t a b) (λ t a b e. absurd (clash e none-l))))
          (λ z. let some-l : nonempty l ≡ true = sym some_word_is ∙ rw z in
          let g : PathFinal s.n Y ps k (height l₁) 1 = final 1 (λ t. refl) (λ t. absurd (clash some-l t)) in
          let c : Counts s.n Y ws (path_counts ws ps k (height l₁) 1) = path_counts_lem s.n Y g lg in
          let one : (t : ℕ) → height l + 1 ≤ t → t < height l + 1 + (height l₁ - (height l + 1)) → OneAt s.n Y cs t = λ t a b.
          let d : suc (t - 1) ≡ t = omega arith in
          let p : get_or cs t 0 ≡ ν₁ t 0 = r.plan.chain_is grows some-l (apart some-l) t (omega arith) (omega arith) (omega arith) in
          record {
            c_lt = rw p (num_lt plan.enough t 0
                (has_zero r.known.new grows t (omega arith) (omega arith) (omega arith) some-l (apart some-l)));
            is_one = rw p (subst (λ (y : ℕ). 1 ≡ Y (filled_place (ν₁ y 0))) d
                (chain_one r.known.new plan.enough some_word grows some-l (apart some-l) (t - 1)
                (omega arith) (omega arith)));
          } in
          let c' : Counts s.n Y ws (ones cs (path_counts ws ps k (height l₁) 1) (height l + 1) (height l₁ - (height l + 1))) =
          ones_counts s.n Y cs (height l + 1) (height l₁ - (height l + 1)) c one in
          let c'' : Counts s.n Y (path_counts ws ps k (height l₁) 1)
          (ones cs (path_counts ws ps k (height l₁) 1) (height l + 1) (height l₁ - (height l + 1))) =
          ones_counts s.n Y cs (height l + 1) (height l₁ - (height l + 1)) (counts_none s.n Y c.long) one in
          rw z (all_right c' (λ t a b. c''.keep _ (path_makes s.n Y g lg t a b))
          (λ t a b e. rw (← r.plan.chain_is grows some-l (apart some-l) t (omega arith) (omega arith) (omega arith))
          (ones_makes s.n Y cs (height l + 1) (height l₁ - (height l + 1)) c.long one t (omega arith) (omega arith)))))

    words : {ws' : List ℕ} → T (enterable k w) → ws' ≡ extended ws ps cs i k w h top head m →
        ws' ≡ render (store_new l i k w) (new_places l (store_new l i k w) s.places) s.n
    unfolding extended
    words st e =
        e ∙ (ap (λ (y : List ℕ). entered y (get_or ps (k / slot_bits + 1) 0) (offset i k) (width k) w)
        (chained_if (ltb h top) (eqb head 0) (eqb (block k i) 0) _ _
        (linked (grown_counts ws ps cs k h top head) ps i (k / slot_bits) top) beside) ∙ rw (
          some_is s r head_read marks-read,
          head_is s r head_read marks-read,
          marks_is s r head_read marks-read,
          r.known.h_is,
          r.known.top_is,
        )
        (path_chain_entry s plan none_start (counted (enterable_some k w st))))

    -- what the writes need
    pub beside_fits : (h < top) × ((u : ℕ) → k / slot_bits + 1 ≤ u → u ≤ top → last_place (get_or ps u 0) < length ws) ×
        ((head ≡ 0 → ⊥) → (u : ℕ) → h ≤ u → 1 ≤ u → u ≤ top → last_place (get_or cs u 0) < length ws)
    beside_fits =
        let len = pool_length_lem s in (
          above,
          λ u a b. omega (arith, len, path_lt s r u a b),
          λ ne u a b c. omega (arith, len, chain_lt s r head_read marks-read above (chained ne) u a b c),
        )
      where
        chained : (head ≡ 0 → ⊥) → both (not (eqb head 0)) (not (eqb (block k i) 0)) ≡ true
        chained ne = rw (ne_eqb head 0 ne) (rw (ne_eqb head 0 ne) at (both_r (ltb h top) _ beside))

    pub beside_done : {ws' : List ℕ} {e : Entry} → T (enterable k w) → e ≡ entry_of i k w 0 → ws' ≡ extended ws ps cs i k w h top head m →
        Stores s.n l s.places (store_new l i k w) i ws ws' (Ok e)
    beside_done st q e = stores_unmarked s r.known.new none_start plan.enough q (words st e)

    pub beside_map : {ws' : List ℕ} → T (enterable k w) → w < 2 ^ 64 → ws' ≡ extended ws ps cs i k w h top head m → FreeMap ws' ms
    beside_map st w< e = map_left s r.known.new none_start plan.enough st w< (words st e) r.left
