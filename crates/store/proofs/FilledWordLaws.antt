-- The filled counts of the nodes after a store, and which of them stand already.
use Prim.Native.Nat.{ℕ, suc, ◌+◌, ◌*◌, ◌-◌, ◌/◌, ◌≤◌, ◌<◌}
use mathlib.Core.Path.{◌≡◌, refl, sym, ap, subst, ◌∙◌}
use mathlib.Core.Bool.{true, false, not}
use mathlib.Core.List.{List}
use mathlib.Core.Option.{Option, none, some}
use mathlib.Core.Logic.{inl, inr}
use native.Mathlib.Omega.{arith}
use native.Mathlib.Numerals.{add-one}
use lib.Dec.{T, eqb}
use lib.ListN.{get_or}
use Rattle.blocks.specs.Lists.{any, All, nonempty}
use Rattle.blocks.specs.Blocks.{block, count_to}
use Rattle.blocks.proofs.BoolLaws.{by_t, clash, is_false}
use Rattle.blocks.proofs.CountLaws.{count_le}
use Rattle.model.specs.declared.Entry.{Entry}
use Rattle.model.specs.Model.{within, enterable}
use Rattle.model.specs.ByBlock.{store_new}
use Rattle.model.proofs.RangeLaws.{Apart}
use Rattle.tree.specs.Tree.{has, height, Node, tier_order, slots, slot_bits}
use Rattle.tree.specs.Slots.{slot, Numbering}
use Rattle.tree.proofs.NeededLaws.{path_up}
use Rattle.tree.proofs.NodeListLaws.{has_within}
use Rattle.layout.specs.Words.{filled_field, filled_place, field_at, filled_of, slot_word}
use Rattle.layout.specs.Places.{Places, number_in, new_places}
use Rattle.layout.specs.WellFormed.{WellFormed, num}
use Rattle.layout.proofs.FieldLaws.{field_filled}
use Rattle.layout.proofs.RenderWordLaws.{pool_node}
use Rattle.plan.specs.Plan.{NewStore}
use Rattle.plan.proofs.AfterStoreLaws.{has_path, new_lies, fresh_node, zero_apart, has_zero}
use Rattle.write.specs.Writes.{width, offset}
use Rattle.store.proofs.SlotCountLaws.{filled_at, filled_at_lem, filled_any, full_node, apart_count, path_count, path_slot, empty_count}
use Rattle.store.proofs.SlotCountLaws.{entry_count, entry_new, entry_whole, run_none, zero_count}
use Rattle.store.proofs.FinalWordLaws.{Right, Counts}
use Rattle.store.proofs.NewWordLaws.{field₁_filled, X, X-node, Enough, FilledCounts}
use Rattle.store.proofs.PathWordLaws.{start_old, Numbered}
use Rattle.store.proofs.FreedLaws.{Clear}

-- an entry's word is not 0
pub enterable_some : (k w : ℕ) → T (enterable k w) → w ≡ 0 → ⊥
enterable_some k w t z = rw z at t

-- a count is at most 64
pub filled_bound : {ws : List ℕ} (s : WellFormed ws) (m : ℕ) → m < s.n → get_or ws (filled_place m) 0 ≤ slots
filled_bound s m h = rw (pool_node s m filled_field h (omega arith)) (go (get_or s.places m none))
  where
    go : (o : Option Node) → field_at s.list (num s) o filled_field ≤ slots
    go none = omega arith
    go (some p) = rw (field_filled s.list (num s) p.tier p.number)
        (count_le (λ o. not (eqb (slot_word s.list (num s) p.tier p.number o) 0)) slots)

-- WHAT THE COUNTS ARE TO BE
module _ {n : ℕ} {l : List Entry} {os : Places} {i k w : ℕ} (new : NewStore l i k w)
    (enough : Enough n l os (store_new l i k w)) (some_word : w ≡ 0 → ⊥) where
  abbrev l' : List Entry
  l' = store_new l i k w

  abbrev ν' : Numbering
  ν' = number_in (new_places l l' os)

  abbrev v : ℕ
  v = k / slot_bits

  abbrev Y : ℕ → ℕ
  Y = X enough

  abbrev path : ℕ → ℕ
  path t = block (tier_order t) i

  pub filled_is : (u b : ℕ) → has l' (suc u) b ≡ true → Y (filled_place (ν' (suc u) b)) ≡ filled_at l' ν' u b
  filled_is u b t = X-node enough (suc u) b filled_field t (omega arith) ∙ field₁_filled l l' ν' u b

  path_is : (u : ℕ) → v ≤ u → suc u ≤ height l' → Y (filled_place (ν' (suc u) (path (suc u)))) ≡ filled_at l' ν' u (path (suc u))
  path_is u a b = filled_is u (path (suc u)) (has_path new (suc u) (omega arith) b)

  entry_is : v < height l' → Y (filled_place (ν' (v + 1) (path (v + 1)))) ≡ filled_at l' ν' v (path (v + 1))
  entry_is a = subst (λ (y : ℕ). Y (filled_place (ν' y (path y))) ≡ filled_at l' ν' v (path y)) (sym (add-one v))
      (path_is v (omega arith) (omega arith))

  -- a node over an empty slot of the path gets one more, and has it alone if it is new
  pub path_more : (u : ℕ) → v < u → suc u ≤ height l' → any (within (tier_order u) (path u)) l ≡ false →
      filled_at l ν' u (path (suc u)) + 1 ≡ Y (filled_place (ν' (suc u) (path (suc u))))
  path_more u a b e =
      let z : slot l ν' u (path u) ≡ 0 = path_slot new ν' u (omega arith) e in
      let q : filled_at l' ν' u (path (suc u)) + 0 ≡ filled_at l ν' u (path (suc u)) + 1 =
      path_count new ν' u (omega arith) false (rw z) in
      omega (arith, q, path_is u (omega arith) b)

  pub path_one : (u : ℕ) → v < u → suc u ≤ height l' → any (within (tier_order (suc u)) (path (suc u))) l ≡ false →
      1 ≡ Y (filled_place (ν' (suc u) (path (suc u))))
  path_one u a b e =
      omega (
        arith,
        path_more u a b (is_false (λ t. clash (path_up i {j = tier_order u} {k = tier_order (suc u)} l (omega arith) t) e)),
        empty_count new ν' u (omega arith) e,
      )

  -- the entry's node: those of its slots that were filled count no more
  pub entry_one : v < height l' → any (within (tier_order (v + 1)) (path (v + 1))) l ≡ false →
      width k ≡ Y (filled_place (ν' (v + 1) (path (v + 1))))
  entry_one a e = sym (entry_is a ∙ entry_new new ν' some_word e)

  pub entry_then : v < height l' →
      filled_at l ν' v (path (v + 1)) + width k - count_to (λ t. not (eqb (slot l ν' v (slots * path (v + 1) + (offset i k + t))) 0)) (width k) ≡
      Y (filled_place (ν' (v + 1) (path (v + 1))))
  entry_then a = omega (arith, entry_is a, entry_count new ν' some_word)

  pub entry_more : v < height l' → All (λ x. block k x.base ≡ block k i → ⊥) l →
      filled_at l ν' v (path (v + 1)) + width k ≡ Y (filled_place (ν' (v + 1) (path (v + 1))))
  entry_more a z = omega (
    arith,
    entry_is a,
    entry_count new ν' some_word,
    run_none new ν' z,
  )

  pub entry_all : v < height l' → height l < height l' → block k i ≡ 0 → width k ≡ Y (filled_place (ν' (v + 1) (path (v + 1))))
  entry_all a g e = sym (entry_is a ∙ entry_whole new ν' some_word g e)

  -- a node between the heads
  pub chain_one : height l < height l' → nonempty l ≡ true → (block k i ≡ 0 → ⊥) → (u : ℕ) → height l ≤ u →
      suc u < height l' → 1 ≡ Y (filled_place (ν' (suc u) 0))
  chain_one g s d u a b = sym (filled_is u 0 (has_zero new g (suc u) (omega arith) (omega arith) (omega arith) s d) ∙
      (apart_count new ν' u 0 (zero_apart new g (suc u) b d) ∙
      zero_count new ν' u a s))

-- WHICH STAND ALREADY
module _ {n : ℕ} {l : List Entry} {os : Places} {i k w : ℕ} {ps cs ws : List ℕ} (plan : Numbered n l os i k w ps cs)
    (clear : Clear n l os (store_new l i k w) ws) (some_word : w ≡ 0 → ⊥) where
  abbrev L' : List Entry
  L' = store_new l i k w

  abbrev N' : Numbering
  N' = number_in (new_places l L' os)

  abbrev R : ℕ → List ℕ → Type 0
  R = Right n (X plan.enough)

  -- the count that a node had
  pub was_filled : (u b : ℕ) → has L' (suc u) b ≡ true → has l (suc u) b ≡ true →
      get_or ws (filled_place (N' (suc u) b)) 0 ≡ filled_at l N' u b
  was_filled u b t o =
      let e : suc u - 1 ≡ u = omega arith in
      start_old plan clear (suc u) b filled_field t o
      (omega arith) ∙ (field_filled l (number_in os) (suc u) b ∙
      (ap (λ (y : ℕ). filled_of (λ o. slot l (number_in os) y (slots * b + o))) e ∙
      (filled_at_lem l (number_in os) u b ∙ filled_any l (number_in os) N' u b)))

  stays_right : (u b : ℕ) → has L' (suc u) b ≡ true → has l (suc u) b ≡ true → filled_at L' N' u b ≡ filled_at l N' u b →
      R (filled_place (N' (suc u) b)) ws
  stays_right u b t o e = record {
    is = was_filled u b t o ∙ sym (filled_is plan.new plan.enough some_word u b t ∙ e);
  }

  -- on the path, over a node that was there
  pub path_stays : (u : ℕ) → k / slot_bits < u → has L' (suc u) (block (tier_order (suc u)) i) ≡ true →
      has l (suc u) (block (tier_order (suc u)) i) ≡ true → has l u (block (tier_order u) i) ≡ true →
      R (filled_place (N' (suc u) (block (tier_order (suc u)) i))) ws
  path_stays u a t o c =
      let p : filled_at L' N' u (block (tier_order (suc u)) i) + 1 ≡ filled_at l N' u (block (tier_order (suc u)) i) + 1 =
      path_count plan.new N' u (omega arith) true
      (full_node l N' u (block (tier_order u) i) (has_within l u (block (tier_order u) i) c)) in
      stays_right u (block (tier_order (suc u)) i) t o (omega arith)

  -- all counts are right if those of the path and of new nodes over block 0 are
  pub all_filled : {ws₁ : List ℕ} → Counts n (X plan.enough) ws ws₁ →
      ((u : ℕ) → k / slot_bits ≤ u → has L' (suc u) (block (tier_order (suc u)) i) ≡ true →
      R (filled_place (N' (suc u) (block (tier_order (suc u)) i))) ws₁) →
      ((u : ℕ) → has L' (suc u) 0 ≡ true → height l < suc u → nonempty l ≡ true → Apart i k (tier_order (suc u)) 0 →
      R (filled_place (N' (suc u) 0)) ws₁) →
      FilledCounts plan.enough ws ws₁
  all_filled {ws₁} counts on_path_lem fresh = record {
    counts = counts;
    right = λ u b t. elim (new_lies plan.new (suc u) b t) [
      | inl p ↦ subst (λ (c : ℕ). has L' (suc u) c ≡ true → R (filled_place (N' (suc u) c)) ws₁) (sym p.1)
          (on_path_lem u (omega (arith, p.0))) t
      | inr a ↦ by_t (has l (suc u) b)
          (λ o. counts.keep _ (stays_right u b t o (apart_count plan.new N' u b a)))
          (λ o. elim (fresh_node plan.new (suc u) b t o) [
            | inl p ↦ absurd (a i (sym p.2) refl)
            | inr p ↦ subst (λ (c : ℕ). has L' (suc u) c ≡ true → Apart i k (tier_order (suc u)) c →
                R (filled_place (N' (suc u) c)) ws₁) (sym p.2) (λ h x. fresh u h p.0 p.1 x) t a
          ])
    ];
  }
