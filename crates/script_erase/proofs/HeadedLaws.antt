-- The head's row tells whether the head goes, and what is the head then.
use Prim.Native.Nat.{ℕ, suc, ◌/◌, ◌≤◌, ◌<◌}
use mathlib.Core.Path.{◌≡◌, refl, sym, ap, subst, ◌∙◌}
use mathlib.Core.Bool.{true, false}
use mathlib.Core.Logic.{◌⊎◌, inl, inr}
use mathlib.Core.List.{List}
use native.Mathlib.Omega.{arith}
use lib.Dec.{eqb, leb}
use lib.ListN.{length, get_or}
use borrow.Author.Tests.{eqb-true, eqb-false, leb-true, leb-false}
use Rattle.blocks.specs.Lists.{any}
use Rattle.blocks.proofs.BoolLaws.{by_t, clash}
use Rattle.model.specs.declared.Entry.{Entry}
use Rattle.model.specs.Model.{within}
use Rattle.model.proofs.ValidLaws.{sorted_ok}
use Rattle.tree.specs.Tree.{slot_bits, top_tier, tier_order, height, has}
use Rattle.tree.specs.Slots.{slot, node_word}
use Rattle.tree.proofs.EraseLaws.{shrunk}
use Rattle.tree.proofs.ReadLaws.{see, seen_node}
use Rattle.tree.proofs.NodeListLaws.{has_in}
use Rattle.tree.proofs.SlotLaws.{node_empty}
use Rattle.layout.specs.Words.{filled_place, slot_place, last_place, filled_of}
use Rattle.layout.specs.Fill.{cleared}
use Rattle.layout.specs.Pool.{slot_of, child_of}
use Rattle.layout.specs.Reading.{is_node}
use Rattle.layout.specs.WellFormed.{WellFormed, num}
use Rattle.layout.proofs.NodeLaws.{get_filled, get_slot}
use Rattle.layout.proofs.RenderWordLaws.{slot_node, pool_head}
use Rattle.layout.proofs.SaysLaws.{node_word_of, is_node_word, child_is}
use Rattle.erase.proofs.FilledLaws.{filled_none, filled_zero}
use Rattle.script_rows.proofs.HeadLaws.{head_drops, head_stays, lows}
use Rattle.script_erase.specs.Erased.{Erases, Lowered, Drops, Taken, Headed, Landed}
use Rattle.script_erase.proofs.ErasesLaws.{top_zero, within_left}
use Rattle.script_erase.proofs.LoweredLaws.{head_words}
use Rattle.script_erase.proofs.StepLaws.{lowered_flat, lowered_taken}

-- THE OLD HEAD
module _ {ws : List ℕ} (s : WellFormed ws) {i k top : ℕ} {l' : List Entry} (E : Erases s i k top l') {rs ns : List ℕ}
    (L : Lowered s i (k / slot_bits) top top l' rs ns) (there : any (within (tier_order top) 0) l' ≡ true) where
  pub headed_top : k / slot_bits < top → {w : ℕ} → w ≡ get_or ws 1 0 → Headed s i (k / slot_bits) top top l' rs ns w top
  headed_top low e = record {
    lowered = L;
    there = there;
    row_is = record { on = λ _ _. refl; off = λ o. absurd (o low (top_zero s E low)) };
    word_is = e ∙ (pool_head s ∙ (ap (λ (u : ℕ). slot s.list (num s) u 0) (sym E.there.top_is)
        ∙ (slot_node s.list (num s) top 0 (within_left s E top 0 there) ∙ sym (slot_node l' (num s) top 0 there))));
  }

-- THE HEAD OF TIER t + 1
module _ {ws : List ℕ} (s : WellFormed ws) {i k top t : ℕ} {l' : List Entry} (E : Erases s i k top l') {rs ns : List ℕ} {w r : ℕ}
    (H : Headed s i (k / slot_bits) top (suc t) l' rs ns w r) (le : suc t ≤ top) where
  pub filled_is : get_or rs (filled_place r) 0 ≡ filled_of (λ j. slot l' (num s) t j)
  filled_is = get_filled rs r l' (num s) (suc t) t 0 (head_words s E H.lowered le H.there H.row_is)

  slot_is : get_or rs (slot_place r 0) 0 ≡ slot l' (num s) t 0
  slot_is = get_slot rs r l' (num s) (suc t) t 0 (head_words s E H.lowered le H.there H.row_is) 0 (omega arith)

  pub some_filled : filled_of (λ j. slot l' (num s) t j) ≡ 0 → ⊥
  some_filled z = clash H.there (node_empty l' (num s) t 0 (sorted_ok E.valid)
      (λ d q. filled_zero (slot l' (num s) t) z d (omega arith)))

  node_there : is_node (slot l' (num s) t 0) ≡ true → any (within (tier_order t) 0) l' ≡ true
  node_there e =
      let (m, q) = node_word_of (slot l' (num s) t 0) e in
      let g : slot l' (num s) t 0 ≡ node_word m = q in
      (seen_node l' (num s) t 0 (slot l' (num s) t 0) (see l' (num s) t 0 (sorted_ok E.valid)) (omega arith) (omega arith)).0

  -- it stays
  pub headed_stays : Drops rs r (suc t) false → height l' ≡ suc t
  headed_stays d = by_t (eqb (slot l' (num s) t 0) 0)
      (λ z. by_t (leb (height l') t) (λ g. absurd (empty (eqb-true _ _ z) (leb-true _ _ g)))
      (λ g. let g' : t < height l' = leb-false _ _ g in omega (arith, H.lowered.fit)))
      (λ z. let ne : slot l' (num s) t 0 ≡ 0 → ⊥ = eqb-false _ _ z in
      head_stays l' E.valid (num s) t H.lowered.fit some_filled
      (λ one can. not_can ne can (d.cannot refl (filled_is ∙ one) (λ y. ne (sym slot_is ∙ y)))))
    where
      empty : slot l' (num s) t 0 ≡ 0 → height l' ≤ t → ⊥
      empty z g = some_filled (filled_none (slot l' (num s) t) (λ o _. by_t (eqb o 0)
          (λ y. ap (slot l' (num s) t) (eqb-true o 0 y) ∙ z)
          (λ y. let ne : o ≡ 0 → ⊥ = eqb-false _ _ y in
          shrunk l' E.valid (lows E.valid) (num s) t g o (omega arith))))

      not_can : (slot l' (num s) t 0 ≡ 0 → ⊥) → (any (within (tier_order t) 0) l' ≡ true) ⊎ (t ≡ 0) →
          (is_node (get_or rs (slot_place r 0) 0) ≡ false) × (suc t ≡ 1 → ⊥) → ⊥
      not_can ne (inl a) (b, c) = clash (is_node_word (get_or rs (slot_place r 0) 0) _ (slot_is ∙ slot_node l' (num s) t 0 a)) b
      not_can ne (inr a) (b, c) = c (ap suc a)

  -- it goes
  module _ (d : Drops rs r (suc t) true) where
    can : (is_node (get_or rs (slot_place r 0) 0) ≡ true) ⊎ (suc t ≡ 1) → (any (within (tier_order t) 0) l' ≡ true) ⊎ (t ≡ 0)
    can (inl a) = inl (node_there (subst (λ (x : ℕ). is_node x ≡ true) slot_is a))
    can (inr a) = inr (omega arith)

    pub fit_less : height l' ≤ t
    fit_less = head_drops l' E.valid (num s) t H.lowered.fit (sym filled_is ∙ d.alone refl)
        (λ z. d.full refl (slot_is ∙ z)) (can (d.can refl))

    pub there_less : 1 ≤ t → any (within (tier_order t) 0) l' ≡ true
    there_less h = go (can (d.can refl))
      where
        go : (any (within (tier_order t) 0) l' ≡ true) ⊎ (t ≡ 0) → any (within (tier_order t) 0) l' ≡ true
        go (inl a) = a
        go (inr a) = absurd (omega arith)

    -- an entry is the head then
    pub headed_flat : top ≤ top_tier → last_place r < length rs → t ≡ 0 → {x : ℕ} → x ≡ get_or rs (slot_place r 0) 0 →
        Landed s i (k / slot_bits) top l' (cleared rs r) ns x
    headed_flat h long z e =
        let flat : t ≡ height l' = omega (arith, fit_less) in record {
          lowered = subst (λ (u : ℕ). Lowered s i (k / slot_bits) top u l' (cleared rs r) ns) flat
              (lowered_flat s E H.lowered H.row_is le h long fit_less z);
          word_is = e ∙ (slot_is ∙ ap (λ (u : ℕ). slot l' (num s) u 0) flat);
        }

    -- a node is
    module _ (h : 1 ≤ t) where
      pub has_less : has s.list t 0 ≡ true
      has_less = has_in s.list t 0 (omega (arith, E.there.top_is)) (within_left s E t 0 (there_less h))

      pub number_less : {x n : ℕ} → x ≡ get_or rs (slot_place r 0) 0 → n ≡ child_of (slot_of x) → n ≡ num s t 0
      number_less {x} e f = f ∙ child_is x (num s t 0) (e ∙ (slot_is ∙ slot_node l' (num s) t 0 (there_less h)))

      pub headed_less : top ≤ top_tier → last_place r < length rs → {x n : ℕ} → x ≡ get_or rs (slot_place r 0) 0 →
          n ≡ child_of (slot_of x) → {rs₂ ns₂ : List ℕ} {r' : ℕ} → Taken ws i (k / slot_bits) t n (cleared rs r) rs₂ ns ns₂ r' →
          Headed s i (k / slot_bits) top t l' rs₂ ns₂ x r'
      headed_less g long e f T = record {
        lowered = lowered_taken s E H.lowered H.row_is le g long fit_less has_less (number_less e f) T;
        there = there_less h;
        row_is = T.row_is;
        word_is = e ∙ slot_is;
      }
