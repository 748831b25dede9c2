-- The words are those that the decoded list prescribes.
use Prim.Native.Nat.{ℕ, zero, suc, ◌+◌, ◌*◌, ◌-◌, ◌/◌, ◌%◌, ◌^◌, ◌≤◌, ◌<◌}
use mathlib.Core.Path.{◌≡◌, refl, sym, ap, ◌∙◌, subst}
use mathlib.Core.Logic.{◌≢◌}
use mathlib.Core.Bool.{Bool, false, not}
use mathlib.Core.List.{List, ◌∷◌, []}
use mathlib.Core.Option.{none, some}
use native.Mathlib.Omega.{arith}
use native.Mathlib.Nat.{div-mul-le_self, mul-le-mul_right, mod-eq_of_lt, mul-lt-mul_of_pos_right, mul-div_cancel}
use lib.Dec.{eqb}
use borrow.Author.Tests.{eqb-true, eqb-false, eq-eqb, ne_eqb, le-leb, lt-leb}
use Rattle.blocks.specs.Choice.{pick}
use Rattle.blocks.specs.Lists.{any, first}
use Rattle.blocks.specs.Blocks.{bit}
use Rattle.blocks.proofs.BoolLaws.{by_t}
use Rattle.model.specs.declared.Entry.{Entry}
use Rattle.model.specs.Model.{covers, has_mark}
use Rattle.tree.specs.Slots.{node_word}
use Rattle.tree.specs.Tree.{tier_order, slots}
use Rattle.layout.specs.declared.Slot.{Slot}
use Rattle.layout.specs.declared.Slot.TheVariants.{Empty, Reserved, Held, Sibling, Child}
use Rattle.layout.specs.Pool.{slot_of, Pool, run, slot_at}
use Rattle.layout.specs.Decode.{wide, span, cell, below, cell_at, entry_at}
use Rattle.decode.proofs.Restrict.{part, EntryGood, bits_of, part_word, num_of, NodeIs, level_owner}
use Rattle.decode.proofs.KeepLaws.{Every, Some, all_with, first_append, first_none}
use Rattle.decode.proofs.BelowLaws.{wide_pos, in_below, slot_of_lem}
use Rattle.layout.proofs.SaysLaws.{word_of_lem}
use Rattle.decode.proofs.ChainLaws.{bit_lt}
use Rattle.decode.proofs.FitLaws.{chain_ends, chain_oks}
use Rattle.decode.proofs.CoverLaws.{any_span, bits_are, covers_in, in_covers, unscale, unscale≤}
use Rattle.local.specs.Local.{HeldOk, SiblingOk, ChildOk, SlotOk, Live, Local, HeadNodeOk, top_level}
use Rattle.local.proofs.BelowLaws.{child_chain, held_ok, held_end, Filled, reserved_held, reserved_ok_lem}
use Rattle.local.proofs.StandingLaws.{Tall, decoded, below_low, child_live, child_some, At, here, down, at_live, at_list, at_top, at_num, slot_at_lem}
use Rattle.local.proofs.HeightLaws.{decoded_height}

-- ---- marks

held_mark : (μ x y z : ℕ) → μ < 3 → x < 2 → y < 2 → z < 2 →
    bit μ (x + 2 * y + 4 * z) ≡ pick (eqb μ 0) x (pick (eqb μ 1) y z)
held_mark zero x y z h p q r = omega arith
held_mark (suc zero) x y z h p q r = omega arith
held_mark (suc (suc zero)) x y z h p q r = omega arith
held_mark (suc (suc (suc μ))) x y z h p q r = absurd (omega arith)

entry_mark : (P : Pool) (v n b j μ : ℕ) → μ < 3 → has_mark μ (entry_at P v n b j) ≡ eqb (bit j (P.mark n μ)) 1
entry_mark P v n b j μ h = ap (λ (x : ℕ). eqb x 1) (held_mark μ (bit j (P.mark n 0)) (bit j (P.mark n 1))
    (bit j (P.mark n 2)) h (bit_lt _ _) (bit_lt _ _) (bit_lt _ _)) ∙ go μ h
  where
    go : (μ : ℕ) → μ < 3 → eqb (pick (eqb μ 0) (bit j (P.mark n 0))
        (pick (eqb μ 1) (bit j (P.mark n 1)) (bit j (P.mark n 2)))) 1 ≡ eqb (bit j (P.mark n μ)) 1
    go zero h = refl
    go (suc zero) h = refl
    go (suc (suc zero)) h = refl
    go (suc (suc (suc μ))) h = absurd (omega arith)

module _ (P : Pool) (L : Local P) (μ : ℕ) (three : μ < 3) where
  mark_cell : (v n b j : ℕ) → ((m c : ℕ) → Tall P v m → any (has_mark μ) (below P v m c) ≡ pick (eqb v 0) false
      (not (eqb (P.mark m μ) 0))) → (κ : Slot) → SlotOk P n v j κ →
      any (has_mark μ) (cell (below P v) (entry_at P v n b j) (slots * b + j) κ) ≡ eqb (bit j (P.mark n μ)) 1
  mark_cell v n b j ih Empty s = rw (s μ three)
  mark_cell v n b j ih Reserved s = by_t (has_mark μ (entry_at P v n b j)) (λ e. rw (← entry_mark P v n b j μ three, e))
      (λ e. rw (← entry_mark P v n b j μ three, e))
  mark_cell v n b j ih Held s = by_t (has_mark μ (entry_at P v n b j)) (λ e. rw (← entry_mark P v n b j μ three, e))
      (λ e. rw (← entry_mark P v n b j μ three, e))
  mark_cell v n b j ih (Sibling o) s = rw (s.unmarked μ three)
  mark_cell v n b j ih (Child m) s =
      rw (
        ih m (slots * b + j) (child_live P L n v j m s),
        s.marked μ three,
        ne_eqb v 0 (λ (z : v ≡ 0). omega (arith, s.is_lower)),
      )

  -- a node's mark word is 0 exactly if nothing below has the mark
  pub mark_below : (h n b : ℕ) → Tall P h n → any (has_mark μ) (below P h n b) ≡ pick (eqb h 0) false
      (not (eqb (P.mark n μ) 0))
  unfolding below
  mark_below zero n b live = refl
  mark_below (suc v) n b live =
      let e : bits_of (λ i. any (has_mark μ) (cell_at P v n b i)) 0 slots ≡ P.mark n μ =
      bits_are _ slots 0 (P.mark n μ) (λ i lt. let z : 0 + i ≡ i = omega arith in
      rw z (mark_cell v n b i (λ m c t. mark_below v m c t) (slot_at P n i) (live.slots_ok_lem i lt)))
      ∙ mod-eq_of_lt (L.fits.of_mark n μ) in
      rw (any_span, e, ne_eqb (suc v) 0 (λ (z : suc v ≡ 0). omega arith))

  pub mark_node : (v n b : ℕ) → Live P n v → any (has_mark μ) (below P (suc v) n b) ≡ not (eqb (P.mark n μ) 0)
  mark_node v n b live = mark_below (suc v) n b live ∙ (rw (ne_eqb (suc v) 0 (λ (z : suc v ≡ 0). omega arith)))

  pub mark_slot : (v n b j : ℕ) → Live P n v → j < slots →
      any (has_mark μ) (cell_at P v n b j) ≡ eqb (bit j (P.mark n μ)) 1
  mark_slot v n b j live lt = mark_cell v n b j (mark_below v) (slot_at P n j) (live.slots_ok_lem j lt)

-- ---- slots

span_none : (p : Entry → Bool) (f : ℕ → List Entry) (j k : ℕ) → ((i : ℕ) → j ≤ i → i < j + k → first p (f i) ≡ none) →
    first p (span f j k) ≡ none
unfolding span
span_none p f j zero h = refl
span_none p f j (suc k) h = rw (
  first_append,
  h j (omega arith) (omega arith),
  span_none p f (suc j) k (λ i a b. h i (omega arith) (omega arith)),
)

span_first : (p : Entry → Bool) (f : ℕ → List Entry) (x : Entry) (o j k : ℕ) → j ≤ o → o < j + k →
    ((i : ℕ) → j ≤ i → i < o → first p (f i) ≡ none) → first p (f o) ≡ some x →
    first p (span f j k) ≡ some x
unfolding span
span_first p f x o j zero a b h e = absurd (omega arith)
span_first p f x o j (suc k) a b h e =
    by_t (eqb j o)
    (λ q. let z : j ≡ o = eqb-true j o q in rw (first_append, z, e))
    (λ q. let z : j ≢ o = eqb-false j o q in rw (
      first_append,
      h j (omega arith) (omega arith),
      span_first p f x o (suc j) k (omega arith) (omega arith) (λ i c d. h i (omega arith) d) e,
    ))

module _ (P : Pool) (L : Local P) where
  child_ends : (n v j m c : ℕ) → v ≤ top_level → ChildOk P n v j m →
      Every (λ e. (e.base + 2 ^ e.order ≤ (c + 1) * wide v) × EntryGood e) (below P v m c)
  child_ends n v j m c h s =
      let q = child_chain P L v n c j m h s in
      all_with _ _ _ (λ (x : Entry) y z. (y, z)) (below P v m c) (chain_ends _ _ (below P v m c) q)
      (chain_oks _ _ (below P v m c) q)

  -- the entry in slot i covers slot j only if i is j, or j its sibling
  entry_apart : (v n b i j : ℕ) → (Filled (slot_at P n j) → ⊥) → slot_at P n j ≢ Sibling i → Filled (slot_at P n i) →
      HeldOk P n v i → EntryGood (entry_at P v n b i) →
      first (covers ((slots * b + j) * wide v)) (entry_at P v n b i ∷ []) ≡ none
  entry_apart v n b i j nf ns f s good =
      by_t (covers ((slots * b + j) * wide v) (entry_at P v n b i))
      (λ c.
      let r = covers_in _ _ good c in
      let lo : slots * b + i ≤ slots * b + j = unscale≤ v _ _ r.0 in
      let hi : slots * b + j < slots * b + (i + 2 ^ run P n i) = unscale v _ _
      (subst (λ (x : ℕ). (slots * b + j) * wide v < x) (held_end P L.fits v n b i) r.1) in
      absurd (by_t (eqb i j)
      (λ q. nf (subst (λ (x : ℕ). Filled (slot_at P n x)) (eqb-true i j q) f))
      (λ q. let d : i ≢ j = eqb-false i j q in ns (s.siblings j (omega arith) (omega arith)))))
      (λ c. rw c)

  -- what slot i has covers slot j only if i is j, or j its sibling
  cell_apart : (v n b i j : ℕ) → Live P n v → i < slots → j < slots → (Filled (slot_at P n j) → ⊥) → slot_at P n j ≢ Sibling i →
      (κ : Slot) → slot_at P n i ≡ κ → SlotOk P n v i κ →
      first (covers ((slots * b + j) * wide v)) (cell (below P v) (entry_at P v n b i) (slots * b + i) κ) ≡ none
  cell_apart v n b i j live li lt nf ns Empty e s = refl
  cell_apart v n b i j live li lt nf ns Reserved e s = entry_apart v n b i j nf ns (subst Filled (sym e) tt)
      (reserved_held P L.fits n v i li s) (reserved_ok_lem P L.fits v n b i li e s)
  cell_apart v n b i j live li lt nf ns Held e s = entry_apart v n b i j nf ns (subst Filled (sym e) tt) s
      (held_ok P L.fits v n b i e s)
  cell_apart v n b i j live li lt nf ns (Sibling o) e s = refl
  cell_apart v n b i j live li lt nf ns (Child m) e s =
      first_none _ (below P v m (slots * b + i))
      (all_with {A = Entry} _ (λ x. x.base / wide v ≡ slots * b + i)
      (λ x. covers ((slots * b + j) * wide v) x ≡ false)
      (λ x (p : (x.base + 2 ^ x.order ≤ (slots * b + i + 1) * wide v) × EntryGood x) q.
      by_t (covers ((slots * b + j) * wide v) x)
      (λ c.
      let r = covers_in ((slots * b + j) * wide v) x p.1 c in
      let lo : slots * b + i ≤ slots * b + j = unscale≤ v _ _
      (omega (arith, r.0, div-mul-le_self x.base (wide v), ap (λ (y : ℕ). y * wide v) q)) in
      let hi : slots * b + j < slots * b + i + 1 = unscale v _ _ (omega (arith, r.1, p.0)) in
      absurd (nf (subst (λ (y : ℕ). Filled (slot_at P n y)) (omega arith) (subst Filled (sym e) tt))))
      (λ c. c))
      (below P v m (slots * b + i)) (child_ends n v i m (slots * b + i) live.high s)
      (in_below P v m (slots * b + i)))

  -- no entry, and none that covers: the search for a covering entry in the node's block
  empty_first : (v n b j : ℕ) → Live P n v → j < slots → slot_at P n j ≡ Empty →
      first (covers ((slots * b + j) * wide v)) (below P (suc v) n b) ≡ none
  unfolding below
  empty_first v n b j live lt e =
      span_none (covers ((slots * b + j) * wide v)) (cell_at P v n b) 0 slots
      (λ i p q. cell_apart v n b i j live (omega arith) lt (λ f. subst Filled e f)
      (λ (f : slot_at P n j ≡ Sibling i). absurd (let z : ◌≡◌ {A = ℕ} 0 1 = cc in omega arith))
      (slot_at P n i) refl (live.slots_ok_lem i (omega arith)))

  sibling_first : (v n b j o : ℕ) → Live P n v → j < slots → slot_at P n j ≡ Sibling o → SiblingOk P n v j o →
      first (covers ((slots * b + j) * wide v)) (below P (suc v) n b) ≡ some (entry_at P v n b o)
  unfolding below
  sibling_first v n b j o live lt e s =
      let ok : HeldOk P n v o = subst (SlotOk P n v o) s.of_held (live.slots_ok_lem o (omega (arith, s.after))) in
      span_first (covers ((slots * b + j) * wide v)) (cell_at P v n b) (entry_at P v n b o) o 0 slots (omega arith)
      (omega (arith, s.after))
      (λ i p q. cell_apart v n b i j live (omega (arith, s.after)) lt (λ f. subst Filled e f)
      (λ (f : slot_at P n j ≡ Sibling i). let z : i ≡ o = cc in omega arith) (slot_at P n i) refl
      (live.slots_ok_lem i (omega (arith, s.after))))
      (rw (
        s.of_held,
        in_covers ((slots * b + j) * wide v) (entry_at P v n b o) (held_ok P L.fits v n b o s.of_held ok)
            (mul-le-mul_right (wide v) (omega (arith, s.after)))
            (rw (held_end P L.fits v n b o) (mul-lt-mul_of_pos_right (omega (arith, s.in_run_lem)) (wide_pos v))),
      ))

  module _ (h : ℕ) (head_is : slot_of P.head ≡ Child h) (H : HeadNodeOk P h) where
    l : List Entry
    l = decoded P L h head_is H

    ν : ℕ → ℕ → ℕ
    ν = num_of P

    slot_in : (n v b j : ℕ) → At P h H.top n v b → j < slots → part (wide v) (slots * b + j) l ≡ cell_at P v n b j
    unfolding l
    slot_in n v b j a lt = slot_of_lem P l v n b j lt (at_list P L h head_is H n v b a)

    slot_low : (v c : ℕ) (xs : List Entry) → Every (λ e. e.order < tier_order v) xs → Some (λ e. Unit {0}) xs →
        part_word l ν v c xs ≡ node_word (ν (v - 1) c)
    slot_low v c [] p q = elim q [ ]
    slot_low v c (x ∷ xs) p q = rw (lt-leb (tier_order v) x.order p.0)

    child_num : (n v b j m : ℕ) → At P h H.top n v b → j < slots → slot_at P n j ≡ Child m → ChildOk P n v j m →
        ν (v - 1) (slots * b + j) ≡ m
    unfolding ν
    child_num n zero b j m a lt e s = absurd (omega (arith, s.is_lower))
    child_num n (suc v) b j m a lt e s = let z : suc v - 1 ≡ v = omega arith in
        rw z (at_num P L h head_is H m v (slots * b + j) (down n b j a lt e refl))

    word_cell : (n v b j : ℕ) → (a : At P h H.top n v b) → j < slots → (κ : Slot) → slot_at P n j ≡ κ →
        SlotOk P n v j κ →
        P.slot n j ≡ part_word l ν v (slots * b + j) (cell (below P v) (entry_at P v n b j) (slots * b + j) κ)
    unfolding l
    word_cell n v b j a lt Empty e s =
        let q : (slots * b + j) / slots ≡ b = omega arith in
        rw (q, at_list P L h head_is H n v b a, empty_first v n b j (at_live P L h head_is H n v b a) lt e)
        (word_of_lem _ Empty e)
    word_cell n v b j a lt Reserved e s = rw (le-leb (tier_order v) (tier_order v + run P n j) (omega arith))
    word_cell n v b j a lt Held e s = rw (le-leb (tier_order v) (tier_order v + run P n j) (omega arith))
    word_cell n v b j a lt (Sibling o) e s =
        let q : (slots * b + j) / slots ≡ b = omega arith in
        rw (q, at_list P L h head_is H n v b a, sibling_first v n b j o (at_live P L h head_is H n v b a) lt e s)
        (rw (mul-div_cancel (slots * b + o) (wide_pos v))
        (let z : (slots * b + o) % slots ≡ o = omega (arith, s.after) in rw z (word_of_lem _ (Sibling o) e).0))
    word_cell n v b j a lt (Child m) e s =
        rw (
          slot_low v (slots * b + j) (below P v m (slots * b + j))
              (below_low P L v m (slots * b + j) (child_live P L n v j m s))
              (child_some P L n v j m (slots * b + j) s),
          child_num n v b j m a lt e s,
        ) (word_of_lem _ (Child m) e)

    owner_at : (n v b : ℕ) → At P h H.top n v b → P.owner n ≡ level_owner l ν v b
    unfolding l ν
    owner_at _ _ _ here = rw (decoded_height P L h head_is H, eq-eqb (suc H.top) (suc H.top) refl) H.no_owner
    owner_at m v c (down n b j a lt k e) =
        let q : c / slots ≡ b = omega arith in
        let r : c % slots ≡ j = omega arith in
        let s = slot_at_lem (at_live P L h head_is H n (suc v) b a) j lt (Child m) k in
        rw (
          decoded_height P L h head_is H,
          ne_eqb (suc v) (suc H.top) (λ (z : suc v ≡ suc H.top). omega
              (arith, at_top P L h head_is H n (suc v) b a)),
          q,
          r,
          at_num P L h head_is H n (suc v) b a,
        ) s.owned

    pub node_is : (n v b : ℕ) → At P h H.top n v b → NodeIs P (decoded P L h head_is H) (num_of P) n v b
    unfolding l ν
    node_is n v b a =
        let live = at_live P L h head_is H n v b a in
        record {
          shift_is = live.level;
          owner_is = owner_at n v b a;
          filled_is = live.filled_is;
          marks_are = λ μ lt. sym (bits_are _ slots 0 (P.mark n μ)
              (λ i q. let z : 0 + i ≡ i = omega arith in
              rw (z, slot_in n v b i a q) (mark_slot P L μ lt v n b i live q))
              ∙ mod-eq_of_lt (L.fits.of_mark n μ));
          slots_are = λ j lt. rw (slot_in n v b j a lt)
              (word_cell n v b j a lt (slot_at P n j) refl (live.slots_ok_lem j lt));
        }
