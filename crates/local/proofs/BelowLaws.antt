-- What the decoding finds below a node that passes is in index order, and each entry as it must be.
use Prim.Native.Nat.{ℕ, zero, suc, ◌+◌, ◌*◌, ◌^◌, ◌≤◌, ◌<◌, ◌%◌}
use mathlib.Core.Path.{◌≡◌, refl, sym, subst, ap, ◌∙◌}
use mathlib.Core.Logic.{⊎_elim}
use mathlib.Core.List.{◌++◌}
use native.Mathlib.Omega.{arith}
use lib.Dec.{ltb, lit<}
use borrow.Author.Tests.{ne_eqb, ltb-true, ltb-false}
use Rattle.blocks.proofs.BoolLaws.{by_t}
use Rattle.tree.specs.Tree.{tier_order, slots}
use Rattle.layout.specs.Pool.{Free, Pool, run, slot_at}
use Rattle.layout.specs.declared.Slot.{Slot}
use Rattle.layout.specs.declared.Slot.TheVariants.{Empty, Reserved, Held, Sibling, Child}
use Rattle.layout.specs.Decode.{wide, span, cell, below, cell_at, entry_at}
use Rattle.decode.proofs.Restrict.{Chain, EntryGood}
use Rattle.decode.proofs.ChainLaws.{bit_lt, chain_append, chain_lower, held_word, reserved_word_lem, order_pow, scale, slot_aligned}
use Rattle.local.specs.Local.{cap, HeldOk, ReservedOk, ChildOk, SlotOk, Live, Fits64, Local, top_level}
use Rattle.tree.specs.Slots.{sibling_word}

-- an entry or a node begins in the slot
abbrev pub Filled : Slot → Type 0
Filled Empty = ⊥
Filled Reserved = Unit
Filled Held = Unit
Filled (Sibling o) = ⊥
Filled (Child m) = Unit

module _ (P : Pool) (fits : Fits64 P) where
  pub held_end : (v n b j : ℕ) → (slots * b + j) * wide v + 2 ^ (tier_order v + run P n j) ≡
      (slots * b + (j + 2 ^ run P n j)) * wide v
  held_end v n b j = rw order_pow (omega arith)

  pub held_ok : (v n b j : ℕ) → slot_at P n j ≡ Held → HeldOk P n v j → EntryGood (entry_at P v n b j)
  held_ok v n b j k i =
      record {
        order_le = i.short;
        aligned = slot_aligned v b j (run P n j) i.small i.aligned;
        word_ok = held_word (entry_at P v n b j) k;
        word_fits = fits.of_slot n j;
        marks_fit = omega (arith, bit_lt j (P.mark n 0), bit_lt j (P.mark n 1), bit_lt j (P.mark n 2));
      }

  -- a reserved slot has no siblings
  pub reserved_run : (n v j : ℕ) → ReservedOk P n v j → run P n j ≡ 0
  unfolding run
  reserved_run n v j i = by_t (ltb (j + 2 ^ 0) slots)
      (λ t. rw (t, ne_eqb (P.slot n (j + 2 ^ 0)) (sibling_word j) (i.alone (ltb-true _ _ t)))) (λ t. rw t)

  pub reserved_held : (n v j : ℕ) → j < slots → ReservedOk P n v j → HeldOk P n v j
  reserved_held n v j lt i =
      let r : run P n j ≡ 0 = reserved_run n v j i in
      let w : 2 ^ run P n j ≡ 1 = ap (λ (x : ℕ). 2 ^ x) r in
      let c : cap v ≡ slots = rw i.bottom in
      record {
        short = omega (arith, i.bottom);
        small = omega arith;
        aligned = ap (λ (x : ℕ). j % x) w ∙ (omega arith);
        ends = omega arith;
        siblings = λ k a b. absurd (omega arith);
      }

  pub reserved_ok_lem : (v n b j : ℕ) → j < slots → slot_at P n j ≡ Reserved → ReservedOk P n v j → EntryGood (entry_at P v n b j)
  reserved_ok_lem v n b j lt k i =
      let h = reserved_held n v j lt i in
      record {
        order_le = h.short;
        aligned = slot_aligned v b j (run P n j) h.small h.aligned;
        word_ok = reserved_word_lem (entry_at P v n b j) k (rw (i.bottom, reserved_run n v j i) refl)
            (rw (i.unmarked 0 (lit< tt), i.unmarked 1 (lit< tt), i.unmarked 2 (lit< tt)) refl);
        word_fits = fits.of_slot n j;
        marks_fit = omega (arith, bit_lt j (P.mark n 0), bit_lt j (P.mark n 1), bit_lt j (P.mark n 2));
      }

  module _ (v n b : ℕ) (ok : (j : ℕ) → j < slots → SlotOk P n v j (slot_at P n j))
      (ih : (m c j : ℕ) → ChildOk P n v j m → Chain (c * wide v) (below P v m c) ((c + 1) * wide v)) where
    abbrev From : (j k : ℕ) → Type 0
    From j k =
        (lo : ℕ) → lo ≤ (slots * b + cap v) * wide v →
        ((i : ℕ) → j ≤ i → i < slots → Filled (slot_at P n i) → lo ≤ (slots * b + i) * wide v) →
        Chain lo (span (cell_at P v n b) j k) ((slots * b + cap v) * wide v)

    step : (j k : ℕ) → j < slots → From (suc j) k → (κ : Slot) → slot_at P n j ≡ κ → SlotOk P n v j κ →
        (lo : ℕ) → lo ≤ (slots * b + cap v) * wide v →
        ((i : ℕ) → j ≤ i → i < slots → Filled (slot_at P n i) → lo ≤ (slots * b + i) * wide v) →
        Chain lo (cell (below P v) (entry_at P v n b j) (slots * b + j) κ ++ span (cell_at P v n b) (suc j) k)
        ((slots * b + cap v) * wide v)
    step j k lt rest Empty e s lo top h = rest lo top (λ i a p f. h i (omega arith) p f)
    step j k lt rest Reserved e s lo top h = let r = reserved_held n v j lt s in (
      h j (omega arith) lt (subst Filled (sym e) tt),
      reserved_ok_lem v n b j lt e s,
      rw held_end (rest _ (scale v _ _ (omega (arith, r.ends)))
          (λ i a p f. scale v _ _ (omega (arith, ap (λ (x : ℕ). 2 ^ x) (reserved_run n v j s))))),
    )
    step j k lt rest Held e s lo top h = (
      h j (omega arith) lt (subst Filled (sym e) tt),
      held_ok v n b j e s,
      rw held_end (rest _ (scale v _ _ (omega (arith, s.ends)))
          (λ i a p f. scale v _ _ (by_t (ltb i (j + 2 ^ run P n j))
          (λ t. absurd (subst Filled (s.siblings i a (ltb-true _ _ t)) f))
          (λ t. omega (arith, ltb-false i (j + 2 ^ run P n j) t))))),
    )
    step j k lt rest (Sibling o) e s lo top h = rest lo top (λ i a p f. h i (omega arith) p f)
    step j k lt rest (Child m) e s lo top h =
        chain_append lo ((slots * b + j + 1) * wide v) _ (below P v m (slots * b + j)) _
        (chain_lower _ _ _ (below P v m (slots * b + j)) (h j (omega arith) lt (subst Filled (sym e) tt))
        (ih m (slots * b + j) j s))
        (rest _ (scale v _ _ (omega (arith, s.used))) (λ i a p f. scale v _ _ (omega arith)))

    chain_from : (j k : ℕ) → j + k ≡ slots → From j k
    unfolding span
    chain_from j zero e lo top h = top
    chain_from j (suc k) e lo top h = step j k (omega arith) (chain_from (suc j) k (omega arith)) (slot_at P n j) refl
        (ok j (omega arith)) lo top h

pub cap_low : (v : ℕ) → v < top_level → cap v ≡ slots
cap_low v h = rw (ne_eqb v top_level (λ (e : v ≡ top_level). omega arith))

module _ (P : Pool) (L : Local P) where
  -- a node of that shift is live
  pub live_of : (n u : ℕ) → n < P.count → P.shift n ≡ tier_order u + 1 → Live P n u
  live_of n u lt e =
      ⊎_elim
      (λ (z : Free P n). absurd (omega (arith, z.shift_is)))
      (λ (z : (v : ℕ) × Live P n v). let f : z.0 ≡ u = omega (arith, z.1.level) in
      subst (λ (v : ℕ). Live P n v) f z.1)
      (L.nodes n lt)

  child_chain_of : (v n c j m : ℕ) → v < top_level → ((n b : ℕ) → Live P n v →
      Chain (slots * b * wide v) (below P (suc v) n b) ((slots * b + cap v) * wide v)) → ChildOk P n (suc v) j m →
      Chain (c * wide (suc v)) (below P (suc v) m c) ((c + 1) * wide (suc v))
  child_chain_of v n c j m lt ih s =
      let f : s.lower ≡ v = omega (arith, s.is_lower) in
      let lv = live_of m v s.there (subst (λ (x : ℕ). P.shift m ≡ tier_order x + 1) f s.level) in
      let g : cap v ≡ slots = cap_low v lt in
      let hi : (slots * c + cap v) * wide v ≡ (c + 1) * (wide v * slots) = rw g (omega arith) in
      let lo : slots * c * wide v ≡ c * (wide v * slots) = omega arith in
      rw (hi, lo) at (ih m c lv)

  -- what stands below a node is in order, inside its block
  pub chain_node : (v n b : ℕ) → Live P n v → Chain (slots * b * wide v) (below P (suc v) n b)
      ((slots * b + cap v) * wide v)
  unfolding below
  chain_node zero n b live =
      chain_from P L.fits 0 n b live.slots_ok_lem (λ m c j s. absurd (omega (arith, s.is_lower))) 0 slots refl
      _ (scale 0 _ _ (omega arith)) (λ i p q f. scale 0 _ _ (omega arith))
  chain_node (suc v) n b live =
      chain_from P L.fits (suc v) n b live.slots_ok_lem
      (λ m c j s. child_chain_of v n c j m (omega (arith, live.high)) (λ n b l. chain_node v n b l) s)
      0 slots refl
      _ (scale (suc v) _ _ (omega arith)) (λ i p q f. scale (suc v) _ _ (omega arith))

  pub child_chain : (v n c j m : ℕ) → v ≤ top_level → ChildOk P n v j m →
      Chain (c * wide v) (below P v m c) ((c + 1) * wide v)
  child_chain zero n c j m h s = absurd (omega (arith, s.is_lower))
  child_chain (suc v) n c j m h s = child_chain_of v n c j m (omega arith) (chain_node v) s
