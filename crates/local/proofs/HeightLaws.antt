-- The decoded list's height is the head's level and one, and a node is in its tree exactly where one stands.
use Prim.Native.Nat.{ℕ, zero, suc, ◌+◌, ◌*◌, ◌-◌, ◌/◌, ◌%◌, ◌^◌, ◌≤◌, ◌<◌}
use mathlib.Core.Path.{◌≡◌, refl, sym, ap, ◌∙◌, subst}
use mathlib.Core.Logic.{◌⊎◌, inl, inr, ⊎_elim, ◌≢◌}
use mathlib.Core.Bool.{true}
use mathlib.Core.List.{List}
use native.Mathlib.Omega.{arith}
use native.Mathlib.Nat.{div-mul-le_self, mul-le-mul_right}
use lib.Dec.{eqb, ltb, lit≤}
use borrow.Author.Tests.{eqb-true, eqb-false, eq-eqb, ltb-true, lt-ltb}
use Rattle.blocks.proofs.BoolLaws.{by_t}
use Rattle.model.specs.declared.Entry.{Entry}
use Rattle.tree.specs.Tree.{height, fits, tier_order, slots}
use Rattle.tree.proofs.HeightLaws.{fits_i}
use Rattle.layout.specs.declared.Slot.{Slot}
use Rattle.layout.specs.declared.Slot.TheVariants.{Empty, Reserved, Held, Sibling, Child}
use Rattle.layout.specs.Pool.{slot_of, Pool, run, slot_at}
use Rattle.layout.specs.Decode.{wide, cell, below, cell_at, entry_at}
use Rattle.decode.proofs.Restrict.{part, in_block, Chain, low_order, has_level}
use Rattle.decode.proofs.KeepLaws.{
  Every,
  Some,
  no_both,
  some_map,
  some_with,
  some_any,
  any_some,
  some_keep,
  keep_some,
  all_with,
  some_get,
}
use Rattle.decode.proofs.BelowLaws.{wide_pos, in_below, slot_of_lem, up}
use Rattle.decode.proofs.ChainLaws.{wide_pow, chain_lower}
use Rattle.decode.proofs.FitLaws.{Big, chain_low, chain_raise, height_is, wide_mono}
use Rattle.local.specs.Local.{cap, SlotOk, Live, Local, HeadNodeOk, UsedFrom, top_level}
use Rattle.local.proofs.BelowLaws.{chain_node, cap_low}
use Rattle.local.proofs.StandingLaws.{span_some, decoded, below_low, below_some, child_some, At, here, down, at_live, at_list, at_top}

module _ (P : Pool) (L : Local P) (h : ℕ) (head_is : slot_of P.head ≡ Child h) (H : HeadNodeOk P h) where
  t : ℕ
  t = H.top

  entry : ℕ → Entry
  entry j = entry_at P t h 0 j

  big_held : (j : ℕ) → j < slots → slot_at P h j ≡ Held → ((j ≢ 0) ⊎ (tier_order t + run P h j ≢ 0)) →
      Some (Big t) (below P (suc t) h 0)
  unfolding below t
  big_held j lt e z =
      span_some _ (cell_at P t h 0) j 0 slots (omega arith) (omega arith)
      (rw e (inl (
        inl (omega arith),
        ⊎_elim (λ (f : j ≢ 0). inl
            (λ (g : (slots * 0 + j) * wide t ≡ 0). f (omega (arith, wide_pos t, mul-le-mul_right j (wide_pos t))))) inr
            z,
      )))

  big_at : (j : ℕ) → j < slots → 0 < j → (κ : Slot) → slot_at P h j ≡ κ → SlotOk P h t j κ → κ ≢ Empty →
      Some (Big t) (below P (suc t) h 0)
  unfolding below t
  big_at j lt p Empty e s z = absurd (z refl)
  big_at j lt p Reserved e s z =
      span_some _ (cell_at P t h 0) j 0 slots (omega arith) (omega arith)
      (rw e (inl (
        inl (omega arith),
        inl (λ (g : (slots * 0 + j) * wide t ≡ 0). omega (arith, wide_pos t, mul-le-mul_right j (wide_pos t))),
      )))
  big_at j lt p Held e s z = big_held j lt e (inl (λ (f : j ≡ 0). omega arith))
  big_at j lt p (Sibling o) e s z = big_held o (omega (arith, s.after)) s.of_held
      (inr (λ (f : tier_order t + run P h o ≡ 0).
      let g : run P h o ≡ 0 = omega arith in omega (arith, s.after, rw g at s.in_run_lem)))
  big_at j lt p (Child m) e s z =
      span_some _ (cell_at P t h 0) j 0 slots (omega arith) (omega arith)
      (rw e (some_with {A = Entry} _ (λ x. Unit {0}) (Big t)
      (λ x (a : x.base / wide t ≡ slots * 0 + j) u.
      let y : wide t ≤ x.base = omega (
        arith,
        div-mul-le_self x.base (wide t),
        mul-le-mul_right {m = 1} {n = x.base / wide t} (wide t) (omega arith),
      ) in
      (inr y, inl (λ (f : x.base ≡ 0). omega (arith, wide_pos t))))
      (below P t m (slots * 0 + j)) (in_below P t m (slots * 0 + j)) (child_some P L h t j m (slots * 0 + j) s)))

  fits_top : Every (λ e. fits (suc t) e ≡ true) (below P (suc t) h 0)
  unfolding t
  fits_top =
      all_with {A = Entry} (λ e. e.order < tier_order (suc t)) (λ e. e.base / wide (suc t) ≡ 0) _
      (λ e p q. fits_i (suc t) e (omega arith) (ap (λ (w : ℕ). e.base / w) (wide_pow (suc t)) ∙ q))
      (below P (suc t) h 0) (below_low P L (suc t) h 0 H.live) (in_below P (suc t) h 0)

  top_end : (slots * 0 + cap t) * wide t ≤ 2 ^ 64
  unfolding t
  top_end =
      by_t (eqb t top_level)
      (λ e. let z : t ≡ top_level = eqb-true t top_level e in rw z (lit≤ tt))
      (λ e. let z : t ≢ top_level = eqb-false t top_level e in rw (cap_low t (omega (arith, H.live.high)))
      (omega (arith, wide_mono (suc t) top_level (omega (arith, H.live.high)))))

  pub decoded_valid : Chain 0 (decoded P L h head_is H) (2 ^ 64)
  unfolding t
  decoded_valid = chain_lower 0 (slots * 0 * wide t) _ (below P (suc t) h 0) (omega arith)
      (chain_raise _ _ _ (below P (suc t) h 0) top_end (chain_node P L t h 0 H.live))

  some_big : Some (Big t) (below P (suc t) h 0)
  unfolding t
  some_big =
      ⊎_elim
      (λ (z : UsedFrom P h 1). big_at z.0 z.2 (omega arith)
      (slot_at P h z.0) refl (H.live.slots_ok_lem z.0 z.2) z.3)
      (λ (z : (t ≢ 0) × (slot_at P h 0 ≡ Held)). big_held 0 (omega arith) z.1
      (inr (λ (f : tier_order t + run P h 0 ≡ 0). z.0 (omega arith))))
      H.tall

  pub decoded_height : height (decoded P L h head_is H) ≡ suc H.top
  unfolding t
  decoded_height = height_is t (below P (suc t) h 0) (chain_low (below P (suc t) h 0) decoded_valid) fits_top some_big

  -- there is a node in the tree of the list exactly where one stands
  pub at_has : (n v b : ℕ) → At P h H.top n v b → has_level (decoded P L h head_is H) v b ≡ true
  at_has n v b a =
      rw (
        decoded_height,
        lt-ltb v (suc H.top) (omega (arith, at_top P L h head_is H n v b a)),
        at_list P L h head_is H n v b a,
      )
      (some_any (low_order (suc v)) (below P (suc v) n b)
      (some_with {A = Entry} _ (λ x. Unit {0}) _ (λ x (p : x.order < tier_order (suc v)) u. lt-ltb _ _ p)
      (below P (suc v) n b)
      (below_low P L (suc v) n b (at_live P L h head_is H n v b a))
      (below_some P L v n b (at_live P L h head_is H n v b a))))

  step_down : (p v b j : ℕ) → j < slots → Live P p (suc v) → At P h t p (suc v) b → (κ : Slot) → slot_at P p j ≡ κ →
      Some (λ e. low_order (suc v) e ≡ true) (cell (below P (suc v)) (entry_at P (suc v) p b j) (slots * b + j) κ) →
      (n : ℕ) × At P h t n v (slots * b + j)
  step_down p v b j lt live a Empty e s = absurd s
  step_down p v b j lt live a Reserved e (inl s) = absurd (omega
      (arith, ltb-true (tier_order (suc v) + run P p j) (tier_order (suc v)) s))
  step_down p v b j lt live a Reserved e (inr s) = absurd s
  step_down p v b j lt live a Held e (inl s) = absurd (omega
      (arith, ltb-true (tier_order (suc v) + run P p j) (tier_order (suc v)) s))
  step_down p v b j lt live a Held e (inr s) = absurd s
  step_down p v b j lt live a (Sibling o) e s = absurd s
  step_down p v b j lt live a (Child m) e s = (m, down p b j a lt e refl)

  find : (d v b : ℕ) → v + d ≡ t → Some (λ e. low_order (suc v) e ≡ true) (part (wide (suc v)) b (below P (suc t) h 0))
      → (n : ℕ) × At P h t n v b
  unfolding t
  find zero v b e s =
      let f : v ≡ t = omega arith in
      let g : b ≡ 0 =
      some_get (b ≡ 0) (below P (suc t) h 0) (some_with {A = Entry} _
      (λ x. (in_block (wide (suc v)) b x ≡ true) × (low_order (suc v) x ≡ true)) (λ x. b ≡ 0)
      (λ x (p : x.base / wide (suc t) ≡ 0) q. sym (eqb-true (x.base / wide (suc v)) b q.0) ∙ (rw f p))
      (below P (suc t) h 0) (in_below P (suc t) h 0)
      (keep_some _ _ (below P (suc t) h 0) s)) in
      (h, rw (f, g) here)
  find (suc d) v b e s =
      let j : ℕ = b % slots in
      let lt : j < slots = omega arith in
      let q : b ≡ slots * (b / slots) + j = omega arith in
      let s' =
      some_keep (in_block (wide (suc (suc v))) (b / slots)) (λ x. low_order (suc (suc v)) x ≡ true)
      (below P (suc t) h 0)
      (some_map (λ x. (in_block (wide (suc v)) b x ≡ true) × (low_order (suc v) x ≡ true)) _
      (λ x z. (
        eq-eqb (x.base / wide (suc (suc v))) (b / slots)
            (up x.base (suc v) ∙ ap (λ (y : ℕ). y / slots) (eqb-true (x.base / wide (suc v)) b z.0)),
        lt-ltb x.order (tier_order (suc (suc v))) (omega (arith, ltb-true x.order (tier_order (suc v)) z.1)),
      ))
      (below P (suc t) h 0) (keep_some (in_block (wide (suc v)) b) _ (below P (suc t) h 0) s)) in
      let r = find d (suc v) (b / slots) (omega arith) s' in
      let w = slot_of_lem P (below P (suc t) h 0) (suc v) r.0 (b / slots) j lt
      (at_list P L h head_is H r.0 (suc v) (b / slots) r.1) in
      subst (λ (y : ℕ). (n : ℕ) × At P h t n v y) (sym q)
      (step_down r.0 v (b / slots) j lt (at_live P L h head_is H r.0 (suc v) (b / slots) r.1) r.1
      (slot_at P r.0 j) refl
      (subst (λ (y : List Entry). Some (λ e. low_order (suc v) e ≡ true) y) w
      (subst (λ (y : ℕ). Some (λ e. low_order (suc v) e ≡ true) (part (wide (suc v)) y (below P (suc t) h 0))) q s)))

  pub has_at_lem : (v b : ℕ) → has_level (decoded P L h head_is H) v b ≡ true → (n : ℕ) × At P h H.top n v b
  unfolding t
  has_at_lem v b e =
      by_t (ltb v (height (below P (suc t) h 0)))
      (λ p. find (t - v) v b (omega (arith, rw decoded_height at (ltb-true v (height (below P (suc t) h 0)) p)))
      (any_some (low_order (suc v)) (part (wide (suc v)) b (below P (suc t) h 0)) (rw p at e)))
      (λ p. no_both e (rw p))
