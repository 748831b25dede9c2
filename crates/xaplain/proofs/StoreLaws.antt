-- A store in the slices.
use Prim.Native.Nat.{ℕ, zero, suc, ◌+◌, ◌-◌, ◌*◌, ◌%◌, ◌^◌, ◌≤◌, ◌<◌}
use mathlib.Core.Path.{◌≡◌, refl, sym, ap, ◌∙◌}
use mathlib.Core.List.{List, [], ◌∷◌}
use native.Mathlib.Omega.{arith}
use lib.Dec.{eqb, ltb}
use lib.ListN.{length, get_or, take, drop, length-append, length-take, length-drop}
use lib.Seq.{drop-cons}
use native.Mathlib.Nat.{le_refl}
use Rattle.xaplain.proofs.LoopLaws.{shl_one}
use borrow.Author.Tests.{ltb-true, ltb-false, lt-ltb, le-ltb, le-leb, lt-leb}
use Rattle.blocks.specs.Lists.{any, keep}
use Rattle.blocks.specs.Blocks.{bit}
use Rattle.blocks.proofs.BoolLaws.{by_t}
use Rattle.blocks.proofs.BlockLaws.{pow_pos}
use Rattle.blocks.proofs.ListLaws.{keep_none}
use Rattle.model.specs.declared.Entry.{Entry}
use Rattle.model.specs.Model.{Sorted, more, done, starts_in, inside, kept_marks, has_mark, new_entry, store_new}
use Rattle.xaplain.specs.Moves.{Holds, Splits, Parts, any_from, kept_from, replaced, below}
use Rattle.xaplain.proofs.PlainLaws.{blank, nth, index_at, marks_at}
use Rattle.xaplain.proofs.ColumnLaws.{insert_clear, stops_below, sorted_starts, below_none}

-- THE ENTRIES INSIDE
abbrev pub segment : ℕ → ℕ → List Entry → List Entry
segment p q l = take (q - p) (drop p l)

pub keep_segment : {m : ℕ} {l : List Entry} (i k : ℕ) → Sorted m l → inside l i k ≡ segment (below i l) (below (i + 2 ^ k) l) l
keep_segment i k done = refl
keep_segment i k (more {e = x} {l = l} g ok s) =
    by_t (ltb x.base i)
    (λ t. let a : x.base < i = ltb-true _ _ t in
    let d : suc (below (i + 2 ^ k) l) - suc (below i l) ≡ below (i + 2 ^ k) l - below i l = omega arith in
    rw (t, lt-leb i x.base a, lt-ltb x.base (i + 2 ^ k) (omega arith), d) (keep_segment i k s))
    (λ t. let a : i ≤ x.base = ltb-false _ _ t in
    by_t (ltb x.base (i + 2 ^ k))
    (λ u. let e₀ : below (i + 2 ^ k) l - 0 ≡ below (i + 2 ^ k) l = omega arith in
    let e₁ : suc (below (i + 2 ^ k) l) - 0 ≡ suc (below (i + 2 ^ k) l) = omega arith in
    let z : below i l ≡ 0 = below_none i s (omega (arith, pow_pos x.order)) in
    let r : keep (starts_in i k) l ≡ take (below (i + 2 ^ k) l) l =
    keep_segment i k s ∙ ap (λ (y : ℕ). segment y (below (i + 2 ^ k) l) l) z ∙ ap (λ (y : ℕ). take y l) e₀ in
    rw (t, u, le-leb i x.base a, e₁) (ap (λ (y : List Entry). x ∷ y) r))
    (λ u. let b : i + 2 ^ k ≤ x.base = ltb-false _ _ u in
    rw (t, u, le-leb i x.base a) (keep_none (starts_in i k) (sorted_starts i k s (omega (arith, pow_pos x.order))))))

below_zero : (l : List Entry) → below 0 l ≡ 0
below_zero [] = refl
below_zero (e ∷ l) = rw (le-ltb e.base 0 (omega arith))

module _ {index order word marks : List ℕ} {n : ℕ} (h : Holds index order word marks n) where
  -- marks of a part of the list, in the slice
  pub any_segment : (m j p : ℕ) → p + j ≤ n → any_from marks m j p ≡ any (has_mark m) (take j (drop p h.list))
  any_segment m zero p g = refl
  any_segment m (suc j) p g =
      let d : drop p h.list ≡ nth h.list p ∷ drop (suc p) h.list = drop-cons h.list p blank (omega (arith, h.count)) in
      let e : drop p marks ≡ get_or marks p 0 ∷ drop (suc p) marks = drop-cons marks p 0 (omega (arith, h.marks_fit, h.fits)) in
      let t = any_segment m j (suc p) (omega arith) in
      by_t (eqb (bit m (nth h.list p).marks) 1) (λ u. rw (d, e, marks_at h p (omega arith), u) refl)
      (λ u. rw (d, e, marks_at h p (omega arith), u) t)

  -- where the searches stop
  pub parts_below : (i r : ℕ) → Parts index n i r → r ≡ below i h.list
  parts_below zero r s =
      by_t (ltb 0 r) (λ t. absurd (omega (arith, s.low 0 (ltb-true _ _ t))))
      (λ t. let e : r ≡ 0 = omega (arith, ltb-false 0 r t) in e ∙ sym (below_zero h.list))
  parts_below (suc i) r s = stops_below h.list i r (omega (arith, s.within, h.count))
      (λ k g. omega (arith, s.low k g, index_at h k (omega (arith, s.within))))
      (λ k g b. omega (arith, s.high k g (omega (arith, h.count)), index_at h k (omega (arith, h.count))))

  -- the list after a store that replaces what starts in its range
  pub store_replaced : (i k w : ℕ) → store_new h.list i k w
      ≡ replaced (below i h.list) (below (i + 2 ^ k) h.list) (new_entry h.list i k w) h.list
  store_replaced i k w = insert_clear k (new_entry h.list i k w) h.valid

  -- its marks
  pub kept_marks_lem : (i k p q : ℕ) → p ≡ below i h.list → q ≡ below (i + 2 ^ k) h.list → p ≤ q → q ≤ n →
      kept_from marks (q - p) p ≡ kept_marks (inside h.list i k)
  kept_marks_lem i k p q e d a b =
      let s : inside h.list i k ≡ segment p q h.list = keep_segment i k h.valid ∙ rw (e, d) refl in
      rw (s, any_segment 0 (q - p) p (omega arith), any_segment 1 (q - p) p (omega arith)) refl

  module _ (i k w p q m : ℕ) (k≤ : k ≤ 63) (a : Parts index n i p) (b : Splits index n (i + (1 * 2 ^ k % 18446744073709551616 - 1)) q) where
    to : i + (1 * 2 ^ k % 18446744073709551616 - 1) ≡ i + (2 ^ k - 1)
    to = ap (λ (x : ℕ). i + (x - 1)) (shl_one k k≤)

    pub ordered : (p ≤ q) × (q ≤ n)
    ordered =
        by_t (ltb q p)
        (λ t. let l : q < p = ltb-true _ _ t in absurd (omega (arith, a.low q l, b.high q (le_refl q) (omega (arith, a.within)))))
        (λ t. (ltb-false _ _ t, b.within))

    q_is : q ≡ below (i + 2 ^ k) h.list
    q_is =
        let e : suc (i + (1 * 2 ^ k % 18446744073709551616 - 1)) ≡ i + 2 ^ k = omega (arith, to, pow_pos k) in
        stops_below h.list (i + (1 * 2 ^ k % 18446744073709551616 - 1)) q (omega (arith, b.within, h.count))
        (λ j g. omega (arith, b.low j g, index_at h j (omega (arith, b.within))))
        (λ j g d. omega (arith, b.high j g (omega (arith, h.count)), index_at h j (omega (arith, h.count))))
        ∙ ap (λ (x : ℕ). below x h.list) e

    replaced_length : (x : Entry) → length (replaced p q x h.list) ≡ p + 1 + (n - q)
    replaced_length x =
        let (pq, qn) = ordered in
        length-append (take p h.list) (x ∷ drop q h.list)
        ∙ omega (arith, length-take p h.list, length-drop q h.list, h.count)

    store_is : store_new h.list i k w ≡ replaced p q (new_entry h.list i k w) h.list
    store_is = store_replaced i k w ∙ sym (rw (parts_below i p a, q_is) refl)

    pub new_length : length (store_new h.list i k w) ≡ p + 1 + (n - q)
    new_length = ap length store_is ∙ replaced_length (new_entry h.list i k w)

    pub new_marks : m ≡ kept_from marks (q - p) p → m ≡ kept_marks (inside h.list i k)
    new_marks e = let (pq, qn) = ordered in e ∙ kept_marks_lem i k p q (parts_below i p a) q_is pq qn

    pub new_list : m ≡ kept_from marks (q - p) p →
        replaced p q (record { base = i; order = k; word = w; marks = m }) h.list ≡ store_new h.list i k w
    new_list e =
        ap (λ (x : ℕ). replaced p q (record { base = i; order = k; word = w; marks = x }) h.list) (new_marks e) ∙ sym store_is
