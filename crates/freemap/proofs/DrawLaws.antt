-- The lowest numbers are drawn from a map one by one.
use Prim.Native.Nat.{ℕ, zero, suc, ◌+◌, ◌-◌, ◌≤◌, ◌<◌}
use mathlib.Core.Path.{◌≡◌, refl, sym, subst, ◌∙◌}
use mathlib.Core.Bool.{Bool, true, false}
use mathlib.Core.List.{List}
use native.Mathlib.Omega.{arith}
use lib.Dec.{ltb, leb, eqb}
use lib.ListN.{length, get_or, set}
use lib.Seq.{get_or-set_same, get_or-set_other}
use borrow.Author.Tests.{eqb-true, eqb-false, ltb-true, ltb-false, leb-true, leb-false, le-leb, lt-leb}
use Rattle.blocks.proofs.BoolLaws.{by_t, iff, clash, is_false, both_i, both_l, both_r, both_no, both_yes}
use Rattle.freemap.specs.FreeMap.{map_nodes, map_count, map_bit, one_if, tally, put, MapOf, Sound, Lowest, left_of, Drawn, Draws}
use Rattle.freemap.proofs.CountLaws.{count_zero, count_suc, count_put}
use Rattle.freemap.proofs.MapLaws.{map_as, in_map, not_in_map}

-- COUNTING
module _ (f : ℕ → Bool) where
  to_more : (x d : ℕ) → tally f x ≤ tally f (x + d)
  to_more x zero = let e : x + 0 ≡ x = omega arith in rw e (omega arith)
  to_more x (suc d) = let e : x + suc d ≡ suc (x + d) = omega arith in rw e (omega (arith, count_suc f (x + d), to_more x d))

  to_mono : (x y : ℕ) → x ≤ y → tally f x ≤ tally f y
  to_mono x y h = let e : x + (y - x) ≡ y = omega arith in
      subst (λ (z : ℕ). tally f x ≤ tally f z) e (to_more x (y - x))

  -- no number below m is free with k free ones before it
  few_before : (k m : ℕ) → ((x : ℕ) → x < m → left_of f k x ≡ false) → tally f m ≤ k
  few_before k zero g = omega (arith, count_zero f)
  few_before k (suc m) g = by_t (f m)
      (λ t. let lt : tally f m < k = leb-false k (tally f m) (is_false (λ z. clash (both_i t z) (g m (omega arith)))) in
      let one : one_if (f m) ≡ 1 = rw t in omega (arith, count_suc f m))
      (λ t. let none : one_if (f m) ≡ 0 = rw t in
      omega (arith, count_suc f m, few_before k m (λ x l. g x (omega arith))))

-- ONE NUMBER DRAWN: the lowest in the map
module _ (f : ℕ → Bool) (k : ℕ) (nums ms : List ℕ) (D : Drawn f k nums ms) (r : ℕ) (low : Lowest ms r) where
  below : (x : ℕ) → x < r → left_of f k x ≡ false
  below x h = not_in_map D.left x (omega arith) (low.first x h)

  here : left_of f k r ≡ true
  here = in_map D.left r low.most low.on

  free : f r ≡ true
  free = both_l (f r) (leb k (tally f r)) here

  before_it : tally f r ≡ k
  before_it = omega (arith, leb-true k (tally f r) (both_r (f r) (leb k (tally f r)) here), few_before f k r below)

  left_is : (x : ℕ) → x < map_nodes → put (left_of f k) r false x ≡ left_of f (k + 1) x
  left_is x h = by_t (eqb x r)
      (λ t. let q : x ≡ r = eqb-true _ _ t in
      rw (t, q, lt-leb (k + 1) (tally f r) (omega (arith, before_it))) (sym (both_no (f r))))
      (λ t. let ne : x ≡ r → ⊥ = eqb-false _ _ t in
      rw t (iff (left_of f k x) (left_of f (k + 1) x) (more ne)
      (λ y. both_i (both_l (f x) (leb (k + 1) (tally f x)) y)
      (le-leb k (tally f x) (omega (arith, leb-true (k + 1) (tally f x) (both_r (f x) (leb (k + 1) (tally f x)) y)))))))
    where
      more : (x ≡ r → ⊥) → left_of f k x ≡ true → left_of f (k + 1) x ≡ true
      more ne y = by_t (ltb x r) (λ z. absurd (clash y (below x (ltb-true _ _ z))))
          (λ z. let one : one_if (f r) ≡ 1 = rw free in
          let g : r < x = omega (arith, ltb-false x r z) in
          both_i (both_l (f x) (leb k (tally f x)) y) (le-leb (k + 1) (tally f x)
          (omega (arith, to_mono f (suc r) x g, count_suc f r, before_it))))

  -- what holds of the numbers so far and of r holds of all
  with_it : (Q : ℕ → ℕ → Type 0) → k < length nums → ((j : ℕ) → j < k → Q j (get_or nums j 0)) → Q k r → (j : ℕ) → j < k + 1 →
      Q j (get_or (set nums k r) j 0)
  with_it Q room old new j l = by_t (eqb j k)
      (λ t. let q : j ≡ k = eqb-true _ _ t in rw (q, get_or-set_same nums k r 0 room) new)
      (λ t. let ne : j ≡ k → ⊥ = eqb-false _ _ t in rw (get_or-set_other nums k j r 0 ne) (old j (omega arith)))

  pub drawn_next : (ms' : List ℕ) → ((f : ℕ → Bool) → MapOf f ms → MapOf (put f r false) ms') → k < length nums →
      Drawn f (k + 1) (set nums k r) ms'
  drawn_next ms' took room = record {
    is_free = with_it (λ j m. f m ≡ true) room D.is_free free;
    before = with_it (λ j m. tally f m ≡ j) room D.before before_it;
    left = map_as (took (left_of f k) D.left) (left_of f (k + 1)) left_is;
  }

pub drawn_none : (f : ℕ → Bool) (nums ms : List ℕ) → MapOf f ms → Drawn f 0 nums ms
drawn_none f nums ms M = record {
  is_free = λ j l. absurd (omega arith);
  before = λ j l. absurd (omega arith);
  left = map_as M (left_of f 0) (λ x _. sym (rw (le-leb 0 (tally f x) (omega arith)) (both_yes (f x))));
}

-- a number taken is one less in the count
pub took_count : {ms ms' : List ℕ} (S : Sound ms) (m : ℕ) → m < map_nodes → map_bit ms m ≡ 1 →
    ((f : ℕ → Bool) → MapOf f ms → MapOf (put f m false) ms') → get_or ms' map_count 0 + 1 ≡ get_or ms map_count 0
took_count S m lt on took =
    let one : one_if (S.free m) ≡ 1 = sym (S.is.bits m lt) ∙ on in
    let none : one_if false ≡ 0 = refl in
    omega (arith, (took S.free S.is).count_is, S.is.count_is, count_put S.free m false map_nodes lt)

-- what drawing comes to
module _ (f : ℕ → Bool) (need : ℕ) (nums ms : List ℕ) where
  pub draws_none : get_or ms map_count 0 < need → Draws f need nums ms ms false
  draws_none lt = record {
    enough = λ z. absurd (clash z refl);
    drawn = λ z. absurd (clash z refl);
    short = λ z. lt;
    same = λ z. refl;
  }

  pub draws_all : (ms' : List ℕ) → need ≤ get_or ms map_count 0 → Drawn f need nums ms' → Draws f need nums ms ms' true
  draws_all ms' le d = record {
    enough = λ z. le;
    drawn = λ z. d;
    short = λ z. absurd (clash refl z);
    same = λ z. absurd (clash refl z);
  }
