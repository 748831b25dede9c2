-- A list with one entry for a part of it, in a slice.
use Prim.Native.Nat.{ℕ, zero, suc, ◌+◌, ◌-◌, ◌^◌, ◌≤◌, ◌<◌}
use mathlib.Core.Path.{◌≡◌, refl, sym, ap, subst, ◌∙◌}
use mathlib.Core.Bool.{false}
use mathlib.Core.List.{List, [], ◌∷◌}
use native.Mathlib.Omega.{arith}
use lib.Dec.{eqb, ltb, leb}
use lib.ListN.{length, get_or, take, drop, length-take, get_or-append, get_or-eq_default}
use lib.Seq.{get_or-append-add, get_or-take, get_or-drop}
use borrow.Author.Tests.{eqb-true, eqb-false, ltb-true, ltb-false, lt-ltb, le-ltb, le-leb, lt-leb}
use Rattle.blocks.specs.Lists.{without, All, end, also}
use Rattle.blocks.proofs.BoolLaws.{by_t, both_no}
use Rattle.blocks.proofs.ListLaws.{without_none}
use Rattle.blocks.proofs.BlockLaws.{pow_pos}
use Rattle.model.specs.declared.Entry.{Entry}
use Rattle.model.specs.Model.{Sorted, more, done, starts_in, clear, insert}
use Rattle.xaplain.specs.Slices.{column}
use Rattle.xaplain.specs.Moves.{Holds, Columns, Spliced, replaced, below}
use Rattle.xaplain.proofs.PlainLaws.{blank, nth, column_nth}

-- two lists with the same numbers at each place
pub list_ext : (xs ys : List ℕ) → length xs ≡ length ys → ((k : ℕ) → k < length xs → get_or xs k 0 ≡ get_or ys k 0) → xs ≡ ys
list_ext [] [] e f = refl
list_ext [] (y ∷ ys) e f = absurd (omega arith)
list_ext (x ∷ xs) [] e f = absurd (omega arith)
list_ext (x ∷ xs) (y ∷ ys) e f =
    let h : x ≡ y = f 0 (omega arith) in
    rw h (ap (λ (t : List ℕ). y ∷ t) (list_ext xs ys (omega arith) (λ k g. f (suc k) (omega arith))))

pub column_length : (f : Entry → ℕ) (r : ℕ) (l : List Entry) → length (column f r l) ≡ r
column_length f zero l = refl
column_length f (suc r) [] = ap suc (column_length f r [])
column_length f (suc r) (e ∷ l) = ap suc (column_length f r l)

module _ (p q : ℕ) (e : Entry) (l : List Entry) (h : p ≤ length l) where
  taken : length (take p l) ≡ p
  taken = length-take p l ∙ omega arith

  nth_before : (k : ℕ) → k < p → nth (replaced p q e l) k ≡ nth l k
  nth_before k g = get_or-append (take p l) (e ∷ drop q l) blank k (omega (arith, taken)) ∙ get_or-take p l k blank g

  nth_from : (j : ℕ) → nth (replaced p q e l) (p + j) ≡ get_or (e ∷ drop q l) j blank
  nth_from j = ap (λ (x : ℕ). nth (replaced p q e l) (x + j)) (sym taken) ∙ get_or-append-add (take p l) (e ∷ drop q l) j blank

  nth_new : nth (replaced p q e l) p ≡ e
  nth_new = ap (nth (replaced p q e l)) (omega arith) ∙ nth_from 0

  nth_after : (j : ℕ) → nth (replaced p q e l) (p + 1 + j) ≡ nth l (q + j)
  nth_after j = ap (nth (replaced p q e l)) (omega arith) ∙ nth_from (suc j) ∙ get_or-drop q l j blank

-- the slice after a splice holds the field of each entry of the list after it
pub column_splice : (f : Entry → ℕ) → f blank ≡ 0 → (room p q n : ℕ) (e : Entry) (l : List Entry) (ys : List ℕ) → length l ≡ n →
    p ≤ q → q ≤ n → n ≤ room → Spliced (column f room l) ys p q n (f e) → ys ≡ column f room (replaced p q e l)
column_splice f z room p q n e l ys ln pq qn nr s =
    list_ext ys (column f room (replaced p q e l)) (s.same_length ∙ column_length f room l ∙ sym (column_length f room (replaced p q e l)))
    (λ k g. let r : k < room = omega (arith, s.same_length, column_length f room l) in
    at k r ∙ sym (column_nth f z room (replaced p q e l) k r))
  where
    hp : p ≤ length l
    hp = omega arith

    old : (k : ℕ) → k < room → get_or (column f room l) k 0 ≡ f (nth l k)
    old k g = column_nth f z room l k g

    past : (k : ℕ) → n ≤ k → f (nth l k) ≡ 0
    past k g = ap f (get_or-eq_default l blank (omega arith)) ∙ z

    later : (k : ℕ) → k < room → p < k → get_or ys k 0 ≡ f (nth (replaced p q e l) k)
    later k g b =
        let j = k - (p + 1) in
        let is : p + 1 + (k - (p + 1)) ≡ k = omega arith in
        let new : f (nth (replaced p q e l) k) ≡ f (nth l (q + (k - (p + 1)))) =
        ap (λ (x : ℕ). f (nth (replaced p q e l) x)) (sym is) ∙ ap f (nth_after p q e l hp (k - (p + 1))) in
        by_t (ltb (k - (p + 1)) (n - q))
        (λ t. let m : k - (p + 1) < n - q = ltb-true _ _ t in
        ap (λ (x : ℕ). get_or ys x 0) (sym is) ∙ s.moved (k - (p + 1)) m ∙ old (q + (k - (p + 1))) (omega arith) ∙ sym new)
        (λ t. let m : n - q ≤ k - (p + 1) = ltb-false _ _ t in
        let zero-new : f (nth (replaced p q e l) k) ≡ 0 = new ∙ past (q + (k - (p + 1))) (omega arith) in
        by_t (ltb k n) (λ u. s.zeros k (omega arith) (ltb-true _ _ u) ∙ sym zero-new)
        (λ u. let v : n ≤ k = ltb-false _ _ u in s.after k v (omega arith) ∙ old k g ∙ past k v ∙ sym zero-new))

    at : (k : ℕ) → k < room → get_or ys k 0 ≡ f (nth (replaced p q e l) k)
    at k g =
        by_t (ltb k p) (λ t. let b : k < p = ltb-true _ _ t in s.before k b ∙ old k g ∙ sym (ap f (nth_before p q e l hp k b)))
        (λ t. by_t (eqb k p)
        (λ u. let d : k ≡ p = eqb-true _ _ u in
        ap (λ (x : ℕ). get_or ys x 0) d ∙ s.new ∙ sym (ap f (ap (nth (replaced p q e l)) d ∙ nth_new p q e l hp)))
        (λ u. later k g (omega (arith, ltb-false k p t, eqb-false k p u))))

-- THE LIST AFTER A STORE
pub sorted_starts : {m : ℕ} {l : List Entry} (i k : ℕ) → Sorted m l → i + 2 ^ k ≤ m → All (λ x. starts_in i k x ≡ false) l
sorted_starts i k done h = end
sorted_starts i k (more {e = x} g ok s) h =
    also {x = x} (rw (le-ltb x.base (i + 2 ^ k) (omega arith)) (both_no (leb i x.base))) (sorted_starts i k s (omega arith))

pub below_none : {m : ℕ} {l : List Entry} (x : ℕ) → Sorted m l → x ≤ m → below x l ≡ 0
below_none x done h = refl
below_none x (more {e = y} g ok s) h = rw (le-ltb y.base x (omega arith))

-- a new entry and the list without those in its run: one for a part of the list
pub insert_clear : {m : ℕ} {l : List Entry} (k : ℕ) (e : Entry) → Sorted m l →
    insert e (clear l e.base k) ≡ replaced (below e.base l) (below (e.base + 2 ^ k) l) e l
insert_clear k e done = refl
insert_clear k e (more {e = x} {l = l} g ok s) =
    by_t (ltb x.base e.base)
    (λ t. let a : x.base < e.base = ltb-true _ _ t in
    rw (
      t,
      lt-leb e.base x.base a,
      lt-ltb x.base (e.base + 2 ^ k) (omega arith),
      le-ltb e.base x.base (omega arith),
    ) (ap (λ (y : List Entry). x ∷ y) (insert_clear k e s)))
    (λ t. let a : e.base ≤ x.base = ltb-false _ _ t in
    by_t (ltb x.base (e.base + 2 ^ k))
    (λ u. let b : e.base < x.base + 2 ^ x.order = omega (arith, pow_pos x.order) in
    let z : below e.base l ≡ 0 = below_none e.base s (omega arith) in
    rw (t, u, le-leb e.base x.base a)
    (insert_clear k e s ∙ ap (λ (y : ℕ). replaced y (below (e.base + 2 ^ k) l) e l) z))
    (λ u. let b : e.base + 2 ^ k ≤ x.base = ltb-false _ _ u in
    let n : without (starts_in e.base k) l ≡ l = without_none (starts_in e.base k) (sorted_starts e.base k s (omega arith)) in
    rw (t, u, le-leb e.base x.base a, lt-ltb e.base x.base (omega (arith, pow_pos k)), n)))

-- where a search stops
pub stops_below : (l : List Entry) (x r : ℕ) → r ≤ length l → ((k : ℕ) → k < r → (nth l k).base ≤ x) →
    ((k : ℕ) → r ≤ k → k < length l → x < (nth l k).base) → r ≡ below (suc x) l
stops_below [] x r h a b = omega arith
stops_below (e ∷ l) x zero h a b = rw (le-ltb e.base (suc x) (omega (arith, b 0 (omega arith) (omega arith))))
stops_below (e ∷ l) x (suc r) h a b =
    rw (lt-ltb e.base (suc x) (omega (arith, a 0 (omega arith))))
    (ap suc (stops_below l x r (omega arith) (λ k g. a (suc k) (omega arith)) (λ k g i. b (suc k) (omega arith) (omega arith))))

-- the four slices after a put
module _ {index order word marks : List ℕ} {n : ℕ} (h : Holds index order word marks n) (p q : ℕ) (e : Entry) where
  one : (f : Entry → ℕ) → f blank ≡ 0 → (xs ys : List ℕ) → xs ≡ column f (length index) h.list → p ≤ q → q ≤ n →
      Spliced xs ys p q n (f e) → ys ≡ column f (length index) (replaced p q e h.list)
  one f z xs ys c a b s =
      column_splice f z (length index) p q n e h.list ys h.count a b h.fits (subst (λ (x : List ℕ). Spliced x ys p q n (f e)) c s)

  pub put_columns : {index' order' word' marks' : List ℕ} → p ≤ q → q ≤ n → Spliced index index' p q n e.base → Spliced order order' p q n e.order →
      Spliced word word' p q n e.word → Spliced marks marks' p q n e.marks →
      Columns index' order' word' marks' (length index) (replaced p q e h.list)
  put_columns {index'} {order'} {word'} {marks'} a b i o w m = record {
    index_is = one (λ x. x.base) refl index index' h.index_is a b i;
    order_is = one (λ x. x.order) refl order order' h.order_is a b o;
    word_is = one (λ x. x.word) refl word word' h.word_is a b w;
    marks_are = one (λ x. x.marks) refl marks marks' h.marks_are a b m;
  }
