-- The check says yes exactly where some list stands in the slices.
use Prim.Native.Nat.{ℕ, zero, suc, ◌+◌, ◌-◌, ◌*◌, ◌%◌, ◌^◌, ◌≤◌, ◌<◌}
use mathlib.Core.Path.{◌≡◌, refl, sym, ap, subst, ◌∙◌}
use mathlib.Core.Bool.{Bool, true, not}
use mathlib.Core.Logic.{◌≢◌}
use mathlib.Core.List.{List, [], ◌∷◌}
use native.Mathlib.Omega.{arith}
use native.Mathlib.Nat.{le_refl, zero-add, div-add-mod}
use lib.Dec.{leb, ltb, eqb, T}
use lib.ListN.{length, get_or, get_or-eq_default}
use borrow.Author.Tests.{leb-true, ltb-true, ltb-false, eqb-true, eqb-false, le-leb, lt-ltb, eq-eqb, ne_eqb}
use Rattle.blocks.specs.Choice.{both, either}
use Rattle.blocks.specs.Lists.{All, end, also}
use Rattle.blocks.specs.Blocks.{block}
use Rattle.blocks.proofs.BoolLaws.{by_t, both_i, both_l, both_r, T_true}
use Rattle.model.specs.declared.Entry.{Entry}
use Rattle.model.specs.Model.{EntryOk, Sorted, more, done, Valid, max_order, aligned, is_word_ok}
use Rattle.model.proofs.AlignedLaws.{base_aligned}
use Rattle.xaplain.specs.Slices.{column, entry_at, entries_from, list_of, fits_entry, in_order, zeros_from, rest_zero, holds_list}
use Rattle.xaplain.specs.Moves.{Columns}
use Rattle.blocks.proofs.ListLaws.{look}
use Rattle.model.proofs.ValidLaws.{sorted_ok}
use Rattle.xaplain.proofs.PlainLaws.{blank, nth, nth_in, column_nth}
use Rattle.xaplain.proofs.ColumnLaws.{list_ext, column_length}

-- zeros
zeros_at : (xs : List ℕ) (n k : ℕ) → zeros_from xs n k ≡ true → (j : ℕ) → k ≤ j → j < k + n → get_or xs j 0 ≡ 0
unfolding zeros_from
zeros_at xs zero k t j a b = absurd (omega arith)
zeros_at xs (suc n) k t j a b =
    by_t (eqb j k)
    (λ u. let e : j ≡ k = eqb-true _ _ u in ap (λ (x : ℕ). get_or xs x 0) e ∙ eqb-true _ _ (both_l (eqb (get_or xs k 0) 0) (zeros_from xs n (suc k)) t))
    (λ u. let e : j ≢ k = eqb-false _ _ u in zeros_at xs n (suc k) (both_r (eqb (get_or xs k 0) 0) (zeros_from xs n (suc k)) t) j (omega (arith, e)) (omega arith))

zeros_if : (xs : List ℕ) (n k : ℕ) → ((j : ℕ) → k ≤ j → j < k + n → get_or xs j 0 ≡ 0) → zeros_from xs n k ≡ true
unfolding zeros_from
zeros_if xs zero k f = refl
zeros_if xs (suc n) k f =
    both_i (eq-eqb (get_or xs k 0) 0 (f k (omega arith) (omega arith))) (zeros_if xs n (suc k) (λ j a b. f j (omega arith) (omega arith)))

-- the list that is read
module _ (is os ws ms : List ℕ) where
  read_nth : (n k j : ℕ) → j < length (entries_from is os ws ms n k) → nth (entries_from is os ws ms n k) j ≡ entry_at is os ws ms (k + j)
  read_nth zero k j h = absurd (omega arith)
  read_nth (suc n) k j h =
      by_t (eqb (get_or ws k 0) 0) (λ t. absurd (let z : j < 0 = rw t at h in omega arith))
      (λ t. rw t (go j (rw t at h) (λ i g. read_nth n (suc k) i g)))
    where
      go : (j : ℕ) → j < suc (length (entries_from is os ws ms n (suc k))) →
          ((i : ℕ) → i < length (entries_from is os ws ms n (suc k)) → nth (entries_from is os ws ms n (suc k)) i ≡ entry_at is os ws ms (suc k + i)) →
          nth (entry_at is os ws ms k ∷ entries_from is os ws ms n (suc k)) j ≡ entry_at is os ws ms (k + j)
      go zero h r = ap (entry_at is os ws ms) (omega arith)
      go (suc i) h r = r i (omega arith) ∙ ap (entry_at is os ws ms) (omega arith)

  read_short : (n k : ℕ) → length (entries_from is os ws ms n k) ≤ n
  read_short zero k = le_refl 0
  read_short (suc n) k = by_t (eqb (get_or ws k 0) 0) (λ t. rw t (omega arith)) (λ t. rw t (omega (arith, read_short n (suc k))))

-- a slice whose rest is zero is a column
rest_column : (f : Entry → ℕ) → f blank ≡ 0 → (xs : List ℕ) (l : List Entry) → length l ≤ length xs → ((j : ℕ) → j < length l → f (nth l j) ≡ get_or xs j 0) →
    rest_zero xs (length l) ≡ true → xs ≡ column f (length xs) l
rest_column f z xs l h g t =
    list_ext xs (column f (length xs) l) (sym (column_length f (length xs) l))
    (λ k b. by_t (ltb k (length l))
    (λ u. sym (g k (ltb-true _ _ u)) ∙ sym (column_nth f z (length xs) l k b))
    (λ u. let a : length l ≤ k = ltb-false _ _ u in
    zeros_at xs (length xs - length l) (length l) t k a (omega arith)
    ∙ sym (ap f (get_or-eq_default l blank a) ∙ z) ∙ sym (column_nth f z (length xs) l k b)))

-- VALID
abbrev Small : Entry → Type 0
Small e = (e.base < 2 ^ 64) × (e.word < 2 ^ 64)

pub aligned_base : (e : Entry) → aligned e.order e.base ≡ true → block e.order e.base * 2 ^ e.order ≡ e.base
aligned_base e t =
    let m : e.base % 2 ^ e.order ≡ 0 = eqb-true _ _ t in
    let d = div-add-mod e.base (2 ^ e.order) in
    omega (arith, d)

pub entry_ok : (e : Entry) → Small e → fits_entry e ≡ true → EntryOk e
entry_ok e s t =
    let a : Bool = leb e.order max_order in
    let b : Bool = aligned e.order e.base in
    let c : Bool = is_word_ok e in
    let d : Bool = ltb e.marks 8 in
    let t₁ : both b (both c d) ≡ true = both_r a (both b (both c d)) t in
    let t₂ : both c d ≡ true = both_r b (both c d) t₁ in
    record {
      order_le = leb-true _ _ (both_l a (both b (both c d)) t);
      aligned = aligned_base e (both_l b (both c d) t₁);
      in_range = s.0;
      word_ok = subst T (sym (both_l c d t₂)) tt;
      word_fits = s.1;
      marks_fit = ltb-true _ _ (both_r c d t₂);
    }

ok_fits : (e : Entry) → EntryOk e → fits_entry e ≡ true
ok_fits e o = both_i (le-leb e.order max_order o.order_le)
    (both_i (base_aligned e o) (both_i (T_true (is_word_ok e) o.word_ok) (lt-ltb e.marks 8 o.marks_fit)))

pub in_order_lem : (n : ℕ) (l : List Entry) → All Small l → in_order n l ≡ true → Sorted n l
unfolding in_order
in_order_lem n [] a t = done
in_order_lem n (e ∷ l) (also s a) t =
    let r : both (fits_entry e) (in_order (e.base + 2 ^ e.order) l) ≡ true = both_r (leb n e.base) _ t in
    more (leb-true _ _ (both_l (leb n e.base) _ t)) (entry_ok e s (both_l (fits_entry e) _ r))
    (in_order_lem (e.base + 2 ^ e.order) l a (both_r (fits_entry e) _ r))

pub order_in : {n : ℕ} {l : List Entry} → Sorted n l → in_order n l ≡ true
unfolding in_order
order_in done = refl
order_in (more {n} {e} h ok s) = both_i (le-leb n e.base h) (both_i (ok_fits e ok) (order_in s))

-- THE CHECK
-- words of 64 bits
pub record Words (xs : List ℕ) : Type 0 where
  pub small : (k : ℕ) → get_or xs k 0 < 2 ^ 64

all_nth : {P : Entry → Type 0} (l : List Entry) → ((j : ℕ) → j < length l → P (nth l j)) → All P l
all_nth [] f = end
all_nth (e ∷ l) f = also (f 0 (omega arith)) (all_nth l (λ j h. f (suc j) (omega arith)))

-- four slices hold a list: some valid list prescribes them
pub record Prescribes (is os ws ms : List ℕ) (l : List Entry) : Type 0 where
  pub valid : Valid l
  pub fits : length l ≤ length is
  pub columns : Columns is os ws ms (length is) l

module _ (is os ws ms : List ℕ) (lo : length os ≡ length is) (lw : length ws ≡ length is) (lm : length ms ≡ length is) where
  -- yes: the list that was read does
  pub yes : Words is → Words ws → holds_list is os ws ms ≡ true → Prescribes is os ws ms (list_of is os ws ms)
  unfolding list_of
  yes wi ww t =
      let l : List Entry = entries_from is os ws ms (length is) 0 in
      let a : Bool = in_order 0 (entries_from is os ws ms (length is) 0) in
      let b : Bool = rest_zero is (length (entries_from is os ws ms (length is) 0)) in
      let c : Bool = rest_zero os (length (entries_from is os ws ms (length is) 0)) in
      let d : Bool = rest_zero ws (length (entries_from is os ws ms (length is) 0)) in
      let e : Bool = rest_zero ms (length (entries_from is os ws ms (length is) 0)) in
      let t₁ : both b (both c (both d e)) ≡ true = both_r a _ t in
      let t₂ : both c (both d e) ≡ true = both_r b _ t₁ in
      let t₃ : both d e ≡ true = both_r c _ t₂ in
      let short : length (entries_from is os ws ms (length is) 0) ≤ length is = read_short is os ws ms (length is) 0 in
      record {
        valid = in_order_lem 0 (entries_from is os ws ms (length is) 0) (all_nth (entries_from is os ws ms (length is) 0)
            (λ j h. subst Small (sym (read_nth is os ws ms (length is) 0 j h)) (wi.small (0 + j), ww.small (0 + j)))) (both_l a _ t);
        fits = short;
        columns = record {
          index_is = rest_column (λ x. x.base) refl is (entries_from is os ws ms (length is) 0) short (λ j h. at (λ x. x.base) j h) (both_l b _ t₁);
          order_is = subst (λ (r : ℕ). os ≡ column (λ x. x.order) r (entries_from is os ws ms (length is) 0)) lo
              (rest_column (λ x. x.order) refl os (entries_from is os ws ms (length is) 0) (omega arith) (λ j h. at (λ x. x.order) j h) (both_l c _ t₂));
          word_is = subst (λ (r : ℕ). ws ≡ column (λ x. x.word) r (entries_from is os ws ms (length is) 0)) lw
              (rest_column (λ x. x.word) refl ws (entries_from is os ws ms (length is) 0) (omega arith) (λ j h. at (λ x. x.word) j h) (both_l d e t₃));
          marks_are = subst (λ (r : ℕ). ms ≡ column (λ x. x.marks) r (entries_from is os ws ms (length is) 0)) lm
              (rest_column (λ x. x.marks) refl ms (entries_from is os ws ms (length is) 0) (omega arith) (λ j h. at (λ x. x.marks) j h) (both_r d e t₃));
        };
      }
    where
      at : (f : Entry → ℕ) (j : ℕ) → j < length (entries_from is os ws ms (length is) 0) →
          f (nth (entries_from is os ws ms (length is) 0) j) ≡ f (entry_at is os ws ms j)
      at f j h = ap f (read_nth is os ws ms (length is) 0 j h ∙ ap (entry_at is os ws ms) (zero-add j))

  -- no other list does: what is read is the list
  nonzero : (e : Entry) → EntryOk e → e.word ≢ 0
  nonzero e o z = subst (λ (w : ℕ). T (either (both (not (eqb w 0)) (not (eqb (w % 4) 2)))
      (both (eqb w 1030) (both (eqb e.order 0) (eqb e.marks 0))))) z o.word_ok

  read_is : (l : List Entry) (n k : ℕ) → length l ≤ n → ((j : ℕ) → j < length l → entry_at is os ws ms (k + j) ≡ nth l j) →
      ((j : ℕ) → j < length l → (nth l j).word ≢ 0) → (length l < n → get_or ws (k + length l) 0 ≡ 0) → entries_from is os ws ms n k ≡ l
  read_is [] zero k h a b c = refl
  read_is [] (suc n) k h a b c =
      let z : get_or ws k 0 ≡ 0 = ap (λ (x : ℕ). get_or ws x 0) (omega arith) ∙ c (omega arith) in rw (eq-eqb (get_or ws k 0) 0 z)
  read_is (e ∷ l) zero k h a b c = absurd (omega arith)
  read_is (e ∷ l) (suc n) k h a b c =
      let first : entry_at is os ws ms k ≡ e = ap (entry_at is os ws ms) (omega arith) ∙ a 0 (omega arith) in
      let w : get_or ws k 0 ≢ 0 = λ z. b 0 (omega arith) (sym (ap (λ (x : Entry). x.word) first) ∙ z) in
      rw (ne_eqb (get_or ws k 0) 0 w)
      (ap (λ (x : Entry). x ∷ entries_from is os ws ms n (suc k)) first
      ∙ ap (λ (x : List Entry). e ∷ x) (read_is l n (suc k) (omega arith)
      (λ j g. ap (entry_at is os ws ms) (omega arith) ∙ a (suc j) (omega arith))
      (λ j g. b (suc j) (omega arith))
      (λ g. ap (λ (x : ℕ). get_or ws x 0) (omega arith) ∙ c (omega arith))))

  module _ (l : List Entry) (p : Prescribes is os ws ms l) where
    field : (f : Entry → ℕ) → f blank ≡ 0 → (xs : List ℕ) → xs ≡ column f (length is) l → (j : ℕ) → j < length is → get_or xs j 0 ≡ f (nth l j)
    field f z xs e j h = ap (λ (x : List ℕ). get_or x j 0) e ∙ column_nth f z (length is) l j h

    same_entry : (j : ℕ) → j < length is → entry_at is os ws ms j ≡ nth l j
    same_entry j h =
        let a = field (λ x. x.base) refl is p.columns.index_is j h in
        let b = field (λ x. x.order) refl os p.columns.order_is j h in
        let c = field (λ x. x.word) refl ws p.columns.word_is j h in
        let d = field (λ x. x.marks) refl ms p.columns.marks_are j h in
        λ i. record { base = a i; order = b i; word = c i; marks = d i }

    pub only : list_of is os ws ms ≡ l
    unfolding list_of
    only = read_is l (length is) 0 p.fits
        (λ j h. ap (entry_at is os ws ms) (zero-add j) ∙ same_entry j (omega (arith, p.fits)))
        (λ j h. nonzero (nth l j) (look (sorted_ok p.valid) (nth_in l j h)))
        (λ h. ap (λ (x : ℕ). get_or ws x 0) (zero-add (length l)) ∙ field (λ x. x.word) refl ws p.columns.word_is (length l) h
        ∙ ap (λ (x : Entry). x.word) (get_or-eq_default l blank (le_refl (length l))))

    zero_rest : (f : Entry → ℕ) → f blank ≡ 0 → (xs : List ℕ) → length xs ≡ length is → xs ≡ column f (length is) l → rest_zero xs (length l) ≡ true
    zero_rest f z xs n e = zeros_if xs (length xs - length l) (length l)
        (λ j a b. field f z xs e j (omega (arith, p.fits)) ∙ ap f (get_or-eq_default l blank a) ∙ z)

    -- where some list stands in the slices the check says yes
    pub found : holds_list is os ws ms ≡ true
    found = rw only (both_i (order_in p.valid)
        (both_i (zero_rest (λ x. x.base) refl is refl p.columns.index_is)
        (both_i (zero_rest (λ x. x.order) refl os lo p.columns.order_is)
        (both_i (zero_rest (λ x. x.word) refl ws lw p.columns.word_is) (zero_rest (λ x. x.marks) refl ms lm p.columns.marks_are)))))
