-- Storing and erasing keep a list valid, and at most one entry covers an index.
use Prim.Native.Nat.{ℕ, ◌+◌, ◌*◌, ◌^◌, ◌≤◌, ◌<◌}
use mathlib.Core.Path.{◌≡◌, refl, sym, ap, subst, ◌∙◌}
use mathlib.Core.Bool.{Bool, true, false}
use mathlib.Core.List.{List, map}
use mathlib.Core.Option.{none, some}
use native.Mathlib.Omega.{arith}
use native.Mathlib.Nat.{le_refl, le_trans, lt_of_le_of_lt, div-eq_of_lt-le}
use lib.Dec.{leb, ltb, eqb, T}
use borrow.Author.Tests.{le-leb, leb-true, leb-false, eqb-true, ltb-true, ltb-false, eq-eqb}
use Rattle.blocks.specs.Choice.{both}
use Rattle.blocks.specs.Lists.{any, without, All, end, also, In}
use Rattle.blocks.specs.Blocks.{block}
use Rattle.blocks.proofs.BoolLaws.{clash, by_t, iff, is_false, both_i, both_l, both_r, T_true}
use Rattle.blocks.proofs.ListLaws.{
  All-map,
  All-without,
  any_no,
  first_yes,
  first_no,
  without_none,
  without_same,
  keep_none,
  each,
  look,
}
use Rattle.blocks.proofs.BlockLaws.{pow_pos, block_up, block_at, block_lo, block_hi}
use Rattle.model.specs.declared.Entry.{Entry}
use Rattle.model.specs.Model.{
  EntryOk,
  storable,
  reserved_word,
  enterable,
  is_word_ok,
  marks_of,
  insert,
  covers,
  covering,
  starts,
  over,
  erase,
  Sorted,
  done,
  more,
  Valid,
  max_order,
}
use Rattle.model.specs.ByBlock.{inside, clear, new_entry, store_new, with_word, store}
use Rattle.model.proofs.RangeLaws.{Room, clear_uncovered}
use Rattle.model.proofs.MarkLaws.{marks_lt}

pub block_in : (j c y : ℕ) → c * 2 ^ j ≤ y → y < c * 2 ^ j + 2 ^ j → block j y ≡ c
block_in j c y a b = div-eq_of_lt-le (2 ^ j) a (omega arith)

-- an entry covers the indices of its run
pub covers_i : (x : Entry) (y : ℕ) → EntryOk x → x.base ≤ y → y < x.base + 2 ^ x.order → covers y x ≡ true
covers_i x y ok a b = eq-eqb _ _ (block_in x.order (block x.order x.base) y (rw ok.aligned a)
    (rw ok.aligned b))

pub covers_lo : (x : Entry) (y : ℕ) → EntryOk x → covers y x ≡ true → x.base ≤ y
covers_lo x y ok t = subst (λ (b : ℕ). b ≤ y) (ap (λ (q : ℕ). q * 2 ^ x.order) (eqb-true _ _ t) ∙ ok.aligned)
    (block_lo x.order y)

pub covers_hi : (x : Entry) (y : ℕ) → EntryOk x → covers y x ≡ true → y < x.base + 2 ^ x.order
covers_hi x y ok t = subst (λ (b : ℕ). y < b + 2 ^ x.order)
    (ap (λ (q : ℕ). q * 2 ^ x.order) (eqb-true _ _ t) ∙ ok.aligned) (block_hi x.order y)

pub covers_self : (x : Entry) → covers x.base x ≡ true
covers_self x = eq-eqb (block x.order x.base) _ refl

pub sorted_ok : {n : ℕ} {l : List Entry} → Sorted n l → All EntryOk l
sorted_ok done = end
sorted_ok (more h ok s) = also ok (sorted_ok s)

pub sorted_low : {n : ℕ} {l : List Entry} (m : ℕ) → m ≤ n → Sorted n l → Sorted m l
sorted_low m le done = done
sorted_low m le (more h ok s) = more (le_trans le h) ok s

pub sorted_without : (q : Entry → Bool) {n : ℕ} {l : List Entry} → Sorted n l → Sorted n (without q l)
sorted_without q done = done
sorted_without q (more {e} h ok s) =
    by_t (q e) (λ t. rw t (sorted_low _ (omega arith) (sorted_without q s)))
    (λ t. rw t (more h ok (sorted_without q s)))

-- the runs of e and x do not overlap
abbrev pub Beside : Entry → Entry → Type 0
Beside e x = (x.base < e.base → x.base + 2 ^ x.order ≤ e.base) ×
    (e.base ≤ x.base → e.base + 2 ^ e.order ≤ x.base)

sorted_insert : {n : ℕ} {l : List Entry} (e : Entry) → n ≤ e.base → EntryOk e → Sorted n l → All (Beside e) l →
    Sorted n (insert e l)
sorted_insert e le ok done end = more le ok done
sorted_insert e le ok (more {e = x} h okx s) (also b a) =
    by_t (ltb e.base x.base) (λ t. rw t (more le ok (more (b.1 (omega (arith, ltb-true))) okx s)))
    (λ t. rw t (more h okx (sorted_insert e (before t) ok s a)))
  where
    before : ltb e.base x.base ≡ false → x.base + 2 ^ x.order ≤ e.base
    before t =
        by_t (ltb x.base e.base) (λ d. b.0 (ltb-true _ _ d))
        (λ d. absurd (omega (arith, pow_pos e.order, b.1 (omega (arith, ltb-false)), ltb-false)))

pub room : (l : List Entry) (i k : ℕ) → any (over i k) l ≡ false → All (Room i k) l
room l i k n =
    All-map (λ x f t. by_t (leb k x.order) (λ s. absurd (clash {b = over i k x} (rw (t, s)) f))
    (λ s. omega (arith, leb-false))) (any_no (over i k) l n)

-- what is cleared lies beside the run
module _ (i k w : ℕ) (l : List Entry) where
  beside : (x : Entry) → EntryOk x → starts k (block k i) x ≡ false → (covers (block k i * 2 ^ k) x ≡ true → ⊥) →
      Beside (new_entry l i k w) x
  beside x ok n c = (
    (λ h. by_t (leb (x.base + 2 ^ x.order) (block k i * 2 ^ k)) (leb-true _ _)
        (λ t. absurd (c (covers_i x _ ok (omega arith) (leb-false _ _ t))))),
    (λ h. by_t (leb (block k i * 2 ^ k + 2 ^ k) x.base) (leb-true _ _)
        (λ t. absurd (clash (eq-eqb _ _ (block_in k (block k i) x.base h (leb-false _ _ t))) n))),
  )

  all_beside : All EntryOk l → All (Room i k) l → All (Beside (new_entry l i k w)) (clear l i k)
  all_beside ok r = zip (All-without (starts k (block k i)) ok)
      (clear_uncovered i k l r (block k i * 2 ^ k) (block_at k (block k i)))
    where
      zip : {s : List Entry} → All (λ x. (starts k (block k i) x ≡ false) × EntryOk x) s →
          All (λ x. covers (block k i * 2 ^ k) x ≡ true → ⊥) s → All (Beside (new_entry l i k w)) s
      zip end end = end
      zip (also {x} h a) (also c d) = also (beside x h.1 h.0 c) (zip a d)

  -- where nothing covers the index, a new entry of order 0 has no marks
  pub bare : any (over i k) l ≡ false → k ≡ 0 → marks_of (inside l i k) ≡ 0
  bare n z = ap marks_of (keep_none (starts k (block k i)) (All-map (λ x f. off x f) (any_no (over i k) l n)))
    where
      off : (x : Entry) → over i k x ≡ false → starts k (block k i) x ≡ false
      off x f = is_false (λ t. clash (both_i (eq-eqb _ _ (sym (up x (eqb-true _ _ t))))
          (le-leb k x.order (omega (arith, z)))) f)
        where
          up : (x : Entry) → block k x.base ≡ block k i → block x.order x.base ≡ block x.order i
          up x q = block_up {j = k} {k = x.order} x.base i (omega (arith, z)) q

  new_word : any (over i k) l ≡ false → T (enterable k w) → T (is_word_ok (new_entry l i k w))
  new_word n st = by_t (storable w) (λ t. rw t tt) (λ t. let h : T (both (eqb w reserved_word) (eqb k 0)) = rw t at st in
      let h' : both (eqb w reserved_word) (eqb k 0) ≡ true = T_true _ h in
      let a : eqb w reserved_word ≡ true = both_l (eqb w reserved_word) _ h' in
      let b : eqb k 0 ≡ true = both_r (eqb w reserved_word) _ h' in
      rw (t, a, b, bare n (eqb-true _ _ b)) tt)

  new_ok : any (over i k) l ≡ false → i < 2 ^ 64 → k ≤ max_order → T (enterable k w) → w < 2 ^ 64 → EntryOk (new_entry l i k w)
  new_ok n i< k≤ st w< = record {
    order_le = k≤;
    aligned = ap (λ (q : ℕ). q * 2 ^ k) (block_at k (block k i));
    in_range = lt_of_le_of_lt (block_lo k i) i<;
    word_ok = new_word n st;
    word_fits = w<;
    marks_fit = marks_lt (inside l i k);
  }

  pub store_at_valid : Valid l → any (over i k) l ≡ false → i < 2 ^ 64 → k ≤ max_order → T (enterable k w) → w < 2 ^ 64 →
      Valid (store_new l i k w)
  store_at_valid v n i< k≤ st w< =
      sorted_insert (new_entry l i k w) (omega arith) (new_ok n i< k≤ st w<) (sorted_without (starts k (block k i)) v)
      (all_beside (sorted_ok v) (room l i k n))

-- ONE ENTRY AT MOST COVERS AN INDEX
sorted_above : {n : ℕ} {l : List Entry} (y : ℕ) → y < n → Sorted n l → All (λ x. covers y x ≡ true → ⊥) l
sorted_above y lt done = end
sorted_above y lt (more {e} h ok s) = also (λ (t : covers y e ≡ true). omega (arith, covers_lo e y ok t))
    (sorted_above y (omega (arith, pow_pos e.order)) s)

pub sole : {n : ℕ} {l : List Entry} (y : ℕ) → Sorted n l → All (λ x. covers y x ≡ true → covering l y ≡ some x) l
sole y done = end
sole y (more {e} {l} h ok s) =
    by_t (covers y e) (λ t. also (λ _. rw t) (All-map (λ x f d. absurd (f d)) (sorted_above y (covers_hi e y ok t) s)))
    (λ t. also (λ d. absurd (clash d t)) (rw t (sole y s)))

pub unique : {l : List Entry} {x y : Entry} (z : ℕ) → Valid l → In x l → In y l → covers z x ≡ true →
    covers z y ≡ true → x ≡ y
unique {l} {x} {y} z v m n s t =
    let p : covering l z ≡ some x = look (sole z v) m s in
    let q : covering l z ≡ some y = look (sole z v) n t in
    cc

pub room_some : {l : List Entry} {e : Entry} (i : ℕ) → Valid l → covering l i ≡ some e → All (Room i e.order) l
room_some {l} {e} i v q = All-map (λ x f t. let d : e ≡ x = cc (f t) in rw d (le_refl _)) (sole i v)

sorted_word : (i w : ℕ) → T (storable w) → w < 2 ^ 64 → {n : ℕ} {l : List Entry} → Sorted n l →
    Sorted n (map (with_word i w) l)
sorted_word i w st w< done = done
sorted_word i w st w< (more {e} h ok s) = more {e = with_word i w e} h (record {
  order_le = ok.order_le;
  aligned = ok.aligned;
  in_range = ok.in_range;
  word_ok = by_t (covers i e) (λ t. rw (t, T_true (storable w) st) tt) (λ t. rw t ok.word_ok);
  word_fits = by_t (covers i e) (λ t. rw t w<) (λ t. rw t ok.word_fits);
  marks_fit = ok.marks_fit;
}) (sorted_word i w st w< s)

pub storable_enters : (k w : ℕ) → T (storable w) → T (enterable k w)
storable_enters k w st = rw (T_true (storable w) st) tt

pub store_valid : {l : List Entry} (i k w : ℕ) → Valid l → i < 2 ^ 64 → k ≤ max_order → T (storable w) → w < 2 ^ 64 →
    Valid (store l i k w)
store_valid {l} i k w v i< k≤ st w< =
    by_t (any (over i k) l) (λ t. rw t (sorted_word i w st w< v))
    (λ t. rw t (store_at_valid i k w l v t i< k≤ (storable_enters k w st) w<))

pub erase_valid : {l : List Entry} (i : ℕ) → Valid l → Valid (erase l i)
erase_valid i v = sorted_without (covers i) v

-- erasing is clearing the run of the entry that covers i
pub erase_clear : {l : List Entry} {e : Entry} (i : ℕ) → Valid l → covering l i ≡ some e →
    erase l i ≡ clear l i e.order
erase_clear {l} {e} i v q =
    let (c, k) = first_yes (covers i) (each l (λ x m. m)) q in
    let c' : block e.order i ≡ block e.order e.base = eqb-true _ _ c in
    without_same (covers i) (starts e.order (block e.order i)) (each l (λ x m. iff (covers i x) _
    (λ t. let d : x ≡ e = unique i v m k t c in rw d (eq-eqb _ _ (sym c')))
    (λ t. let d : x ≡ e = unique x.base v m k (covers_self x) (eq-eqb _ _ (eqb-true _ _ t ∙ c')) in rw d c)))

pub erase_none : {l : List Entry} (i : ℕ) → covering l i ≡ none → erase l i ≡ l
erase_none {l} i q = without_none (covers i) (first_no (covers i) l q)
