-- The slices of the plain engine and the list that they hold.
use Prim.Native.Nat.{ℕ, zero, suc, ◌+◌, ◌-◌, ◌*◌, ◌/◌, ◌^◌, ◌≤◌, ◌<◌}
use mathlib.Core.Path.{◌≡◌, refl, sym, ap, subst, ◌∙◌}
use mathlib.Core.Bool.{true}
use mathlib.Core.List.{List, [], ◌∷◌}
use mathlib.Core.Option.{none, some}
use native.Mathlib.Omega.{arith}
use mathlib.Core.Logic.{◌≢◌}
use native.Mathlib.Nat.{le_refl, div-lt_iff_lt-mul, div-eq_of_lt}
use lib.Dec.{ltb}
use lib.ListN.{length, get_or}
use borrow.Author.Tests.{ltb-true, ltb-false}
use Rattle.blocks.specs.Lists.{In, here, there}
use Rattle.blocks.proofs.BoolLaws.{by_t}
use Rattle.blocks.proofs.ListLaws.{look, each, first_none}
use Rattle.blocks.proofs.BlockLaws.{pow_pos}
use Rattle.model.specs.declared.Entry.{Entry}
use Rattle.model.specs.Model.{EntryOk, Sorted, more, done, covers, covering}
use Rattle.model.proofs.ValidLaws.{covers_i, covers_lo, covers_hi, sorted_ok, sole}
use Rattle.xaplain.specs.Slices.{column}
use Rattle.xaplain.specs.Moves.{Holds, Rising, Splits}

-- what stands where no entry is
abbrev pub blank : Entry
blank = record { base = 0; order = 0; word = 0; marks = 0 }

abbrev pub nth : List Entry → ℕ → Entry
nth l k = get_or l k blank

-- a column at a place
pub column_nth : (f : Entry → ℕ) → f blank ≡ 0 → (r : ℕ) (l : List Entry) (k : ℕ) → k < r → get_or (column f r l) k 0 ≡ f (nth l k)
column_nth f z zero l k h = absurd (omega arith)
column_nth f z (suc r) [] zero h = sym z
column_nth f z (suc r) [] (suc k) h = column_nth f z r [] k (omega arith)
column_nth f z (suc r) (e ∷ l) zero h = refl
column_nth f z (suc r) (e ∷ l) (suc k) h = column_nth f z r l k (omega arith)

-- an entry of the list has a number, and each number below the length an entry
pub nth_in : (l : List Entry) (k : ℕ) → k < length l → In (nth l k) l
nth_in [] k h = absurd (omega arith)
nth_in (e ∷ l) zero h = here
nth_in (e ∷ l) (suc k) h = there (nth_in l k (omega arith))

pub in_nth : {l : List Entry} {x : Entry} → In x l → (k : ℕ) × (k < length l) × (nth l k ≡ x)
in_nth here = (0, omega arith, refl)
in_nth (there m) = let (k, h, e) = in_nth m in (suc k, omega arith, e)

-- ends and bases rise
pub above : {n : ℕ} {l : List Entry} (k : ℕ) → Sorted n l → k < length l → n ≤ (nth l k).base
above k done h = absurd (omega arith)
above zero (more h ok s) g = h
above (suc k) (more {e = x} h ok s) g = omega (arith, above k s (omega arith))

pub apart : {n : ℕ} {l : List Entry} (j k : ℕ) → Sorted n l → j < k → k < length l →
    (nth l j).base + 2 ^ (nth l j).order ≤ (nth l k).base
apart j k done h g = absurd (omega arith)
apart zero zero (more h ok s) g i = absurd (omega arith)
apart zero (suc k) (more h ok s) g i = above k s (omega arith)
apart (suc j) zero (more h ok s) g i = absurd (omega arith)
apart (suc j) (suc k) (more h ok s) g i = apart j k s (omega arith) (omega arith)

module _ {index order word marks : List ℕ} {n : ℕ} (h : Holds index order word marks n) where
  -- the fields of an entry
  pub index_at : (k : ℕ) → k < n → get_or index k 0 ≡ (nth h.list k).base
  index_at k g = ap (λ (xs : List ℕ). get_or xs k 0) h.index_is ∙ column_nth (λ e. e.base) refl (length index) h.list k (omega (arith, h.fits))

  pub order_at : (k : ℕ) → k < n → get_or order k 0 ≡ (nth h.list k).order
  order_at k g = ap (λ (xs : List ℕ). get_or xs k 0) h.order_is ∙ column_nth (λ e. e.order) refl (length index) h.list k (omega (arith, h.fits))

  pub word_at : (k : ℕ) → k < n → get_or word k 0 ≡ (nth h.list k).word
  word_at k g = ap (λ (xs : List ℕ). get_or xs k 0) h.word_is ∙ column_nth (λ e. e.word) refl (length index) h.list k (omega (arith, h.fits))

  pub marks_at : (k : ℕ) → k < n → get_or marks k 0 ≡ (nth h.list k).marks
  marks_at k g = ap (λ (xs : List ℕ). get_or xs k 0) h.marks_are ∙ column_nth (λ e. e.marks) refl (length index) h.list k (omega (arith, h.fits))

  pub entry_ok : (k : ℕ) → k < n → EntryOk (nth h.list k)
  entry_ok k g = look (sorted_ok h.valid) (nth_in h.list k (omega (arith, h.count)))

  pub holds_rises : Rising index n
  holds_rises = record { rises = go }
    where
      go : (j k : ℕ) → j ≤ k → k < n → get_or index j 0 ≤ get_or index k 0
      go j k a b =
          by_t (ltb j k)
          (λ t. omega (arith, apart j k h.valid (ltb-true j k t) (omega (arith, h.count)), index_at j (omega arith), index_at k b))
          (λ t. let e : j ≡ k = omega (arith, ltb-false j k t) in subst (λ (x : ℕ). get_or index j 0 ≤ get_or index x 0) e (le_refl _))

  -- what covers i, by where the search stopped
  module _ (i r : ℕ) (s : Splits index n i r) where
    none_over : ((x : Entry) → In x h.list → covers i x ≡ true → ⊥) → covering h.list i ≡ none
    none_over f = first_none (covers i) (each h.list f)

    -- an entry over i is the last that starts at i or before
    pub only_last : (x : Entry) → In x h.list → covers i x ≡ true → (0 < r) × (nth h.list (r - 1) ≡ x)
    only_last x m c =
        let (k, b, e) = in_nth m in
        let kn : k < n = omega (arith, h.count) in
        let ok : EntryOk x = look (sorted_ok h.valid) m in
        let lo : x.base ≤ i = covers_lo x i ok c in
        let hi : i < x.base + 2 ^ x.order = covers_hi x i ok c in
        let at : get_or index k 0 ≡ x.base = index_at k kn ∙ ap (λ (y : Entry). y.base) e in
        by_t (ltb k r)
        (λ t. let kr : k < r = ltb-true _ _ t in
        by_t (ltb (suc k) r)
        (λ u. let w : suc k < r = ltb-true _ _ u in
        let rn : r ≤ n = s.within in
        let far : (nth h.list k).base + 2 ^ (nth h.list k).order ≤ (nth h.list (suc k)).base =
        apart k (suc k) h.valid (omega arith) (omega (arith, h.count)) in
        let far' : x.base + 2 ^ x.order ≤ (nth h.list (suc k)).base =
        subst (λ (y : Entry). y.base + 2 ^ y.order ≤ (nth h.list (suc k)).base) e far in
        absurd (omega (arith, s.low (suc k) w, index_at (suc k) (omega arith))))
        (λ u. let w : r - 1 ≡ k = omega (arith, ltb-false (suc k) r u) in
        (omega arith, subst (λ (y : ℕ). nth h.list y ≡ x) (sym w) e)))
        (λ t. absurd (omega (arith, s.high k (ltb-false k r t) kn)))

    pub before_first : r ≡ 0 → covering h.list i ≡ none
    before_first z = none_over (λ x m c. let (p, e) = only_last x m c in omega arith)

    pub past_last : 0 < r → (nth h.list (r - 1)).base + 2 ^ (nth h.list (r - 1)).order ≤ i → covering h.list i ≡ none
    past_last p g = none_over (λ x m c. let (_, e) = only_last x m c in
        let ok : EntryOk x = look (sorted_ok h.valid) m in
        let hi : i < x.base + 2 ^ x.order = covers_hi x i ok c in
        let g' : x.base + 2 ^ x.order ≤ i = subst (λ (y : Entry). y.base + 2 ^ y.order ≤ i) e g in omega arith)

    pub in_last : 0 < r → i < (nth h.list (r - 1)).base + 2 ^ (nth h.list (r - 1)).order →
        covering h.list i ≡ some (nth h.list (r - 1))
    in_last p g =
        let rn : r ≤ n = s.within in
        let m : In (nth h.list (r - 1)) h.list = nth_in h.list (r - 1) (omega (arith, h.count)) in
        look (sole i h.valid) m
        (covers_i (nth h.list (r - 1)) i (look (sorted_ok h.valid) m)
        (omega (arith, s.low (r - 1) (omega arith), index_at (r - 1) (omega arith))) g)

-- the code's test: what is left of i above the base, in blocks of the order
pub inside_run : (b i k : ℕ) → b ≤ i → (i - b) / 2 ^ k ≡ 0 → i < b + 2 ^ k
inside_run b i k h e = let w : i - b < 1 * 2 ^ k = (div-lt_iff_lt-mul (pow_pos k)).0 (omega arith) in omega arith

pub past_run : (b i k : ℕ) → b ≤ i → ((i - b) / 2 ^ k ≡ 0 → ⊥) → b + 2 ^ k ≤ i
past_run b i k h e =
    by_t (ltb (i - b) (2 ^ k)) (λ t. absurd (e (div-eq_of_lt (ltb-true _ _ t)))) (λ t. omega (arith, ltb-false (i - b) (2 ^ k) t))

-- the entry before the place of i
module _ {index order word marks : List ℕ} {n : ℕ} (h : Holds index order word marks n) (i r : ℕ) (s : Splits index n i r) (p : r ≢ 0) where
  pub last_low : get_or index (r - 1) 0 ≤ i
  last_low = s.low (r - 1) (omega (arith, p))

  pub last_none : ((i - get_or index (r - 1) 0) / 2 ^ get_or order (r - 1) 0 ≡ 0 → ⊥) → covering h.list i ≡ none
  last_none e =
      let rn : r ≤ n = s.within in
      let far = past_run (get_or index (r - 1) 0) i (get_or order (r - 1) 0) last_low e in
      let far' = rw (index_at h (r - 1) (omega (arith, p)), order_at h (r - 1) (omega (arith, p))) at far in
      past_last h i r s (omega (arith, p)) far'

  pub last_some : (i - get_or index (r - 1) 0) / 2 ^ get_or order (r - 1) 0 ≡ 0 → covering h.list i ≡ some (nth h.list (r - 1))
  last_some e =
      let rn : r ≤ n = s.within in
      let k : r - 1 < n = omega (arith, p) in
      let near = inside_run (get_or index (r - 1) 0) i (get_or order (r - 1) 0) last_low e in
      let near' = rw (index_at h (r - 1) k, order_at h (r - 1) k) at near in
      in_last h i r s (omega (arith, p)) near'
