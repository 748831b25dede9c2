-- A store into the larger entry over its index.
use Prim.Native.Nat.{ℕ, zero, suc, ◌<◌}
use mathlib.Core.Path.{◌≡◌, refl, sym, ap, ◌∙◌}
use mathlib.Core.Bool.{Bool, true, false}
use mathlib.Core.List.{List, [], ◌∷◌, map}
use mathlib.Core.Option.{Option, none, some}
use native.Mathlib.Omega.{arith}
use lib.Dec.{leb, ltb}
use lib.ListN.{length, get_or, set}
use borrow.Author.Tests.{ltb-true, ltb-false, le-leb, leb-true}
use Rattle.blocks.specs.Choice.{pick}
use Rattle.blocks.specs.Blocks.{set_bit}
use Rattle.blocks.specs.Lists.{any, In}
use Rattle.blocks.proofs.BoolLaws.{by_t, is_false, both_l, both_r}
use Rattle.blocks.proofs.ListLaws.{look, each, any_none, in_any}
use Rattle.blocks.proofs.PlacingLaws.{none_some}
use Rattle.model.specs.declared.Entry.{Entry}
use Rattle.model.specs.Model.{EntryOk, covers, covering, over, with_word, matched_mark}
use Rattle.model.proofs.ValidLaws.{covers_lo, covers_hi, sole}
use Rattle.xaplain.specs.Slices.{column}
use Rattle.xaplain.specs.Moves.{Holds, Columns}
use Rattle.xaplain.specs.Stores.{Over, NoneOver, uncovered, smaller, entry_with}
use Rattle.xaplain.proofs.PlainLaws.{
  nth,
  nth_in,
  apart,
  index_at,
  order_at,
  marks_at,
  entry_ok,
}
use Rattle.xaplain.proofs.PlaceLaws.{place_none, place_in, place_some, covering_covers}

-- THE SEARCH
module _ {index order word marks : List ℕ} {n : ℕ} (h : Holds index order word marks n) (i k : ℕ) where
  module _ (j : ℕ) (d : Over index order n i k j) where
    pub over_place : j < n
    over_place = place_in h i j d.reaches

    pub over_covers : covers i (nth h.list j) ≡ true
    over_covers = covering_covers h.list i (place_some h i j d.reaches)

    pub over_any : any (over i k) h.list ≡ true
    over_any = in_any (over i k) (nth_in h.list j (omega (arith, over_place, h.count)))
        (rw over_covers (le-leb k (nth h.list j).order (omega (arith, d.large, order_at h j over_place))))

  pub over_none : NoneOver index order n i k → any (over i k) h.list ≡ false
  over_none d = any_none (over i k) (each h.list no)
    where
      small : NoneOver index order n i k → (x : Entry) → covering h.list i ≡ some x → leb k x.order ≡ true → ⊥
      small (uncovered u) x e t = let z : ◌≡◌ {A = Option Entry} none (some x) = sym (place_none h i u) ∙ e in cc
      small (smaller j r g) x e t =
          let z : some (nth h.list j) ≡ some x = sym (place_some h i j r) ∙ e in
          let y : nth h.list j ≡ x = cc in
          omega (arith, leb-true k x.order t, order_at h j (place_in h i j r), ap (λ (y : Entry). y.order) y)

      no : (x : Entry) → In x h.list → over i k x ≡ true → ⊥
      no x m t = small d x (look (sole i h.valid) m (both_l (covers i x) _ t)) (both_r (covers i x) _ t)

-- THE LIST
-- a field that the new entries share
pub same_column : (f : Entry → ℕ) (g : Entry → Entry) (r : ℕ) (l : List Entry) → ((k : ℕ) → k < length l → f (g (nth l k)) ≡ f (nth l k)) →
    column f r l ≡ column f r (map g l)
same_column f g zero l e = refl
same_column f g (suc r) [] e = refl
same_column f g (suc r) (x ∷ l) e =
    let a : f (g x) ≡ f x = e 0 (omega arith) in
    rw a (ap (λ (t : List ℕ). f x ∷ t) (same_column f g r l (λ k b. e (suc k) (omega arith))))

-- or all but one
pub set_column : (f : Entry → ℕ) (g : Entry → Entry) (r : ℕ) (l : List Entry) (j : ℕ) → j < length l → j < r →
    ((k : ℕ) → k < length l → (k ≡ j → ⊥) → f (g (nth l k)) ≡ f (nth l k)) →
    set (column f r l) j (f (g (nth l j))) ≡ column f r (map g l)
set_column f g zero l j a b e = absurd (omega arith)
set_column f g (suc r) [] j a b e = absurd (omega arith)
set_column f g (suc r) (x ∷ l) zero a b e =
    ap (λ (t : List ℕ). f (g x) ∷ t) (same_column f g r l (λ k d. e (suc k) (omega arith) (λ z. omega arith)))
set_column f g (suc r) (x ∷ l) (suc j) a b e =
    let d : f (g x) ≡ f x = e 0 (omega arith) (λ z. omega arith) in
    rw d (ap (λ (t : List ℕ). f x ∷ t) (set_column f g r l j (omega arith) (omega arith) (λ k q z. e (suc k) (omega arith) (λ y. z (omega arith)))))

-- what covers i still does
covering_map : (i w : ℕ) (l : List Entry) {e : Entry} → covering l i ≡ some e → covering (map (with_word i w) l) i ≡ some (with_word i w e)
covering_map i w [] q = none_some q
covering_map i w (x ∷ l) {e} q =
    by_t (covers i x)
    (λ t. let q' : some x ≡ some e = rw t at q in let d : x ≡ e = cc in
    ap (λ (b : Bool). pick b (some (with_word i w x)) (covering (map (with_word i w) l) i)) t ∙ ap (λ (y : Entry). some (with_word i w y)) d)
    (λ t. let q' : covering l i ≡ some e = rw t at q in rw t (covering_map i w l q'))

module _ {index order word marks : List ℕ} {n : ℕ} (h : Holds index order word marks n) (i w j : ℕ) (b : j < n)
    (c : covers i (nth h.list j) ≡ true)
  where
    -- no other entry covers i
    sole_over : (k : ℕ) → k < length h.list → (k ≡ j → ⊥) → covers i (nth h.list k) ≡ false
    sole_over k g z = is_false (λ t. no t)
      where
        ok : (m : ℕ) → m < n → EntryOk (nth h.list m)
        ok m l = entry_ok h m l

        no : covers i (nth h.list k) ≡ true → ⊥
        no t =
            let kn : k < n = omega (arith, h.count) in
            let lo = covers_lo (nth h.list j) i (ok j b) c in
            let hi = covers_hi (nth h.list j) i (ok j b) c in
            let lo' = covers_lo (nth h.list k) i (ok k kn) t in
            let hi' = covers_hi (nth h.list k) i (ok k kn) t in
            by_t (ltb k j)
            (λ u. omega (arith, lo, hi', apart k j h.valid (ltb-true _ _ u) (omega (arith, h.count))))
            (λ u. let v : j < k = omega (arith, z, ltb-false k j u) in
            omega (arith, hi, lo', apart j k h.valid v (omega (arith, h.count))))

    pub over_covering : covering (map (with_word i w) h.list) i ≡ some (with_word i w (nth h.list j))
    over_covering = covering_map i w h.list (look (sole i h.valid) (nth_in h.list j (omega (arith, b, h.count))) c)

    pub over_entry_lem : entry_with index order marks j w ≡ with_word i w (nth h.list j)
    over_entry_lem = rw (c, index_at h j b, order_at h j b, marks_at h j b) refl

    -- the slices
    pub over_columns : Columns index order (set word j w) (set marks j (set_bit matched_mark false (get_or marks j 0))) (length index)
        (map (with_word i w) h.list)
    over_columns = record {
      index_is = h.index_is ∙ same_column (λ e. e.base) (with_word i w) (length index) h.list (λ k g. refl);
      order_is = h.order_is ∙ same_column (λ e. e.order) (with_word i w) (length index) h.list (λ k g. refl);
      word_is = ap (λ (xs : List ℕ). set xs j w) h.word_is
          ∙ ap (λ (v : ℕ). set (column (λ e. e.word) (length index) h.list) j v) (sym word_new)
          ∙ set_column (λ e. e.word) (with_word i w) (length index) h.list j jl jr (λ k g z. rw (sole_over k g z) refl);
      marks_are = ap (λ (xs : List ℕ). set xs j (set_bit matched_mark false (get_or marks j 0))) h.marks_are
          ∙ ap (λ (v : ℕ). set (column (λ e. e.marks) (length index) h.list) j v) (sym marks_new)
          ∙ set_column (λ e. e.marks) (with_word i w) (length index) h.list j jl jr (λ k g z. rw (sole_over k g z) refl);
    }
      where
        jl : j < length h.list
        jl = omega (arith, b, h.count)

        jr : j < length index
        jr = omega (arith, b, h.fits)

        word_new : (with_word i w (nth h.list j)).word ≡ w
        word_new = rw c refl

        marks_new : (with_word i w (nth h.list j)).marks ≡ set_bit matched_mark false (get_or marks j 0)
        marks_new = rw (c, marks_at h j b) refl
