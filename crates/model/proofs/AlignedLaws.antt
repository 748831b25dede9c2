-- Of an aligned index the store of `Model` is the one by blocks with mark 2 of the entry over the index cleared, so that
-- the laws of the latter, and of marks, are laws of it.
use Prim.Native.Nat.{ℕ, ◌+◌, ◌*◌, ◌%◌, ◌^◌, ◌<◌, ◌≤◌}
use mathlib.Core.Path.{◌≡◌, refl, sym, ap, ap₂, subst, ◌∙◌}
use mathlib.Core.Bool.{Bool, true, false}
use mathlib.Core.List.{List, [], ◌∷◌, map}
use native.Mathlib.Omega.{arith}
use native.Mathlib.Nat.{div-add-mod', mul-mod_left, zero-div, zero-mul}
use lib.Dec.{leb, eqb}
use borrow.Author.Tests.{leb-true, ltb-true, le-leb, lt-ltb, eqb-true, eq-eqb, ne_eqb}
use Rattle.blocks.specs.Choice.{pick}
use Rattle.blocks.specs.Lists.{any, All, end, also}
use Rattle.blocks.specs.Blocks.{block, set_bit}
use Rattle.blocks.proofs.BoolLaws.{both_l, both_r, by_t, iff, is_false}
use Rattle.blocks.proofs.ListLaws.{All-of, keep_same, without_same}
use Rattle.blocks.proofs.BlockLaws.{block_at, block_lo, block_hi}
use Rattle.model.specs.declared.Entry.{Entry}
use Rattle.model.specs.Model.{
  EntryOk,
  storable,
  reserved_word,
  aligned,
  matched_mark,
  covers,
  has_mark,
  marks_of,
  starts,
  starts_in,
  inside,
  clear,
  insert,
  kept_marks,
  new_entry,
  over,
  with_word,
  store,
  takes_mark,
  with_mark,
  remark,
}
use Rattle.model.specs.ByBlock as B
use Rattle.model.proofs.InsertLaws.{map_insert}
use Rattle.model.proofs.RangeLaws.{clear_uncovered}
use Rattle.model.proofs.ValidLaws.{block_in, room, bare}
use Rattle.model.proofs.WordLaws.{storable_kind}

-- R7: so is the base of an entry
pub base_aligned : (e : Entry) → EntryOk e → aligned e.order e.base ≡ true
base_aligned e ok = eq-eqb (e.base % 2 ^ e.order) 0
    (ap (λ (b : ℕ). b % 2 ^ e.order) (sym ok.aligned) ∙ mul-mod_left (block e.order e.base) (2 ^ e.order))

-- mark 2 cleared: of the marks of a list, of an entry that takes a word, where nothing covers the index
kept_marks_lem : (l : List Entry) → kept_marks l ≡ set_bit matched_mark false (marks_of l)
kept_marks_lem l = go (any (has_mark 0) l) (any (has_mark 1) l) (any (has_mark 2) l)
  where
    go : (a b c : Bool) → pick a (2 ^ 0) 0 + pick b (2 ^ 1) 0
        ≡ set_bit matched_mark false (pick a (2 ^ 0) 0 + pick b (2 ^ 1) 0 + pick c (2 ^ 2) 0)
    go true true true = refl
    go true true false = refl
    go true false true = refl
    go true false false = refl
    go false true true = refl
    go false true false = refl
    go false false true = refl
    go false false false = refl

-- what a store carries is no reservation, so a mark can be cleared in it
storable_takes : (w : ℕ) → storable w ≡ true → eqb w reserved_word ≡ false
storable_takes w st = ne_eqb w reserved_word (λ q. (storable_kind w st).1 (omega (arith, q)))

over_one : (i w : ℕ) (x : Entry) → eqb w reserved_word ≡ false →
    with_word i w x ≡ with_mark i matched_mark false (B.with_word i w x)
over_one i w x n =
    ap (λ (m : ℕ). record { base = x.base; order = x.order; word = pick (covers i x) w x.word; marks = m })
    (by_t (covers i x) (λ t. rw (t, n)) (λ t. rw t))

over_is : (l : List Entry) (i w : ℕ) → eqb w reserved_word ≡ false →
    map (with_word i w) l ≡ remark (map (B.with_word i w) l) i matched_mark false
over_is [] i w n = refl
over_is (x ∷ l) i w n = ap₂ ◌∷◌ (over_one i w x n) (over_is l i w n)

remark_off : (i m : ℕ) (b : Bool) {l : List Entry} → All (λ x. covers i x ≡ true → ⊥) l → remark l i m b ≡ l
remark_off i m b end = refl
remark_off i m b (also {x} {l} f a) = rw (is_false f, remark_off i m b a)

module _ (i k : ℕ) (al : aligned k i ≡ true) where
  -- rounding leaves the index
  pub whole : block k i * 2 ^ k ≡ i
  whole =
      let z : i % 2 ^ k ≡ 0 = eqb-true (i % 2 ^ k) 0 al in
      let d : block k i * 2 ^ k + i % 2 ^ k ≡ i = div-add-mod' i (2 ^ k) in
      omega arith

  starts_in_lem : (e : Entry) → starts_in i k e ≡ starts k (block k i) e
  starts_in_lem e = iff (starts_in i k e) (starts k (block k i) e) in_block_lem in_range
    where
      in_block_lem : starts_in i k e ≡ true → starts k (block k i) e ≡ true
      in_block_lem t =
          let lo : i ≤ e.base = leb-true _ _ (both_l (leb i e.base) _ t) in
          let hi : e.base < i + 2 ^ k = ltb-true _ _ (both_r (leb i e.base) _ t) in
          eq-eqb _ _ (block_in k (block k i) e.base (rw whole lo) (rw whole hi))

      in_range : starts k (block k i) e ≡ true → starts_in i k e ≡ true
      in_range t =
          let q : block k e.base * 2 ^ k ≡ i = ap (λ (c : ℕ). c * 2 ^ k) (eqb-true _ _ t) ∙ whole in
          let lo : i ≤ e.base = subst (λ (b : ℕ). b ≤ e.base) q (block_lo k e.base) in
          let hi : e.base < i + 2 ^ k = subst (λ (b : ℕ). e.base < b + 2 ^ k) q (block_hi k e.base) in
          rw (le-leb i e.base lo) (lt-ltb _ _ hi)

  -- a block is the first exactly if its first index is
  pub first_block : eqb i 0 ≡ eqb (block k i) 0
  first_block = iff (eqb i 0) (eqb (block k i) 0)
      (λ t. eq-eqb (block k i) 0 (ap (block k) (eqb-true i 0 t) ∙ zero-div (2 ^ k)))
      (λ t. eq-eqb i 0 (sym whole ∙ ap (λ (c : ℕ). c * 2 ^ k) (eqb-true (block k i) 0 t) ∙ zero-mul (2 ^ k)))

  module _ (l : List Entry) where
    inside_is : inside l i k ≡ B.inside l i k
    inside_is = keep_same (starts_in i k) (starts k (block k i)) (All-of starts_in_lem l)

    clear_is : clear l i k ≡ B.clear l i k
    clear_is = without_same (starts_in i k) (starts k (block k i)) (All-of starts_in_lem l)

    -- the new entry covers the index, so its mark 2 is cleared
    new_covers : (w : ℕ) → covers i (B.new_entry l i k w) ≡ true
    new_covers w = eq-eqb (block k i) _ (sym (block_at k (block k i)))

    kept_is : kept_marks (inside l i k) ≡ set_bit matched_mark false (marks_of (B.inside l i k))
    kept_is = ap kept_marks inside_is ∙ kept_marks_lem (B.inside l i k)

    new_is : (w : ℕ) → eqb w reserved_word ≡ false → new_entry l i k w ≡ with_mark i matched_mark false (B.new_entry l i k w)
    new_is w n =
        ap₂ (λ (b m : ℕ). record { base = b; order = k; word = w; marks = m }) (sym whole)
        (kept_is ∙ ap (λ (t : Bool). pick t (set_bit matched_mark false x) x) (sym (takes (new_covers w))))
      where
        x : ℕ
        x = marks_of (B.inside l i k)

        takes : covers i (B.new_entry l i k w) ≡ true → takes_mark i (B.new_entry l i k w) ≡ true
        takes c = rw (c, n)

    -- R11, R14, R190: no other entry is over it
    pub store_is : (w : ℕ) → storable w ≡ true → store l i k w ≡ remark (B.store l i k w) i matched_mark false
    store_is w st = by_t (any (over i k) l) (λ t. rw t (over_is l i w n)) (λ t. rw t (ap₂ insert (new_is w n) (cleared t)
        ∙ sym (map_insert (with_mark i matched_mark false) (λ x. refl) (B.new_entry l i k w) (B.clear l i k))))
      where
        n : eqb w reserved_word ≡ false
        n = storable_takes w st

        cleared : any (over i k) l ≡ false → clear l i k ≡ remark (B.clear l i k) i matched_mark false
        cleared t = clear_is ∙ sym (remark_off i matched_mark false (clear_uncovered i k l (room l i k t) i refl))

    -- R201: where nothing is replaced there are no marks to keep
    pub bare_is : (w : ℕ) → k ≡ 0 → any (over i k) l ≡ false → store l i k w ≡ B.store l i k w
    bare_is w z t = rw t (ap₂ insert new clear_is)
      where
        new : new_entry l i k w ≡ B.new_entry l i k w
        new = ap₂ (λ (b m : ℕ). record { base = b; order = k; word = w; marks = m }) (sym whole)
            (kept_is ∙ ap (set_bit matched_mark false) (bare i k w l t z) ∙ sym (bare i k w l t z))
