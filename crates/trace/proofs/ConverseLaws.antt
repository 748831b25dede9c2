-- The other way (R248): what a store and a mark of 2 with answer 0 leave, what a step that takes a record leaves of it, and
-- how mark 2 goes.
use Prim.Native.Nat.{ℕ, ◌<◌}
use mathlib.Core.Path.{◌≡◌, refl, sym, subst, ◌∙◌}
use mathlib.Core.Bool.{Bool, true, false, not}
use mathlib.Core.Logic.{inl, inr}
use mathlib.Core.List.{List, map}
use mathlib.Core.Option.{some}
use lib.Dec.{leb, eqb}
use borrow.Author.Tests.{eqb-true, eq-eqb}
use Rattle.blocks.specs.Choice.{both, either}
use Rattle.blocks.specs.Lists.{any, In}
use Rattle.blocks.specs.Blocks.{bit, set_bit}
use Rattle.blocks.proofs.BoolLaws.{by_t, clash, is_false, both_i, both_l, both_r, both_no, either_e, not-true}
use Rattle.blocks.proofs.ListLaws.{any_in_lem, in_any, in_without, each, look, All-without}
use Rattle.model.specs.declared.Entry.{Entry}
use Rattle.model.specs.Model.{
  Valid,
  reserved,
  reserved_word,
  matched_mark,
  covers,
  covering,
  present,
  has_mark,
  starts_in,
  clear,
  new_entry,
  store_new,
  over,
  with_word,
  store,
  erase,
  takes_mark,
  with_mark,
  remark,
}
use Rattle.model.proofs.InsertLaws.{any_insert}
use Rattle.model.proofs.WordLaws.{present_some}
use Rattle.model.proofs.ValidLaws.{sole, sorted_ok}
use Rattle.batch.specs.declared.Command.{Command}
use Rattle.batch.specs.declared.Command.TheVariants.{Store, Load, Erase, Mark, Unmark, Find, Reserve}
use Rattle.execute.specs.Execute.{execute}
use Rattle.trace.specs.Trace.{
  Step,
  Step.cleared,
  Step.ran,
  next,
  did,
  same,
  stands,
  matched,
  enters,
  names,
  marks,
  enter,
  take,
  unmatch,
}
use Rattle.trace.proofs.RecordLaws.{
  any_map,
  Alike,
  alike,
  is_same,
  covers_same,
  starts_same,
  found,
  word_marks,
  other_mark,
}
use Rattle.trace.proofs.CommandLaws.{
  Stored,
  store_comes,
  reserve_comes,
  erase_list,
  erase_did,
  load_list,
  find_list,
  mark_comes,
  unmark_comes,
  none_starts,
  over_enters,
  new_enters,
  either_l,
  either_r,
  to,
}
use Rattle.trace.proofs.MatchLaws.{below_2, over_starts, new_covers}

pub self : (e : Entry) → same e e ≡ true
self e = is_same {e = e} {x = e} (record { base = refl; order = refl; word = refl })

module _ (n : ℕ) (l : List Entry) where
  -- a store that is done enters a record of its word over its index
  pub store_enters : (i k w : ℕ) → did n l (Store i k w) ≡ true →
      (e : Entry) × (enters e (Store i k w) ≡ true) × (stands e (execute n l (Store i k w)).list ≡ true)
  store_enters i k w t = elim (store_comes n l i k w) [
    | inl x ↦ absurd (clash t x.not_done)
    | inr x ↦ by_t (any (over i k) l) (λ o. inside_one x o) (λ o. new_one x o)
  ]
    where
      inside_one : Stored n l i k w → any (over i k) l ≡ true →
          (e : Entry) × (enters e (Store i k w) ≡ true) × (stands e (execute n l (Store i k w)).list ≡ true)
      inside_one x o =
          let (y, g, c) = any_in_lem (over i k) l o in
          let cy : covers i y ≡ true = both_l (covers i y) (leb k y.order) c in
          let e : Entry = with_word i w y in
          let q : e.word ≡ w = rw cy in (
            e,
            both_i x.stored (both_i (eq-eqb w e.word (sym q)) c),
            to (stands e) (sym x.list_is) (rw o (any_map (same e) (with_word i w) l
                ∙ in_any (λ z. same e (with_word i w z)) g (self e))),
          )

      new_one : Stored n l i k w → any (over i k) l ≡ false →
          (e : Entry) × (enters e (Store i k w) ≡ true) × (stands e (execute n l (Store i k w)).list ≡ true)
      new_one x o =
          let e : Entry = new_entry l i k w in (
            e,
            new_enters e i k w l x.stored (record { base = refl; order = refl; word = refl }),
            to (stands e) (sym x.list_is) (rw o (any_insert (same e) e (clear l i k)
                ∙ either_l (same e e) (any (same e) (clear l i k)) (self e))),
          )

  -- a step that takes a record ends it, unless it enters it anew
  pub take_ends : Valid l → (e : Entry) (s : Step) → take n e l s ≡ true → stands e (next n l s) ≡ true → enter n e l s ≡ true
  take_ends v e cleared t h = absurd (clash h refl)
  take_ends v e (ran (Load i)) t h = absurd (clash t (both_no (did n l (Load i))))
  take_ends v e (ran (Mark i m)) t h = absurd (clash t (both_no (did n l (Mark i m))))
  take_ends v e (ran (Unmark i m)) t h = absurd (clash t (both_no (did n l (Unmark i m))))
  take_ends v e (ran (Find a z f k)) t h = absurd (clash t (both_no (did n l (Find a z f k))))
  take_ends v e (ran (Reserve i)) t h = absurd (clash t (both_no (did n l (Reserve i))))
  take_ends v e (ran (Erase i)) t h =
      let (x, m, u) = any_in_lem (same e) (erase l i) (to (stands e) (erase_list n l i) h) in
      let (f, g) = look (All-without (covers i) (each l (λ y d. d))) m in
      absurd (clash (covers_same i (alike e x u) ∙ both_r (did n l (Erase i)) (covers i e) t) f)
  take_ends v e (ran (Store i k w)) t h = elim (store_comes n l i k w) [
    | inl x ↦ absurd (clash (both_l (did n l (Store i k w)) (names e (Store i k w)) t) x.not_done)
    | inr x ↦ let u : stands e (store l i k w) ≡ true = to (stands e) x.list_is h in
        both_i x.is_done (by_t (any (over i k) l) (λ o. inside_one x o (rw o at u)) (λ o. new_one x o (rw o at u)))
  ]
    where
      nm : either (covers i e) (starts_in i k e) ≡ true
      nm = both_r (did n l (Store i k w)) (either (covers i e) (starts_in i k e)) t

      inside_one : Stored n l i k w → any (over i k) l ≡ true → stands e (map (with_word i w) l) ≡ true →
          enters e (Store i k w) ≡ true
      inside_one x o u =
          let (y, g, s) = any_in_lem (λ z. same e (with_word i w z)) l (sym (any_map (same e) (with_word i w) l) ∙ u) in
          let a : Alike e (with_word i w y) = alike e (with_word i w y) s in
          let c : covers i y ≡ true = either_e (covers i e) (starts_in i k e) nm (λ d. covers_same i a ∙ d)
          (λ d. over_starts e v i k x.whole o g (starts_same i k a ∙ d)) in
          over_enters e i k w v o x.stored g c a

      new_one : Stored n l i k w → any (over i k) l ≡ false → stands e (store_new l i k w) ≡ true →
          enters e (Store i k w) ≡ true
      new_one x o u =
          either_e (same e (new_entry l i k w)) (any (same e) (clear l i k))
          (sym (any_insert (same e) (new_entry l i k w) (clear l i k)) ∙ u)
          (λ s. new_enters e i k w l x.stored (alike e (new_entry l i k w) s))
          (λ s. let (y, m, d) = any_in_lem (same e) (clear l i k) s in
          let (f, g) = look (All-without (starts_in i k) (each l (λ z q. q))) m in
          let a : Alike e y = alike e y d in
          absurd (either_e (covers i e) (starts_in i k e) nm
          (λ c. clash (new_covers e i k x.whole o g (covers_same i a ∙ c)) f)
          (λ c. clash (starts_same i k a ∙ c) f)))

-- MARK 2
module _ (n : ℕ) (l : List Entry) (v : Valid l) (e : Entry) where
  abbrev two : Entry → Bool
  two x = both (same e x) (has_mark matched_mark x)

  marks_it : stands e l ≡ true → (i : ℕ) → did n l (Mark i matched_mark) ≡ true → covers i e ≡ true →
      matched e (execute n l (Mark i matched_mark)).list ≡ true
  marks_it t i d c = elim (mark_comes n l i matched_mark) [
    | inl x ↦ absurd (clash d x.not_done)
    | inr x ↦ to (matched e) (sym x.list_is) (go (x.only d) (any_in_lem (same e) l t))
  ]
    where
      go : (x : Entry) × (present (covering l i) ≡ some x) → (y : Entry) × In y l × (same e y ≡ true) →
          matched e (remark l i matched_mark true) ≡ true
      go (x, q) (y, m, s) =
          let (p, r) = present_some (covering l i) q in
          let k : covers i y ≡ true = covers_same i (alike e y s) ∙ c in
          let z : covering l i ≡ some y = look (sole i v) m k in
          let w : x ≡ y = cc in
          let u : reserved y ≡ false = subst (λ (h : Entry). reserved h ≡ false) w r in
          any_map two (with_mark i matched_mark true) l
          ∙ in_any (λ h. two (with_mark i matched_mark true h)) m (both_i s (rw (k, u) (word_marks y.marks)))

  -- a mark of 2 that is done makes the record over its index matched
  pub mark_matches : stands e l ≡ true → (c : Command) → both (did n l c) (marks e c) ≡ true →
      matched e (execute n l c).list ≡ true
  mark_matches t (Store i k w) d = absurd (clash d (both_no (did n l (Store i k w))))
  mark_matches t (Load i) d = absurd (clash d (both_no (did n l (Load i))))
  mark_matches t (Erase i) d = absurd (clash d (both_no (did n l (Erase i))))
  mark_matches t (Unmark i m) d = absurd (clash d (both_no (did n l (Unmark i m))))
  mark_matches t (Find a z f k) d = absurd (clash d (both_no (did n l (Find a z f k))))
  mark_matches t (Reserve i) d = absurd (clash d (both_no (did n l (Reserve i))))
  mark_matches t (Mark i m) d =
      let c : both (eqb m matched_mark) (covers i e) ≡ true =
      both_r (did n l (Mark i m)) (both (eqb m matched_mark) (covers i e)) d in
      let q : matched_mark ≡ m = sym (eqb-true _ _ (both_l (eqb m matched_mark) (covers i e) c)) in
      subst (λ (x : ℕ). did n l (Mark i x) ≡ true → matched e (execute n l (Mark i x)).list ≡ true) q
      (λ u. marks_it t i u (both_r (eqb m matched_mark) (covers i e) c))
      (both_l (did n l (Mark i m)) (both (eqb m matched_mark) (covers i e)) d)

  -- what had mark 2 has it after a command, or the command takes the record or its mark
  kept : {x : Entry} → In x l → two x ≡ true → (i m : ℕ) (b : Bool) → m < 3 →
      (takes_mark i x ≡ true → m ≡ matched_mark → b ≡ true) → matched e (remark l i m b) ≡ true
  kept {x} g t i m b h f =
      any_map two (with_mark i m b) l ∙ in_any (λ y. two (with_mark i m b y)) g
      (both_i (both_l (same e x) (has_mark matched_mark x) t) (by_t (takes_mark i x)
      (λ k. rw k (by_t (eqb m matched_mark)
      (λ d. sets x.marks (eqb-true _ _ d) (f k (eqb-true _ _ d)))
      (λ d. eq-eqb (bit 2 (set_bit m b x.marks)) 1
      (other_mark m x.marks b (below_2 m h d) (look (sorted_ok v) g).marks_fit
      ∙ eqb-true _ _ (both_r (same e x) (has_mark matched_mark x) t)))))
      (λ k. rw k (both_r (same e x) (has_mark matched_mark x) t))))
    where
      sets : (w : ℕ) → m ≡ 2 → b ≡ true → eqb (bit 2 (set_bit m b w)) 1 ≡ true
      sets w d y = rw (d, y) (word_marks w)

  new_keeps : {x : Entry} → In x l → two x ≡ true → (i k w : ℕ) → starts_in i k x ≡ false → matched e (store_new l i k w) ≡ true
  new_keeps {x} g t i k w c =
      any_insert two (new_entry l i k w) (clear l i k)
      ∙ either_r (two (new_entry l i k w)) (any two (clear l i k)) (in_any two {l = clear l i k} (in_without (starts_in i k) g c) t)

  over_keeps : {x : Entry} → In x l → two x ≡ true → (i w : ℕ) → covers i x ≡ false → matched e (map (with_word i w) l) ≡ true
  over_keeps {x} g t i w c =
      any_map two (with_word i w) l ∙ in_any (λ y. two (with_word i w y)) g (rw c t)

  pub mark_gone : (s : Step) → matched e l ≡ true → matched e (next n l s) ≡ false → unmatch n e l s ≡ true
  mark_gone cleared t f = refl
  mark_gone (ran (Load i)) t f = absurd (clash t (to (matched e) (load_list n l i) f))
  mark_gone (ran (Find a z g k)) t f = absurd (clash t (to (matched e) (find_list n l a z g k) f))
  mark_gone (ran (Store i k w)) t f = elim (store_comes n l i k w) [
    | inl x ↦ absurd (clash t (to (matched e) x.list_is f))
    | inr x ↦ let u : matched e (store l i k w) ≡ false = to (matched e) x.list_is f in
        let (y, g, s) = any_in_lem two l t in
        let a : Alike e y = alike e y (both_l (same e y) (has_mark matched_mark y) s) in
        both_i x.is_done (either_l (names e (Store i k w)) false (by_t (any (over i k) l)
        (λ o. by_t (covers i y) (λ c. either_l (covers i e) (starts_in i k e) (sym (covers_same i a) ∙ c))
        (λ c. absurd (clash (over_keeps g s i w c) (rw o at u))))
        (λ o. by_t (starts_in i k y) (λ c. either_r (covers i e) (starts_in i k e) (sym (starts_same i k a) ∙ c))
        (λ c. absurd (clash (new_keeps g s i k w c) (rw o at u))))))
  ]
  mark_gone (ran (Erase i)) t f =
      let (y, g, s) = any_in_lem two l t in
      by_t (covers i y)
      (λ c. both_i (erase_did n l i (found i l g c).1) (either_l (covers i e) false
      (sym (covers_same i (alike e y (both_l (same e y) (has_mark matched_mark y) s))) ∙ c)))
      (λ c. absurd (clash (in_any two {l = erase l i} (in_without (covers i) g c) s) (to (matched e) (erase_list n l i) f)))
  mark_gone (ran (Mark i m)) t f = elim (mark_comes n l i m) [
    | inl x ↦ absurd (clash t (to (matched e) x.list_is f))
    | inr x ↦ let (y, g, s) = any_in_lem two l t in
        absurd (clash (kept g s i m true x.few (λ k d. refl)) (to (matched e) x.list_is f))
  ]
  mark_gone (ran (Unmark i m)) t f = elim (unmark_comes n l i m) [
    | inl x ↦ absurd (clash t (to (matched e) x.list_is f))
    | inr x ↦ let (y, g, s) = any_in_lem two l t in
        by_t (both (eqb m matched_mark) (takes_mark i y))
        (λ k. let c : both (covers i y) (not (reserved y)) ≡ true = both_r (eqb m matched_mark) (takes_mark i y) k in
        let o : covers i y ≡ true = both_l (covers i y) (not (reserved y)) c in
        let r : reserved y ≡ false = not-true (reserved y) (both_r (covers i y) (not (reserved y)) c) in
        both_i (x.answers {x = y} (rw (look (sole i v) g o, r))) (both_i (both_l (eqb m matched_mark) (takes_mark i y) k)
        (sym (covers_same i (alike e y (both_l (same e y) (has_mark matched_mark y) s))) ∙ o)))
        (λ k. absurd (clash (kept g s i m false x.few
        (λ c d. absurd (clash (both_i (eq-eqb m matched_mark d) c) k))) (to (matched e) x.list_is f)))
  ]
  mark_gone (ran (Reserve i)) t f = elim (reserve_comes n l i) [
    | inl x ↦ absurd (clash t (to (matched e) x.list_is f))
    | inr x ↦ let (y, g, s) = any_in_lem two l t in
        absurd (clash (new_keeps g s i 0 reserved_word (is_false (λ c. none_starts i g x.free c)))
        (to (matched e) x.list_is f))
  ]
