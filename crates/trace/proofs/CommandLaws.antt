-- One step: what it comes to, and what it enters and takes.
use Prim.Native.Nat.{ℕ, ◌+◌, ◌^◌, ◌≤◌, ◌<◌}
use mathlib.Core.Path.{◌≡◌, refl, sym, ap, subst, ◌∙◌}
use mathlib.Core.Bool.{Bool, true, false, not}
use mathlib.Core.Logic.{◌⊎◌, inl, inr}
use mathlib.Core.List.{List, map}
use mathlib.Core.Option.{Option, none, some}
use native.Mathlib.Omega.{arith}
use lib.Dec.{leb, ltb, eqb}
use borrow.Author.Tests.{eq-eqb, leb-true, leb-false, le-leb, ltb-true}
use Rattle.batch.specs.Reply.{store_reply, mark_reply, unmark_reply, reserve_reply}
use Rattle.blocks.specs.Choice.{either}
use Rattle.blocks.specs.Lists.{any, In}
use Rattle.blocks.proofs.BoolLaws.{by_t, clash, both_i, both_l, both_r, either_e, either_yes, not-false}
use Rattle.blocks.proofs.ListLaws.{any_in_lem, in_any, in_without, without_in}
use Rattle.model.specs.declared.Entry.{Entry}
use Rattle.model.specs.Model.{
  Valid,
  storable,
  reserved,
  reserved_word,
  max_order,
  aligned,
  mark_count,
  covers,
  covering,
  present,
  starts_in,
  clear,
  new_entry,
  store_new,
  over,
  with_word,
  store,
  erase,
  with_mark,
  remark,
}
use Rattle.model.proofs.InsertLaws.{any_insert}
use Rattle.model.proofs.WordLaws.{present_some}
use Rattle.model.proofs.ValidLaws.{covers_self, unique}
use Rattle.tree.proofs.ReadLaws.{over_none}
use Rattle.tree.proofs.RelabelLaws.{map_o, covering_map}
use Rattle.lookup.specs.Find.{any_mark}
use Rattle.batch.specs.declared.Command.{Command}
use Rattle.batch.specs.declared.Command.TheVariants.{Store, Load, Erase, Mark, Unmark, Find, Reserve}
use Rattle.execute.specs.Execute.{execute, short}
use Rattle.commands.specs.Commands.{reply_of}
use Rattle.trace.specs.Trace.{
  Step,
  Step.cleared,
  Step.ran,
  next,
  did,
  same,
  stands,
  enters,
  enter,
  take,
}
use Rattle.trace.proofs.RecordLaws.{
  any_map,
  Alike,
  alike,
  is_same,
  covers_same,
  starts_same,
  found,
}

-- WHAT COVERS THE INDEX of a store, and of a mark
covered_0 : (t d : ℕ) (o : Option Entry) {e : Entry} → o ≡ some e → (reply_of t d o).answer ≡ 0
covered_0 t d o e = rw e

covering_new : (l : List Entry) (i k w : ℕ) → (y : Entry) × (covering (store_new l i k w) i ≡ some y)
covering_new l i k w =
    let e : Entry = new_entry l i k w in
    let t : any (covers i) (store_new l i k w) ≡ true = any_insert (covers i) e (clear l i k) ∙ rw (covers_self e) in
    let (x, m, c) = any_in_lem (covers i) (store_new l i k w) t in
    found i (store_new l i k w) m c

covering_stored : (l : List Entry) (i k w : ℕ) → (y : Entry) × (covering (store l i k w) i ≡ some y)
covering_stored l i k w =
    by_t (any (over i k) l)
    (λ o. let (y, g, c) = any_in_lem (over i k) l o in
    let t : any (covers i) (map (with_word i w) l) ≡ true =
    any_map (covers i) (with_word i w) l ∙ in_any (covers i) g (both_l (covers i y) (leb k y.order) c) in
    let (x, m, d) = any_in_lem (covers i) (map (with_word i w) l) t in
    rw o (found i (map (with_word i w) l) m d))
    (λ o. rw o (covering_new l i k w))

present_marked : (l : List Entry) (i m : ℕ) (b : Bool) {x : Entry} → present (covering l i) ≡ some x →
    present (covering (remark l i m b) i) ≡ some (with_mark i m b x)
present_marked l i m b q =
    let (c, r) = present_some (covering l i) q in
    rw (covering_map (with_mark i m b) (λ x. refl) (λ x. refl) i l ∙ ap (map_o (with_mark i m b)) c, r)

present_unmarked : (l : List Entry) (i m : ℕ) (b : Bool) → present (covering l i) ≡ none →
    present (covering (remark l i m b) i) ≡ none
present_unmarked l i m b q =
    rw (covering_map (with_mark i m b) (λ x. refl) (λ x. refl) i l) (go (covering l i) q)
  where
    go : (o : Option Entry) → present o ≡ none → present (map_o (with_mark i m b) o) ≡ none
    go none r = refl
    go (some x) r =
        by_t (reserved x) (λ t. rw t)
        (λ t. absurd (let z : some x ≡ none = rw t at r in let w : ◌≡◌ {A = ℕ} 0 1 = cc in omega arith))

-- an answer 0 by what is present
answers_present : (t d : ℕ) (o p : Option Entry) → (p ≡ none → o ≡ none) → eqb (reply_of t d o).answer 0 ≡ true →
    (x : Entry) × (p ≡ some x)
answers_present t d o (some x) f z = (x, refl)
answers_present t d o none f z = absurd (clash (rw (f refl) at z) refl)

-- where nothing covers an index, nothing starts there
pub none_starts : (i : ℕ) {l : List Entry} {y : Entry} → In y l → covering l i ≡ none → starts_in i 0 y ≡ true → ⊥
none_starts i {l} {y} m q c =
    let lo : i ≤ y.base = leb-true _ _ (both_l (leb i y.base) (ltb y.base (i + 2 ^ 0)) c) in
    let hi : y.base < i + 1 = ltb-true _ _ (both_r (leb i y.base) (ltb y.base (i + 2 ^ 0)) c) in
    let b : y.base ≡ i = omega arith in
    let (z, g) = found i l m (subst (λ (j : ℕ). covers j y ≡ true) b (covers_self y)) in
    let w : ◌≡◌ {A = ℕ} 0 1 = cc in omega arith

-- WHAT A COMMAND COMES TO
-- it leaves the list, and its answer is not 0
pub record Left (n : ℕ) (l : List Entry) (c : Command) : Type 0 where
  pub list_is : (execute n l c).list ≡ l
  pub not_done : did n l c ≡ false

-- a store that is done
pub record Stored (n : ℕ) (l : List Entry) (i k w : ℕ) : Type 0 where
  pub whole : aligned k i ≡ true
  pub stored : storable w ≡ true
  pub list_is : (execute n l (Store i k w)).list ≡ store l i k w
  pub is_done : did n l (Store i k w) ≡ true

pub store_comes : (n : ℕ) (l : List Entry) (i k w : ℕ) → Left n l (Store i k w) ⊎ Stored n l i k w
unfolding execute
store_comes n l i k w =
    by_t (ltb max_order k) (λ t. inl (record { list_is = rw t; not_done = rw t }))
    (λ t. by_t (not (aligned k i)) (λ a. inl (record { list_is = rw (t, a); not_done = rw (t, a) }))
    (λ a. by_t (not (storable w)) (λ s. inl (record { list_is = rw (t, a, s); not_done = rw (t, a, s) }))
    (λ s. by_t (short n l (store l i k w))
    (λ d. inl (record { list_is = rw (t, a, s, d); not_done = rw (t, a, s, d) }))
    (λ d. let al : aligned k i ≡ true = not-false _ a in
    let st : storable w ≡ true = not-false _ s in
    inr (record {
      whole = al;
      stored = st;
      list_is = rw (t, a, s, d);
      is_done = eq-eqb (execute n l (Store i k w)).reply.answer 0
          (rw (t, a, s, d) (covered_0 store_reply 0 _ (covering_stored l i k w).1));
    })))))

-- a reservation that is done
pub record Reserved (n : ℕ) (l : List Entry) (i : ℕ) : Type 0 where
  pub free : covering l i ≡ none
  pub list_is : (execute n l (Reserve i)).list ≡ store_new l i 0 reserved_word
  pub is_done : did n l (Reserve i) ≡ true

pub reserve_comes : (n : ℕ) (l : List Entry) (i : ℕ) → Left n l (Reserve i) ⊎ Reserved n l i
unfolding execute
reserve_comes n l i = go (covering l i) refl
  where
    go : (o : Option Entry) → covering l i ≡ o → Left n l (Reserve i) ⊎ Reserved n l i
    go (some e) q = inl (record { list_is = rw q; not_done = rw q })
    go none q =
        by_t (short n l (store l i 0 reserved_word))
        (λ d. inl (record { list_is = rw (q, d); not_done = rw (q, d) }))
        (λ d. inr (record {
          free = q;
          list_is = rw (q, d, over_none l i 0 q);
          is_done = eq-eqb (execute n l (Reserve i)).reply.answer 0
              (rw (q, d, over_none l i 0 q) (covered_0 reserve_reply 0 _ (covering_new l i 0 reserved_word).1));
        }))

-- an erase
pub erase_list : (n : ℕ) (l : List Entry) (i : ℕ) → (execute n l (Erase i)).list ≡ erase l i
unfolding execute
erase_list n l i = refl

pub erase_did : (n : ℕ) (l : List Entry) (i : ℕ) {x : Entry} → covering l i ≡ some x → did n l (Erase i) ≡ true
unfolding execute
erase_did n l i q = rw q

pub find_list : (n : ℕ) (l : List Entry) (a z f k : ℕ) → (execute n l (Find a z f k)).list ≡ l
unfolding execute
find_list n l a z f k =
    by_t (ltb any_mark f) (λ t. rw t)
    (λ t. by_t (ltb z a) (λ u. rw (t, u)) (λ u. by_t (eqb k 0) (λ w. rw (t, u, w)) (λ w. rw (t, u, w))))

pub load_list : (n : ℕ) (l : List Entry) (i : ℕ) → (execute n l (Load i)).list ≡ l
unfolding execute
load_list n l i = refl

-- a mark, or an unmark
pub record Marked (n : ℕ) (l : List Entry) (c : Command) (i m : ℕ) (b : Bool) : Type 0 where
  pub few : m < mark_count
  pub list_is : (execute n l c).list ≡ remark l i m b
  pub answers : {x : Entry} → present (covering l i) ≡ some x → did n l c ≡ true
  pub only : did n l c ≡ true → (x : Entry) × (present (covering l i) ≡ some x)

pub mark_comes : (n : ℕ) (l : List Entry) (i m : ℕ) → Left n l (Mark i m) ⊎ Marked n l (Mark i m) i m true
unfolding execute
mark_comes n l i m =
    by_t (leb mark_count m) (λ t. inl (record { list_is = rw t; not_done = rw t }))
    (λ t. inr (record {
      few = leb-false _ _ t;
      list_is = rw t;
      answers = λ q. eq-eqb (execute n l (Mark i m)).reply.answer 0
          (rw t (covered_0 mark_reply 0 _ (present_marked l i m true q)));
      only = λ z. answers_present mark_reply 0 (present (covering (remark l i m true) i)) (present (covering l i))
          (present_unmarked l i m true) (rw t at z);
    }))

pub unmark_comes : (n : ℕ) (l : List Entry) (i m : ℕ) → Left n l (Unmark i m) ⊎ Marked n l (Unmark i m) i m false
unfolding execute
unmark_comes n l i m =
    by_t (leb mark_count m) (λ t. inl (record { list_is = rw t; not_done = rw t }))
    (λ t. inr (record {
      few = leb-false _ _ t;
      list_is = rw t;
      answers = λ q. eq-eqb (execute n l (Unmark i m)).reply.answer 0
          (rw t (covered_0 unmark_reply 0 _ (present_marked l i m false q)));
      only = λ z. answers_present unmark_reply 0 (present (covering (remark l i m false) i)) (present (covering l i))
          (present_unmarked l i m false) (rw t at z);
    }))

pub either_l : (a b : Bool) → a ≡ true → either a b ≡ true
either_l a b t = rw t

pub either_r : (a b : Bool) → b ≡ true → either a b ≡ true
either_r a b t = rw t (either_yes a)

-- what a test finds in the list that a command leaves
pub to : (q : List Entry → Bool) {b : Bool} {l l' : List Entry} → l ≡ l' → q l ≡ b → q l' ≡ b
to q {b} e t = subst (λ (x : List Entry). q x ≡ b) e t

module _ (e : Entry) where
  remark_stands : (l : List Entry) (i m : ℕ) (b : Bool) → stands e (remark l i m b) ≡ stands e l
  remark_stands l i m b = any_map (same e) (with_mark i m b) l

  -- ENTERED
  -- a store in an entry that covers its target range, which leaves it alike, enters it
  pub over_enters : (i k w : ℕ) {l : List Entry} → Valid l → any (over i k) l ≡ true → storable w ≡ true → {x : Entry} →
      In x l → covers i x ≡ true → Alike e (with_word i w x) → enters e (Store i k w) ≡ true
  over_enters i k w {l} v o st {x} m c a =
      let (y, g, d) = any_in_lem (over i k) l o in
      let q : x ≡ y = unique i v m g c (both_l (covers i y) (leb k y.order) d) in
      let le : k ≤ y.order = leb-true _ _ (both_r (covers i y) (leb k y.order) d) in
      let z : k ≤ e.order = subst (λ (j : ℕ). k ≤ j) (ap (λ (h : Entry). h.order) (sym q) ∙ a.order) le in
      both_i st (both_i (eq-eqb w e.word (rw c at a.word))
      (both_i (sym (covers_same i a) ∙ c) (le-leb k e.order z)))

  born_over : (i k w : ℕ) {l : List Entry} → Valid l → any (over i k) l ≡ true → storable w ≡ true →
      stands e (map (with_word i w) l) ≡ true → stands e l ≡ false → enters e (Store i k w) ≡ true
  born_over i k w {l} v o st t f =
      let (x, m, s) = any_in_lem (λ y. same e (with_word i w y)) l (sym (any_map (same e) (with_word i w) l) ∙ t) in
      let a : Alike e (with_word i w x) = alike e (with_word i w x) s in
      by_t (covers i x) (λ c. over_enters i k w v o st m c a)
      (λ c. absurd (clash (in_any (same e) m
      (is_same {e = e} {x = x} (record { base = a.base; order = a.order; word = rw c at a.word }))) f))

  -- the new entry, or one that was there
  born_new : (i k w : ℕ) (l : List Entry) → stands e (store_new l i k w) ≡ true → stands e l ≡ false →
      Alike e (new_entry l i k w)
  born_new i k w l t f =
      either_e (same e (new_entry l i k w)) (any (same e) (clear l i k))
      (sym (any_insert (same e) (new_entry l i k w) (clear l i k)) ∙ t)
      (λ s. alike e (new_entry l i k w) s)
      (λ s. let (x, m, u) = any_in_lem (same e) (clear l i k) s in
      absurd (clash (in_any (same e) {l = l} (without_in (starts_in i k) {l = l} m) u) f))

  -- a store that leaves a new entry alike enters it
  pub new_enters : (i k w : ℕ) (l : List Entry) → storable w ≡ true → Alike e (new_entry l i k w) →
      enters e (Store i k w) ≡ true
  new_enters i k w l st a =
      let q : k ≡ e.order = a.order in
      both_i st (both_i (eq-eqb w e.word a.word)
      (both_i (sym (covers_same i a) ∙ covers_self (new_entry l i k w)) (le-leb k e.order (omega arith))))

  pub born : (n : ℕ) (l : List Entry) → Valid l → (s : Step) → stands e (next n l s) ≡ true → stands e l ≡ false →
      enter n e l s ≡ true
  born n l v cleared t f = absurd (clash t refl)
  born n l v (ran (Store i k w)) t f = elim (store_comes n l i k w) [
    | inl x ↦ absurd (clash (to (stands e) x.list_is t) f)
    | inr x ↦ let u : stands e (store l i k w) ≡ true = to (stands e) x.list_is t in
        both_i x.is_done (by_t (any (over i k) l)
        (λ o. born_over i k w v o x.stored (rw o at u) f)
        (λ o. new_enters i k w l x.stored (born_new i k w l (rw o at u) f)))
  ]
  born n l v (ran (Load i)) t f = absurd (clash (to (stands e) (load_list n l i) t) f)
  born n l v (ran (Erase i)) t f =
      let (x, m, u) = any_in_lem (same e) (erase l i) (to (stands e) (erase_list n l i) t) in
      absurd (clash (in_any (same e) {l = l} (without_in (covers i) {l = l} m) u) f)
  born n l v (ran (Mark i m)) t f = elim (mark_comes n l i m) [
    | inl x ↦ absurd (clash (to (stands e) x.list_is t) f)
    | inr x ↦ absurd (clash (sym (remark_stands l i m true) ∙ to (stands e) x.list_is t) f)
  ]
  born n l v (ran (Unmark i m)) t f = elim (unmark_comes n l i m) [
    | inl x ↦ absurd (clash (to (stands e) x.list_is t) f)
    | inr x ↦ absurd (clash (sym (remark_stands l i m false) ∙ to (stands e) x.list_is t) f)
  ]
  born n l v (ran (Find a z g k)) t f = absurd (clash (to (stands e) (find_list n l a z g k) t) f)
  born n l v (ran (Reserve i)) t f = elim (reserve_comes n l i) [
    | inl x ↦ absurd (clash (to (stands e) x.list_is t) f)
    | inr x ↦ let a : Alike e (new_entry l i 0 reserved_word) =
        born_new i 0 reserved_word l (to (stands e) x.list_is t) f in
        both_i x.is_done (both_i (eq-eqb e.word reserved_word (sym a.word))
        (both_i (eq-eqb e.order 0 (sym a.order)) (eq-eqb e.base i (sym a.base))))
  ]

  -- TAKEN
  gone_over : (i w : ℕ) (l : List Entry) → stands e l ≡ true → stands e (map (with_word i w) l) ≡ false →
      covers i e ≡ true
  gone_over i w l t f =
      let (x, m, s) = any_in_lem (same e) l t in
      let a : Alike e x = alike e x s in
      by_t (covers i x) (λ c. sym (covers_same i a) ∙ c)
      (λ c. absurd (clash (any_map (same e) (with_word i w) l ∙ in_any (λ y. same e (with_word i w y)) m
      (is_same {e = e} {x = with_word i w x} (record { base = a.base; order = a.order; word = rw c a.word }))) f))

  gone_new : (i k w : ℕ) (l : List Entry) → stands e l ≡ true → stands e (store_new l i k w) ≡ false →
      (x : Entry) × In x l × (same e x ≡ true) × (starts_in i k x ≡ true)
  gone_new i k w l t f =
      let (x, m, s) = any_in_lem (same e) l t in
      by_t (starts_in i k x) (λ c. (x, m, s, c))
      (λ c. absurd (clash (any_insert (same e) (new_entry l i k w) (clear l i k)
      ∙ either_r (same e (new_entry l i k w)) (any (same e) (clear l i k))
      (in_any (same e) {l = clear l i k} (in_without (starts_in i k) m c) s)) f))

  pub gone : (n : ℕ) (l : List Entry) (s : Step) → stands e l ≡ true → stands e (next n l s) ≡ false →
      take n e l s ≡ true
  gone n l cleared t f = refl
  gone n l (ran (Store i k w)) t f = elim (store_comes n l i k w) [
    | inl x ↦ absurd (clash t (to (stands e) x.list_is f))
    | inr x ↦ let u : stands e (store l i k w) ≡ false = to (stands e) x.list_is f in
        both_i x.is_done (by_t (any (over i k) l)
        (λ o. either_l (covers i e) (starts_in i k e) (gone_over i w l t (rw o at u)))
        (λ o. let (y, m, s, c) = gone_new i k w l t (rw o at u) in
        either_r (covers i e) (starts_in i k e) (sym (starts_same i k (alike e y s)) ∙ c)))
  ]
  gone n l (ran (Load i)) t f = absurd (clash t (to (stands e) (load_list n l i) f))
  gone n l (ran (Erase i)) t f =
      let (x, m, s) = any_in_lem (same e) l t in
      by_t (covers i x)
      (λ c. both_i (erase_did n l i (found i l m c).1) (sym (covers_same i (alike e x s)) ∙ c))
      (λ c. absurd (clash (in_any (same e) {l = erase l i} (in_without (covers i) m c) s) (to (stands e) (erase_list n l i) f)))
  gone n l (ran (Mark i m)) t f = elim (mark_comes n l i m) [
    | inl x ↦ absurd (clash t (to (stands e) x.list_is f))
    | inr x ↦ absurd (clash t (sym (remark_stands l i m true) ∙ to (stands e) x.list_is f))
  ]
  gone n l (ran (Unmark i m)) t f = elim (unmark_comes n l i m) [
    | inl x ↦ absurd (clash t (to (stands e) x.list_is f))
    | inr x ↦ absurd (clash t (sym (remark_stands l i m false) ∙ to (stands e) x.list_is f))
  ]
  gone n l (ran (Find a z g k)) t f = absurd (clash t (to (stands e) (find_list n l a z g k) f))
  gone n l (ran (Reserve i)) t f = elim (reserve_comes n l i) [
    | inl x ↦ absurd (clash t (to (stands e) x.list_is f))
    | inr x ↦ let (y, m, s, c) = gone_new i 0 reserved_word l t (to (stands e) x.list_is f) in
        absurd (none_starts i m x.free c)
  ]
