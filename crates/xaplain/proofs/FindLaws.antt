-- A find in the slices.
use Prim.Native.Nat.{ℕ, zero, suc, ◌+◌, ◌-◌, ◌/◌, ◌^◌, ◌≤◌, ◌<◌}
use mathlib.Core.Path.{◌≡◌, refl, sym, ap, subst, ◌∙◌}
use mathlib.Core.Bool.{Bool, true, false, not}
use mathlib.Core.Logic.{◌≢◌}
use mathlib.Core.List.{List, [], ◌∷◌}
use mathlib.Core.Option.{none, some}
use native.Mathlib.Omega.{arith}
use lib.Dec.{T, leb, ltb, eqb}
use lib.ListN.{length, get_or, take, drop, length-take, length-drop}
use lib.Seq.{get_or-take, get_or-drop}
use borrow.Author.Tests.{eqb-true, eqb-false, eq-eqb, ne_eqb, lt-ltb, le-ltb, le-leb, lt-leb, ltb-true, ltb-false}
use Rattle.blocks.specs.Choice.{both, either}
use Rattle.blocks.specs.Blocks.{bit}
use Rattle.blocks.specs.Deciding.{Decides}
use Rattle.blocks.specs.Lists.{first}
use Rattle.blocks.proofs.BoolLaws.{by_t, clash, both_no, both_yes}
use mir.Val.{bool_byte}
use Rattle.words.proofs.OrLaws.{Ored, ored_decides}
use Rattle.blocks.proofs.ListLaws.{first_none, each}
use Rattle.model.specs.declared.Entry.{Entry}
use Rattle.std.specs.Prelude as rust
use Rattle.std.specs.Prelude.{None, Some, position}
use Rattle.std.specs.List.{position_or_len}
use Rattle.std.proofs.lemmas.List.Quantifiers.{position-Some}
use Rattle.std.proofs.lemmas.List.Sums.{fails_before_first}
use Rattle.std.proofs.lemmas.Grind.{common_steps}
use Rattle.model.specs.Model.{covered, is_word_ok, reserved, reserved_word, has_mark}
use Rattle.model.specs.Matches.{any_mark, matches, meets, first_match}
use Rattle.model.proofs.WordLaws.{marked_kind}
use Rattle.xaplain.specs.Slices.{entry_at}
use Rattle.xaplain.specs.Moves.{Holds, Begins, BeginsAt, Starts, Passes, FirstFrom}
use Rattle.xaplain.proofs.PlainLaws.{nth, in_nth, apart, index_at, order_at, entry_ok, inside_run, past_run}
use Rattle.xaplain.proofs.PlaceLaws.{entry_is}

-- the code's test of a run's end
pub reach_test : (a b o : ℕ) → b ≤ a → eqb ((a - b) / 2 ^ o) 0 ≡ ltb a (b + 2 ^ o)
reach_test a b o h =
    by_t (eqb ((a - b) / 2 ^ o) 0) (λ t. t ∙ sym (lt-ltb a (b + 2 ^ o) (inside_run b a o h (eqb-true _ _ t))))
    (λ t. t ∙ sym (le-ltb a (b + 2 ^ o) (past_run b a o h (eqb-false _ _ t))))

-- the first that passes
first_nth : (q : Entry → Bool) (l : List Entry) (k : ℕ) → k < length l → ((j : ℕ) → j < k → q (nth l j) ≡ false) → q (nth l k) ≡ true →
    first q l ≡ some (nth l k)
first_nth q [] k h a t = absurd (omega arith)
first_nth q (e ∷ l) zero h a t = rw t
first_nth q (e ∷ l) (suc k) h a t = rw (a 0 (omega arith)) (first_nth q l k (omega arith) (λ j g. a (suc j) (omega arith)) t)

none_nth : (q : Entry → Bool) (l : List Entry) → ((j : ℕ) → j < length l → q (nth l j) ≡ false) → first q l ≡ none
none_nth q l f = first_none q (each l (λ x m t. let (k, h, e) = in_nth m in clash t (subst (λ (y : Entry). q y ≡ false) e (f k h))))

-- A SEARCH of the places from k to q - 1 of a slice
module _ (p : ℕ → Bool) (xs : List ℕ) (k q : ℕ) (a : k ≤ q) (b : q ≤ length xs) where
  abbrev part : List ℕ
  part = take (q - k) (drop k xs)

  part_length : length part ≡ q - k
  part_length = omega (arith, length-take (q - k) (drop k xs), length-drop k xs)

  part_at : (j : ℕ) → k ≤ j → j < q → get_or part (j - k) 0 ≡ get_or xs j 0
  part_at j g l =
      let e : k + (j - k) ≡ j = omega arith in
      get_or-take (q - k) (drop k xs) (j - k) 0 (omega arith) ∙ get_or-drop k xs (j - k) 0 ∙ ap (λ (i : ℕ). get_or xs i 0) e

  pub place_none : None ≡ position p part → (j : ℕ) → k ≤ j → j < q → p (get_or xs j 0) ≡ false
  place_none e j g l =
      let far : length part ≤ position_or_len p part = grind (arith, common_steps) in
      sym (ap p (part_at j g l)) ∙ fails_before_first p part (j - k) 0 (omega (arith, far, part_length))

  pub place_some : (r : ℕ) → Some r ≡ position p part → Passes (λ j. p (get_or xs j 0)) k q (k + r)
  place_some r e =
      let f = position-Some p part r 0 (sym e) in
      let lt : r < q - k = omega (arith, f.0, part_length) in
      let back : k + r - k ≡ r = omega arith in
      record {
        from = omega arith;
        to = omega arith;
        yes = sym (ap p (part_at (k + r) (omega arith) (omega arith))) ∙ ap (λ (i : ℕ). p (get_or part i 0)) back ∙ f.1;
        before = λ j g l. sym (ap p (part_at j g (omega arith))) ∙ f.2 (j - k) (omega arith);
      }

-- eight fields, by an OR over them
pub eight_decide : (f : ℕ → ℕ) (k x : ℕ) → Ored (λ j. f (k + j)) 0 8 x → Decides (eqb x 0) ((j : ℕ) → k ≤ j → j < k + 8 → f j ≡ 0)
eight_decide f k x o =
    let d = ored_decides (λ j. f (k + j)) 0 8 x o in (
      (λ t j g l. let e : k + (j - k) ≡ j = omega arith in sym (ap f e) ∙ d.0 t (j - k) (omega arith) (omega arith)),
      (λ t g. d.1 t (λ j i l. g (k + j) (omega arith) (omega arith))),
    )

byte_zero : (b : Bool) → (bool_byte b ≡ 0 → b ≡ false) × (b ≡ false → bool_byte b ≡ 0)
byte_zero true = ((λ e. absurd (omega (arith, e))), (λ t. absurd (clash refl t)))
byte_zero false = ((λ e. refl), (λ t. refl))

pub eight_words : (xs : List ℕ) (k x : ℕ) → Ored (λ j. bool_byte (not (eqb (get_or xs (k + j) 0) reserved_word))) 0 8 x →
    Decides (eqb x 0) ((j : ℕ) → k ≤ j → j < k + 8 → get_or xs j 0 ≡ reserved_word)
eight_words xs k x o =
    let d = eight_decide (λ j. bool_byte (not (eqb (get_or xs j 0) reserved_word))) k x o in (
      (λ t j g l. by_t (eqb (get_or xs j 0) reserved_word) (λ u. eqb-true _ _ u)
          (λ u. absurd (clash (ap not u) ((byte_zero (not (eqb (get_or xs j 0) reserved_word))).0 (d.0 t j g l))))),
      (λ t f. d.1 t (λ j g l. (byte_zero (not (eqb (get_or xs j 0) reserved_word))).1 (ap not (eq-eqb _ _ (f j g l))))),
    )

module _ {index order word marks : List ℕ} {n : ℕ} (h : Holds index order word marks n) where
  abbrev entry : ℕ → Entry
  entry j = entry_at index order word marks j

  -- what a filter accepts: for any mark, what is no reservation; for one mark, what has it, as no reservation has
  pub any_matches : (f j : ℕ) → f ≡ any_mark → not (eqb (get_or word j 0) reserved_word) ≡ matches f (entry j)
  any_matches f j e =
      sym (both_yes (not (reserved (entry j))))
      ∙ ap (λ (t : Bool). both (not (reserved (entry j))) (either t (has_mark f (entry j)))) (sym (eq-eqb f any_mark e))

  pub mark_matches : (f j : ℕ) → f ≢ any_mark → j < n → eqb (bit f (get_or marks j 0)) 1 ≡ matches f (entry j)
  mark_matches f j ne g =
      let ok : T (is_word_ok (entry j)) = subst (λ (x : Entry). T (is_word_ok x)) (sym (entry_is h j g)) (entry_ok h j g).word_ok in
      let named : eqb f any_mark ≡ false = ne_eqb f any_mark ne in
      by_t (has_mark f (entry j)) (λ t. let r : reserved (entry j) ≡ false = marked_kind (entry j) ok f (eqb-true _ _ t) in rw (named, r, t) refl)
      (λ t. rw (named, t) (sym (both_no (not (reserved (entry j))))))

  -- by the words, or by the marks
  module _ (f k q : ℕ) (b : q ≤ n) where
    abbrev Accepted : rust.Option ℕ → Type 0
    Accepted = FirstFrom (λ j. matches f (entry j)) k q

    same : {p : ℕ → Bool} (o : rust.Option ℕ) → ((j : ℕ) → j < q → p j ≡ matches f (entry j)) → FirstFrom p k q o → Accepted o
    same None e d = λ j g l. sym (e j l) ∙ d j g l
    same (Some r) e d = record {
      from = d.from;
      to = d.to;
      yes = sym (e r d.to) ∙ d.yes;
      before = λ j g l. sym (e j (omega (arith, d.to))) ∙ d.before j g l;
    }

    -- whether there is one
    abbrev Decided : Bool → Type 0
    Decided r = Decides r ((j : ℕ) → k ≤ j → j < q → matches f (entry j) ≡ false)

    decided : {p : ℕ → Bool} (r : Bool) → ((j : ℕ) → j < q → p j ≡ matches f (entry j)) → Decides r ((j : ℕ) → k ≤ j → j < q → p j ≡ false) → Decided r
    decided r e d = ((λ t j g l. sym (e j l) ∙ d.0 t j g l), (λ t g. d.1 t (λ j i l. e j l ∙ g j i l)))

    pub words_decide : f ≡ any_mark → (r : Bool) → Decides r ((j : ℕ) → k ≤ j → j < q → get_or word j 0 ≡ reserved_word) → Decided r
    words_decide e r d = decided r (λ j l. any_matches f j e) (
      (λ t j g l. ap not (eq-eqb _ _ (d.0 t j g l))),
      (λ t g. d.1 t (λ j i l. by_t (eqb (get_or word j 0) reserved_word) (λ u. eqb-true _ _ u)
          (λ u. absurd (clash (ap not u) (g j i l))))),
    )

    pub marks_decide : f ≢ any_mark → (r : Bool) → Decides r ((j : ℕ) → k ≤ j → j < q → bit f (get_or marks j 0) ≡ 0) → Decided r
    marks_decide ne r d = decided r (λ j l. mark_matches f j ne (omega arith)) (
      (λ t j g l. ne_eqb _ _ (λ e. omega (arith, d.0 t j g l))),
      (λ t g. d.1 t (λ j i l. let o = eqb-false _ _ (g j i l) in omega (arith, o))),
    )

    pub by_words : f ≡ any_mark → (o : rust.Option ℕ) → FirstFrom (λ j. not (eqb (get_or word j 0) reserved_word)) k q o → Accepted o
    by_words e o d = same o (λ j l. any_matches f j e) d

    pub by_marks : f ≢ any_mark → (o : rust.Option ℕ) → FirstFrom (λ j. eqb (bit f (get_or marks j 0)) 1) k q o → Accepted o
    by_marks ne o d = same o (λ j l. mark_matches f j ne (omega arith)) d

  -- what stands before where the search for a stops ends before a
  ended : (a k : ℕ) → Begins index n a k → (j : ℕ) → j < k → get_or index j 0 + 2 ^ get_or order j 0 ≤ a
  ended a k b j g =
      let (lt, le) = b.before j g in
      let far = apart j (j + 1) h.valid (omega arith) (omega (arith, h.count)) in
      omega (arith, far, le, index_at h (j + 1) lt, index_at h j (omega arith), ap (λ (o : ℕ). 2 ^ o) (order_at h j (omega arith)))

  -- the first that reaches past a - 1, by where that is
  module _ (a k : ℕ) (b : BeginsAt index n a k) where
    ends : (j : ℕ) → j < k → get_or index j 0 + 2 ^ get_or order j 0 ≤ a
    ends = ended a k (record { within = b.within; before = b.before })

    pub start_none : n ≤ k → Starts index order n a k
    start_none g = record { within = b.within; before = ends; after = λ j l u. absurd (omega arith) }

    pub start_here : ltb a ((entry k).base + 2 ^ (entry k).order) ≡ true → Starts index order n a k
    start_here t = record {
      within = b.within;
      before = ends;
      after = λ j l u. by_t (ltb k j) (λ v. omega (arith, b.after j (ltb-true _ _ v) u))
          (λ v. let e : k ≡ j = omega (arith, ltb-false k j v) in
          subst (λ (x : ℕ). a < get_or index x 0 + 2 ^ get_or order x 0) e (ltb-true _ _ t));
    }

    pub start_next : k < n → ltb a ((entry k).base + 2 ^ (entry k).order) ≡ false → Starts index order n a (k + 1)
    start_next g t = record {
      within = omega arith;
      before = λ j l. by_t (ltb j k) (λ v. ends j (ltb-true _ _ v))
          (λ v. let e : k ≡ j = omega (arith, ltb-false j k v) in
          subst (λ (x : ℕ). get_or index x 0 + 2 ^ get_or order x 0 ≤ a) e (ltb-false _ _ t));
      after = λ j l u. omega (arith, b.after j (omega arith) u);
    }

module _ {index order word marks : List ℕ} {n : ℕ} (h : Holds index order word marks n) (f a z : ℕ) where
  -- what ends before a does not reach it
  short : (j : ℕ) → j < n → get_or index j 0 + 2 ^ get_or order j 0 ≤ a → meets f a z (nth h.list j) ≡ false
  short j i le =
      rw (
        le-ltb a ((nth h.list j).base + 2 ^ (nth h.list j).order) (omega (arith, le, index_at h j i, ap (λ (o : ℕ). 2 ^ o) (order_at h j i))),
        both_no
            (leb (nth h.list j).base z),
      ) (both_no (matches f (nth h.list j)))

  -- so what lies before where the search for a stops, and before the start
  pub not_before : (r : ℕ) → Begins index n a r → (j : ℕ) → j < r → meets f a z (nth h.list j) ≡ false
  not_before r b j g = let (lt, le) = b.before j g in short j (omega arith) (ended h a r b j g)

  pub before_start : (r : ℕ) → Starts index order n a r → (j : ℕ) → j < r → meets f a z (nth h.list j) ≡ false
  before_start r s j g = short j (omega (arith, s.within)) (s.before j g)

  -- what does not match is passed
  pub passed : (k q : ℕ) → q ≤ n → ((j : ℕ) → j < k → meets f a z (nth h.list j) ≡ false) →
      ((j : ℕ) → k ≤ j → j < q → matches f (entry_at index order word marks j) ≡ false) → (j : ℕ) → j < q → meets f a z (nth h.list j) ≡ false
  passed k q g b p j l = by_t (ltb j k) (λ t. b j (ltb-true _ _ t))
      (λ t. rw (subst (λ (x : Entry). matches f x ≡ false) (entry_is h j (omega arith)) (p j (ltb-false _ _ t) l)) refl)

  module _ (k : ℕ) (before : (j : ℕ) → j < k → meets f a z (nth h.list j) ≡ false) where
    -- past last
    pub find_past : k < n → z < get_or index k 0 → None ≡ covered (first_match h.list a z f)
    find_past g lt = rw (none_nth (meets f a z) h.list (λ j b. by_t (ltb j k) (λ t. before j (ltb-true _ _ t))
        (λ t. let c : k ≤ j = ltb-false _ _ t in
        let le : get_or index k 0 ≤ (nth h.list j).base = by_t (ltb k j)
        (λ u. omega (arith, apart k j h.valid (ltb-true _ _ u) b, index_at h k g))
        (λ u. let e : k ≡ j = omega (arith, ltb-false k j u) in omega (arith, index_at h k g, ap (λ (x : ℕ). (nth h.list x).base) e)) in
        rw (lt-leb (nth h.list j).base z (omega arith)) (both_no (matches f (nth h.list j))))))

    module _ (e : Entry) (is : e ≡ nth h.list k) (le : e.base ≤ z) where
      here : meets f a z (nth h.list k) ≡ both (matches f e) (ltb a (e.base + 2 ^ e.order))
      here = ap (meets f a z) (sym is) ∙ rw (le-leb e.base z le) refl

      pub find_hit : k < n → matches f e ≡ true → ltb a (e.base + 2 ^ e.order) ≡ true → Some e ≡ covered (first_match h.list a z f)
      find_hit g t u =
          ap Some is
          ∙ sym (ap covered (first_nth (meets f a z) h.list k (omega (arith, h.count)) before (here ∙ rw (t, u) refl)))

      pub find_miss : both (matches f e) (ltb a (e.base + 2 ^ e.order)) ≡ false → meets f a z (nth h.list k) ≡ false
      find_miss t = here ∙ t

    pub find_none : n ≤ k → None ≡ covered (first_match h.list a z f)
    find_none g = rw (none_nth (meets f a z) h.list (λ j b. before j (omega (arith, h.count))))

  -- the first from k on that matches, if it starts at z or before: it reaches past a - 1
  module _ (k q j : ℕ) (g : q ≤ n) (before : (i : ℕ) → i < k → meets f a z (nth h.list i) ≡ false)
      (p : Passes (λ i. matches f (entry_at index order word marks i)) k q j) where
    none_before : (i : ℕ) → i < j → meets f a z (nth h.list i) ≡ false
    none_before = passed k j (omega (arith, p.to)) before p.before

    pub found_past : z < get_or index j 0 → None ≡ covered (first_match h.list a z f)
    found_past = find_past j none_before (omega (arith, p.to))

    pub found_hit : ((i : ℕ) → k ≤ i → i < n → a < get_or index i 0 + 2 ^ get_or order i 0) → (e : Entry) →
        e ≡ entry_at index order word marks j → e.base ≤ z → Some e ≡ covered (first_match h.list a z f)
    found_hit r e is le =
        let jn : j < n = omega (arith, p.to) in
        find_hit j none_before e (is ∙ entry_is h j jn) le jn (ap (matches f) is ∙ p.yes)
        (ap (λ (x : Entry). ltb a (x.base + 2 ^ x.order)) is ∙ lt-ltb a (get_or index j 0 + 2 ^ get_or order j 0) (r j p.from jn))
