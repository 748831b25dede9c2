-- What a listing comes to, and that each of its answers is given exactly when the table says (R148).
use Prim.Native.Nat.{ℕ, ◌*◌, ◌≤◌, ◌<◌}
use mathlib.Core.Path.{◌≡◌, refl, sym, ap, subst, ◌∙◌}
use mathlib.Core.List.{List}
use native.Mathlib.Omega.{arith}
use lib.Dec.{ltb}
use lib.ListN.{length}
use borrow.Author.Tests.{eq-eqb, ne_eqb, lt-ltb, le-ltb, ltb-true, ltb-false, leb-true, leb-false, le-leb, lt-leb}
use Rattle.blocks.proofs.BoolLaws.{by_t}
use Rattle.model.specs.declared.Entry.{Entry}
use Rattle.layout.specs.WellFormed.{WellFormed}
use Rattle.layout.specs.Decode.{list_of}
use Rattle.decode.proofs.DecodeLaws.{well_formed_list}
use Rattle.verify.specs.Answers.{check_answer, Verdict, Verdict.well_formed_lem, Verdict.wrong_size, Verdict.malformed}
use Rattle.verify.proofs.AnswerLaws.{answered, meaning, accepted, well_formed_0}
use Rattle.std.specs.Prelude as L
use Rattle.listing.specs.declared.Short.{Short}
use Rattle.listing.specs.Listing.{listed, entry_bytes, fits, outcome, filled_with}
use Rattle.calls.specs.Calls.{Listing, refuse_list, list_result, list_over, list}
use Rattle.answers.specs.Answers.{result_of, done, first_above_last}
use Rattle.calls.specs.Refusal.{
  ListRow,
  ListRow.list_1,
  ListRow.list_2,
  ListRow.list_8,
  ListRow.list_4,
  ListRow.list_0,
}

module _ (ws : List ℕ) (a z : ℕ) (bs : List ℕ) where
  pub list_unchecked : (check_answer ws ≡ done → ⊥) → list ws a z bs ≡ refuse_list bs (check_answer ws) 0
  unfolding list
  list_unchecked h = rw (ne_eqb (check_answer ws) done h)

  pub list_checked : check_answer ws ≡ done → list ws a z bs ≡ list_over (list_of ws) a z bs
  unfolding list
  list_checked h = rw (eq-eqb (check_answer ws) done h)

  -- R148: 8 before 4
  pub list_turned : check_answer ws ≡ done → z < a → list ws a z bs ≡ refuse_list bs first_above_last 0
  list_turned h lt = list_checked h ∙ rw (lt-ltb z a lt)

  -- a refusal with answer x
  pub list_refused : (x : ℕ) {r : ℕ} → x ≡ r → list ws a z bs ≡ refuse_list bs r 0 →
      (result_of x 0 ≡ (list ws a z bs).result) × (bs ≡ (list ws a z bs).buffer)
  list_refused x e q = (
    ap (λ (y : ℕ). result_of y 0) e ∙ ap (λ (y : Listing). y.result) (sym q),
    ap (λ (y : Listing). y.buffer) (sym q),
  )

  -- the code's two equations, joined
  module _ (h : check_answer ws ≡ done) (le : a ≤ z) where
    listed_as : list ws a z bs ≡
        record { result = list_result (outcome (listed (list_of ws) a z) bs); buffer = filled_with (listed (list_of ws) a z) bs }
    listed_as = list_checked h ∙ rw (le-ltb z a le)

    pub list_result_lem : (k : L.Result ℕ Short) → ((s : WellFormed ws) → k ≡ outcome (listed s.list a z) bs) →
        list_result k ≡ (list ws a z bs).result
    list_result_lem k q =
        let s : WellFormed ws = accepted ws h in
        ap list_result (q s ∙ ap (λ (l : List Entry). outcome (listed l a z) bs) (sym (well_formed_list s)))
        ∙ ap (λ (e : Listing). e.result) (sym listed_as)

    pub list_buffer : {bs' : List ℕ} → ((s : WellFormed ws) → bs' ≡ filled_with (listed s.list a z) bs) →
        bs' ≡ (list ws a z bs).buffer
    list_buffer q =
        let s : WellFormed ws = accepted ws h in
        q s ∙ ap (λ (l : List Entry). filled_with (listed l a z) bs) (sym (well_formed_list s))
        ∙ ap (λ (e : Listing). e.buffer) (sym listed_as)

  -- EACH ANSWER
  checked : check_answer ws ≡ done → ListRow ws a z bs (list ws a z bs)
  checked e =
      let s : WellFormed ws = accepted ws e in
      subst (ListRow ws a z bs) (sym (list_checked e))
      (by_t (ltb z a) (λ t. rw t (list_8 s (ltb-true _ _ t)))
      (λ t. by_t (fits (listed (list_of ws) a z) bs)
      (λ f. rw (t, f) (list_0 s (ltb-false _ _ t) (leb-true _ _ f)))
      (λ f. rw (t, f) (list_4 s (ltb-false _ _ t) (leb-false _ _ f)))))

  pub list_row : ListRow ws a z bs (list ws a z bs)
  list_row = go (check_answer ws) refl (meaning ws)
    where
      go : (r : ℕ) → check_answer ws ≡ r → Verdict ws r → ListRow ws a z bs (list ws a z bs)
      go r e (well_formed_lem n y p) = checked e
      go r e (wrong_size f) =
          subst (ListRow ws a z bs) (sym (list_unchecked (λ x. let y : ◌≡◌ {A = ℕ} 0 1 = sym x ∙ e in omega arith)
          ∙ ap (λ (r : ℕ). refuse_list bs r 0) e)) (list_1 f)
      go r e (malformed n y f) =
          subst (ListRow ws a z bs) (sym (list_unchecked (λ x. let y : ◌≡◌ {A = ℕ} 0 2 = sym x ∙ e in omega arith)
          ∙ ap (λ (r : ℕ). refuse_list bs r 0) e)) (list_2 n y f)

  -- and a row whose condition holds is what the listing comes to
  pub list_sole : {x : Listing} → ListRow ws a z bs x → x ≡ list ws a z bs
  list_sole (list_1 f) =
      let e : 1 ≡ check_answer ws = answered ws 1 (wrong_size f) in
      sym (list_unchecked (λ x. let y : ◌≡◌ {A = ℕ} 1 0 = e ∙ x in omega arith) ∙ ap (λ (r : ℕ). refuse_list bs r 0) (sym e))
  list_sole (list_2 n y f) =
      let e : 2 ≡ check_answer ws = answered ws 2 (malformed n y f) in
      sym (list_unchecked (λ x. let y : ◌≡◌ {A = ℕ} 2 0 = e ∙ x in omega arith) ∙ ap (λ (r : ℕ). refuse_list bs r 0) (sym e))
  list_sole (list_8 s h) = sym (list_turned (well_formed_0 s) h)
  list_sole (list_4 s g h) =
      sym (list_checked (well_formed_0 s)
      ∙ rw (le-ltb z a g, lt-leb (entry_bytes * length (listed (list_of ws) a z)) (length bs) h) refl)
  list_sole (list_0 s g h) =
      sym (list_checked (well_formed_0 s)
      ∙ rw (le-ltb z a g, le-leb (entry_bytes * length (listed (list_of ws) a z)) (length bs) h) refl)
