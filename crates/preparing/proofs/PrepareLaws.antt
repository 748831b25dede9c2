-- What preparing comes to, and that each of its answers is given exactly when the table says (R330 to R333).
use Prim.Native.Nat.{ℕ}
use mathlib.Core.Path.{◌≡◌, refl, sym, ap, ap₂, subst, ◌∙◌}
use mathlib.Core.List.{List}
use mathlib.Core.Option.{Option, none, some}
use native.Mathlib.Omega.{arith}
use lib.Dec.{ltb, eqb}
use lib.ListN.{length}
use borrow.Author.Tests.{eq-eqb, ne_eqb, eqb-true, eqb-false, lt-ltb, le-ltb, ltb-true, ltb-false}
use Rattle.blocks.proofs.BoolLaws.{by_t}
use Rattle.answers.specs.declared.Report.{Report}
use Rattle.answers.specs.Answers.{result_of, done, bad_batch}
use Rattle.layout.specs.Decide.{node_count}
use Rattle.layout.specs.WellFormed.{WellFormed}
use Rattle.layout.specs.Decode.{list_of, places_of}
use Rattle.decode.proofs.DecodeLaws.{prescribed, decode_list, decode_places, well_formed_sized}
use Rattle.decode.proofs.DecideLaws.{count_of}
use Rattle.verify.specs.Answers.{check_answer, Verdict}
use Rattle.verify.specs.Answers as Check
use Rattle.verify.proofs.AnswerLaws.{answered, meaning, accepted, well_formed_0}
use Rattle.batch.specs.declared.Command.{Command}
use Rattle.commands.specs.Commands.{Executed}
use Rattle.execute.specs.Execute.{execute}
use Rattle.execute.specs.State.{State}
use Rattle.execute.specs.Promised.{state_of, reply_to, words_to}
use Rattle.execute.proofs.TableLaws.{rows, row_sole}
use Rattle.script.specs.Script.{script}
use Rattle.preparing.specs.Prepare.{Yield, refused, yielding, preparing, preparing_over, preparing_one, the_one, prepare}
use Rattle.preparing.specs.Claims.{
  OneChange,
  Does,
  PrepareRow,
  PrepareRow.wrong_size,
  PrepareRow.malformed,
  PrepareRow.no_record,
  PrepareRow.own,
  PrepareRow.no_room,
  PrepareRow.prepared,
}
use Rattle.preparing.proofs.OneLaws.{the_one_lem, is_the_one, not_one, no_one}

-- ONE POOL, ONE STATE
pub state_is : {ws : List ℕ} (s : WellFormed ws) →
    ◌≡◌ {A = State} (record { list = list_of ws; places = places_of ws }) (state_of s)
state_is s = λ i. record { list = decode_list (prescribed s) i; places = decode_places (prescribed s) i }

-- TEST BY TEST, as the code has them
module _ (ws bs out : List ℕ) where
  pub prepare_unchecked : (check_answer ws ≡ done → ⊥) → prepare ws bs out ≡ refused (check_answer ws) out
  unfolding prepare
  prepare_unchecked h = rw (ne_eqb (check_answer ws) done h)

  pub prepare_checked : check_answer ws ≡ done → {o : Option Command} → the_one bs ≡ o →
      prepare ws bs out ≡ preparing_one (node_count ws) (record { list = list_of ws; places = places_of ws }) ws out o
  unfolding prepare
  prepare_checked h q = rw (eq-eqb (check_answer ws) done h, q)

  -- by whatever prescribes the words
  pub prepare_as : (s : WellFormed ws) {o : Option Command} → the_one bs ≡ o →
      prepare ws bs out ≡ preparing_one s.n (state_of s) ws out o
  prepare_as s {o} q =
      prepare_checked (well_formed_0 s) q
      ∙ ap₂ (λ (n : ℕ) (x : State). preparing_one n x ws out o) (count_of (well_formed_sized s)) (state_is s)

  pub prepare_none : WellFormed ws → the_one bs ≡ none → prepare ws bs out ≡ refused bad_batch out
  prepare_none s q = prepare_as s q

  -- as the two equations of a contract: 1 and 2, 3, and the rest
  pub told : {a k : ℕ} {ss : List ℕ} → prepare ws bs out ≡ record { result = result_of a k; slice = ss } →
      (result_of a k ≡ (prepare ws bs out).result) × (ss ≡ (prepare ws bs out).slice)
  told e = (sym (ap (λ (y : Yield). y.result) e), sym (ap (λ (y : Yield). y.slice) e))

  pub told_unchecked : {a : ℕ} → a ≡ check_answer ws → (a ≡ done → ⊥) →
      (result_of a 0 ≡ (prepare ws bs out).result) × (out ≡ (prepare ws bs out).slice)
  told_unchecked e h = told (prepare_unchecked (λ z. h (e ∙ z)) ∙ ap (λ (a : ℕ). refused a out) (sym e))

  pub told_none : check_answer ws ≡ done → the_one bs ≡ none →
      (result_of bad_batch 0 ≡ (prepare ws bs out).result) × (out ≡ (prepare ws bs out).slice)
  told_none h q = told (prepare_checked h q)

  pub told_command : check_answer ws ≡ done → {c : Command} → the_one bs ≡ some c → {r : Report} {ss : List ℕ} →
      ((s : WellFormed ws) → r ≡ (preparing s out c).result) → ((s : WellFormed ws) → ss ≡ (preparing s out c).slice) →
      (r ≡ (prepare ws bs out).result) × (ss ≡ (prepare ws bs out).slice)
  unfolding preparing
  told_command h q f g =
      let s : WellFormed ws = accepted ws h in
      let e = prepare_as s q in
      (f s ∙ sym (ap (λ (y : Yield). y.result) e), g s ∙ sym (ap (λ (y : Yield). y.slice) e))

-- ONE COMMAND that comes to something
module _ {ws : List ℕ} (s : WellFormed ws) (out : List ℕ) (c : Command) where
  own_refused : (a : ℕ) → (reply_to s c).answer ≡ a → (a ≡ 0 → ⊥) → preparing_over s.n (state_of s) ws out c ≡ refused a out
  own_refused a e h = rw (e, ne_eqb a 0 h) refl

  own_done : (reply_to s c).answer ≡ 0 → preparing_over s.n (state_of s) ws out c ≡ yielding (script ws (words_to s c)) out
  own_done e = rw e refl

  module _ (bs : List ℕ) (q : the_one bs ≡ some c) where
    pub prepare_own : ((reply_to s c).answer ≡ 0 → ⊥) → prepare ws bs out ≡ refused (reply_to s c).answer out
    prepare_own h = prepare_as ws bs out s q ∙ own_refused (reply_to s c).answer refl h

    pub prepare_yields : (reply_to s c).answer ≡ 0 → prepare ws bs out ≡ yielding (script ws (words_to s c)) out
    prepare_yields e = prepare_as ws bs out s q ∙ own_done e

-- THE ROWS
module _ (ws bs out : List ℕ) where
  does : (s : WellFormed ws) (c : Command) → OneChange bs c → {a : ℕ} → (reply_to s c).answer ≡ a → Does ws bs a (words_to s c)
  does s c o e = record {
    formed = s;
    command = c;
    one = o;
    comes_to = execute s.n s.list c;
    row = rows s.n s.list s.valid c;
    own_is = e;
    words_are = refl;
  }

  -- what a call comes to has a row
  over_row : (s : WellFormed ws) (c : Command) → OneChange bs c → PrepareRow ws bs out (preparing_over s.n (state_of s) ws out c)
  over_row s c o =
      by_t (eqb (reply_to s c).answer 0)
      (λ t. let e : (reply_to s c).answer ≡ 0 = eqb-true _ _ t in
      subst (PrepareRow ws bs out) (sym (own_done s out c e)) (room (words_to s c) (does s c o e)))
      (λ t. subst (PrepareRow ws bs out) (sym (own_refused s out c (reply_to s c).answer refl (eqb-false _ _ t)))
      (own (reply_to s c).answer (words_to s c) (does s c o refl) (eqb-false _ _ t)))
    where
      room : (ws' : List ℕ) → Does ws bs 0 ws' → PrepareRow ws bs out (yielding (script ws ws') out)
      room ws' d =
          by_t (ltb (length out) (length (script ws ws'))) (λ t. rw t (no_room ws' d (ltb-true _ _ t)))
          (λ t. rw t (prepared ws' d (ltb-false _ _ t)))

  one_row : (s : WellFormed ws) (o : Option Command) → the_one bs ≡ o → PrepareRow ws bs out (preparing_one s.n (state_of s) ws out o)
  one_row s none q = no_record s (no_one bs q)
  one_row s (some c) q = over_row s c (the_one_lem bs q)

  pub prepare_row : PrepareRow ws bs out (prepare ws bs out)
  prepare_row = go (check_answer ws) refl (meaning ws)
    where
      go : (r : ℕ) → check_answer ws ≡ r → Verdict ws r → PrepareRow ws bs out (prepare ws bs out)
      go r e (Check.Verdict.well_formed_lem n z p) =
          let s : WellFormed ws = accepted ws e in
          subst (PrepareRow ws bs out) (sym (prepare_as ws bs out s refl)) (one_row s (the_one bs) refl)
      go r e (Check.Verdict.wrong_size f) =
          subst (PrepareRow ws bs out)
          (sym (prepare_unchecked ws bs out (λ x. let z : ◌≡◌ {A = ℕ} 0 1 = sym x ∙ e in omega arith)
          ∙ ap (λ (a : ℕ). refused a out) e)) (wrong_size f)
      go r e (Check.Verdict.malformed n z f) =
          subst (PrepareRow ws bs out)
          (sym (prepare_unchecked ws bs out (λ x. let z : ◌≡◌ {A = ℕ} 0 2 = sym x ∙ e in omega arith)
          ∙ ap (λ (a : ℕ). refused a out) e)) (malformed n z f)

  -- and a row whose condition holds is what the call comes to
  by_does : {a : ℕ} {ws' : List ℕ} (d : Does ws bs a ws') →
      (prepare ws bs out ≡ preparing_over d.formed.n (state_of d.formed) ws out d.command)
      × ((reply_to d.formed d.command).answer ≡ a)
  by_does d = (
    prepare_as ws bs out d.formed (is_the_one bs d.one),
    sym (ap (λ (x : Executed). x.reply.answer) (row_sole d.formed.n d.formed.list d.formed.valid d.row))
        ∙ d.own_is,
  )

  pub by_done : {ws' : List ℕ} → Does ws bs 0 ws' → prepare ws bs out ≡ yielding (script ws ws') out
  by_done d =
      let (x, y) = by_does d in
      x ∙ (own_done d.formed out d.command y
      ∙ ap (λ (w : List ℕ). yielding (script ws w) out) (sym d.words_are))

  pub prepare_sole : {y : Yield} → PrepareRow ws bs out y → y ≡ prepare ws bs out
  prepare_sole (wrong_size f) =
      let e : 1 ≡ check_answer ws = answered ws 1 (Check.Verdict.wrong_size f) in
      sym (prepare_unchecked ws bs out (λ x. let z : ◌≡◌ {A = ℕ} 1 0 = e ∙ x in omega arith)
      ∙ ap (λ (a : ℕ). refused a out) (sym e))
  prepare_sole (malformed n z f) =
      let e : 2 ≡ check_answer ws = answered ws 2 (Check.Verdict.malformed n z f) in
      sym (prepare_unchecked ws bs out (λ x. let z : ◌≡◌ {A = ℕ} 2 0 = e ∙ x in omega arith)
      ∙ ap (λ (a : ℕ). refused a out) (sym e))
  prepare_sole (no_record s f) = sym (prepare_none ws bs out s (not_one bs f))
  prepare_sole (own a ws' d h) = let (x, y) = by_does d in sym (x ∙ own_refused d.formed out d.command a y h)
  prepare_sole (no_room ws' d h) = sym (by_done d ∙ rw (lt-ltb (length out) (length (script ws ws')) h) refl)
  prepare_sole (prepared ws' d h) = sym (by_done d ∙ rw (le-ltb (length out) (length (script ws ws')) h) refl)

  -- R333: a refusal leaves the slice, and its number is 0 but for that of 4
  leaves : {y : Yield} → PrepareRow ws bs out y → (y.result.answer ≡ 0 → ⊥) →
      (y.slice ≡ out) × ((y.result.answer ≡ 4 → ⊥) → y.result.number ≡ 0)
  leaves (wrong_size f) h = (refl, λ z. refl)
  leaves (malformed n z f) h = (refl, λ z. refl)
  leaves (no_record s f) h = (refl, λ z. refl)
  leaves (own a ws' d g) h = (refl, λ z. refl)
  leaves (no_room ws' d g) h = (refl, λ z. absurd (z refl))
  leaves (prepared ws' d g) h = absurd (h refl)

  pub refused_leaves : ((prepare ws bs out).result.answer ≡ 0 → ⊥) →
      ((prepare ws bs out).slice ≡ out) ×
      (((prepare ws bs out).result.answer ≡ 4 → ⊥) → (prepare ws bs out).result.number ≡ 0)
  refused_leaves = leaves prepare_row
