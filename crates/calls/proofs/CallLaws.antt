-- What a run comes to, test by test as the code has them.
use Prim.Native.Nat.{ℕ, ◌*◌, ◌≤◌, ◌<◌}
use mathlib.Core.Path.{◌≡◌, sym, ap, subst, ◌∙◌}
use mathlib.Core.Logic.{◌≢◌}
use mathlib.Core.List.{List}
use native.Mathlib.Omega.{arith}
use lib.ListN.{length}
use borrow.Author.Tests.{eq-eqb, ne_eqb, lt-ltb, le-ltb}
use Rattle.layout.specs.Decide.{node_count}
use Rattle.verify.specs.Answers.{check_answer}
use Rattle.verify.proofs.AnswerLaws.{accepted}
use Rattle.std.specs.Prelude.{Ok, Err}
use Rattle.batch.specs.declared.BadRecord.{BadRecord}
use Rattle.batch.specs.Batch.{Parsed, counted, parse}
use Rattle.batch.specs.Reply.{reply_bytes}
use Rattle.commands.proofs.BatchesLaws.{Read, was_read, was_refused, replies_all}
use Rattle.execute.specs.Execute.{execute}
use Rattle.calls.specs.Calls.{Called, counts, count_result, refuse_call, run_parsed, run}
use Rattle.answers.specs.Answers.{result_of, bad_batch, reply_space, done}
use Rattle.calls.specs.Running.{Ends}

-- THE COUNT
pub count_done : (bs : List ℕ) {k : ℕ} → Ok k ≡ counted (parse bs) → result_of done k ≡ count_result bs
count_done bs e =
    let r : Read bs _ = was_read e in sym (ap counts r.parsed ∙ ap (result_of done) r.count)

pub count_refused : (bs : List ℕ) {b : BadRecord} → Err b ≡ counted (parse bs) → result_of bad_batch b.at ≡ count_result bs
count_refused bs e = sym (ap counts (was_refused bs e))

-- REFUSALS
module _ (ws bs rs : List ℕ) where
  pub run_unchecked : check_answer ws ≢ done → run ws bs rs ≡ refuse_call ws rs (check_answer ws) 0
  unfolding run
  run_unchecked n = rw (ne_eqb (check_answer ws) done n)

  module _ (e : check_answer ws ≡ done) where
    pub run_checked : {p : Parsed} → parse bs ≡ p → run ws bs rs ≡ run_parsed (node_count ws) ws rs p
    unfolding run
    run_checked q = rw (eq-eqb (check_answer ws) done e, q)

    pub run_bad : {b : BadRecord} → Err b ≡ counted (parse bs) → run ws bs rs ≡ refuse_call ws rs bad_batch b.at
    run_bad f = run_checked (was_refused bs f)

    module _ {k : ℕ} (r : Read bs k) where
      pub run_short : length rs < reply_bytes * k → run ws bs rs ≡ refuse_call ws rs reply_space k
      run_short h =
          run_checked r.parsed
          ∙ rw (r.count, lt-ltb (length rs) (reply_bytes * k) h)

-- DONE
-- what a call leaves is what the definition says
pub record Comes (ws bs rs : List ℕ) (a n : ℕ) (ws' rs' : List ℕ) : Type 0 where
  pub result_is : result_of a n ≡ (run ws bs rs).result
  pub words_are : ws' ≡ (run ws bs rs).words
  pub reply_is : rs' ≡ (run ws bs rs).reply

pub comes_refused : {ws bs rs : List ℕ} {a n : ℕ} → run ws bs rs ≡ refuse_call ws rs a n → Comes ws bs rs a n ws rs
comes_refused e = record {
  result_is = sym (ap (λ (c : Called). c.result) e);
  words_are = sym (ap (λ (c : Called). c.words) e);
  reply_is = sym (ap (λ (c : Called). c.reply) e);
}

pub ran : {ws bs rs ws' rs' : List ℕ} {k : ℕ} (e : check_answer ws ≡ done) (r : Read bs k) →
    reply_bytes * k ≤ length rs →
    Ends (accepted ws e) r.cs 0 rs ws' rs' → Comes ws bs rs done k ws' rs'
ran {ws} {bs} {rs} {ws'} {rs'} {k} e r h d =
    let q : reply_bytes * length r.cs ≤ length rs = omega (arith, r.count) in
    let c = run_checked ws bs rs e r.parsed in
    record {
      result_is = sym (ap (λ (y : Called). y.result) c ∙ rw
          (le-ltb (length rs) (reply_bytes * length r.cs) q, r.count));
      words_are =
          d.words_are
          ∙ sym (ap (λ (y : Called). y.words) c ∙ rw (le-ltb (length rs) (reply_bytes * length r.cs) q));
      reply_is =
          d.reply_is ∙ replies_all (execute (node_count ws)) rs (accepted ws e).list r.cs q
          ∙ sym (ap (λ (y : Called). y.reply) c ∙ rw (le-ltb (length rs) (reply_bytes * length r.cs) q));
    }

-- the three equations of a call's contract
pub as_ensures : {ws bs rs ws' rs' : List ℕ} {a n : ℕ} → Comes ws bs rs a n ws' rs' →
    (result_of a n ≡ (run ws bs rs).result) × ((ws' ≡ (run ws bs rs).words) × (rs' ≡ (run ws bs rs).reply))
as_ensures x = (x.result_is, (x.words_are, x.reply_is))

-- and a fourth, of the bytes that were lent shared
pub with_lent : {A B C D : Type 0} → A × (B × C) → D → A × (B × (C × D))
with_lent x d = (x.0, (x.1.0, (x.1.1, d)))

-- an answer by the number that the code has of it
pub comes_as : {ws bs rs ws' rs' : List ℕ} {a b n : ℕ} → a ≡ b → Comes ws bs rs b n ws' rs' →
    Comes ws bs rs a n ws' rs'
comes_as {ws} {bs} {rs} {ws'} {rs'} {n = n} e x = subst (λ (y : ℕ). Comes ws bs rs y n ws' rs') (sym e) x

-- two equations, and two of what was lent shared
pub both_lent : {A B C D : Type 0} → A × B → C → D → A × (B × (C × D))
both_lent x c d = (x.0, (x.1, (c, d)))
