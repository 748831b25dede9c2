-- What a run comes to, test by test as the code has them.
use Prim.Native.Nat.{ℕ, ◌*◌, ◌≤◌, ◌<◌}
use mathlib.Core.Path.{◌≡◌, sym, ap, subst, ◌∙◌}
use mathlib.Core.Logic.{◌≢◌}
use mathlib.Core.List.{List, ◌++◌}
use native.Mathlib.Omega.{arith}
use lib.ListN.{length, drop}
use Rattle.model.specs.declared.Entry.{Entry}
use borrow.Author.Tests.{eq-eqb, ne_eqb, lt-ltb, le-ltb}
use Rattle.answers.specs.Answers.{result_of, bad_batch, reply_space, done}
use Rattle.std.specs.Prelude.{Err}
use Rattle.batch.specs.declared.BadRecord.{BadRecord}
use Rattle.batch.specs.Batch.{Parsed, counted, parse}
use Rattle.batch.specs.Reply.{reply_bytes}
use Rattle.commands.specs.Batches.{replies_by, list_by}
use Rattle.commands.proofs.BatchesLaws.{Read, was_refused, replies_all}
use Rattle.xaplain.specs.Slices.{Slices, slices, columns, list_of, check_answer}
use Rattle.xaplain.specs.Moves.{Columns}
use Rattle.xaplain.specs.Engine.{execute}
use Rattle.xaplain_calls.specs.Calls.{Called, refuse_call, run_parsed, run}
use Rattle.xaplain_calls.specs.Running.{Ends}

-- REFUSALS
module _ (s : Slices) (bs rs : List ℕ) where
  pub run_unchecked : check_answer s ≢ done → run s bs rs ≡ refuse_call s rs (check_answer s) 0
  unfolding run
  run_unchecked n = rw (ne_eqb (check_answer s) done n)

  module _ (e : check_answer s ≡ done) where
    pub run_checked : {p : Parsed} → parse bs ≡ p → run s bs rs ≡ run_parsed s rs p
    unfolding run
    run_checked q = rw (eq-eqb (check_answer s) done e, q)

    pub run_bad : {b : BadRecord} → Err b ≡ counted (parse bs) → run s bs rs ≡ refuse_call s rs bad_batch b.at
    run_bad f = run_checked (was_refused bs f)

    module _ {k : ℕ} (r : Read bs k) where
      pub run_short : length rs < reply_bytes * k → run s bs rs ≡ refuse_call s rs reply_space k
      run_short h = run_checked r.parsed ∙ rw (r.count, lt-ltb (length rs) (reply_bytes * k) h)

-- what a call leaves is what the definition says
pub record Comes (s : Slices) (bs rs : List ℕ) (a n : ℕ) (s' : Slices) (rs' : List ℕ) : Type 0 where
  pub result_is : result_of a n ≡ (run s bs rs).result
  pub slices_are : s' ≡ (run s bs rs).slices
  pub reply_is : rs' ≡ (run s bs rs).reply

pub comes_refused : {s : Slices} {bs rs : List ℕ} {a n : ℕ} → run s bs rs ≡ refuse_call s rs a n → Comes s bs rs a n s rs
comes_refused e = record {
  result_is = sym (ap (λ (c : Called). c.result) e);
  slices_are = sym (ap (λ (c : Called). c.slices) e);
  reply_is = sym (ap (λ (c : Called). c.reply) e);
}

-- DONE
as_slices : {is os ws ms : List ℕ} {room : ℕ} {l : List Entry} → Columns is os ws ms room l → slices is os ws ms ≡ columns room l
as_slices c = let a = c.index_is in let b = c.order_is in let d = c.word_is in let e = c.marks_are in
    λ i. record { index = a i; order = b i; word = d i; marks = e i }

pub ran : {is os ws ms bs rs is' os' ws' ms' rs' : List ℕ} {k : ℕ} → check_answer (slices is os ws ms) ≡ done → (r : Read bs k) →
    reply_bytes * k ≤ length rs → {l : List Entry} → list_of is os ws ms ≡ l → Ends (length is) l r.cs 0 rs is' os' ws' ms' rs' →
    Comes (slices is os ws ms) bs rs done k (slices is' os' ws' ms') rs'
ran {is} {os} {ws} {ms} {bs} {rs} e r h {l} f d =
    let q : reply_bytes * length r.cs ≤ length rs = omega (arith, r.count) in
    let c = run_checked (slices is os ws ms) bs rs e r.parsed in
    record {
      result_is = sym (ap (λ (y : Called). y.result) c ∙ rw (le-ltb (length rs) (reply_bytes * length r.cs) q, r.count));
      slices_are =
          as_slices d.columns ∙ ap (λ (x : List Entry). columns (length is) (list_by (execute (length is)) x r.cs)) (sym f)
          ∙ sym (ap (λ (y : Called). y.slices) c ∙ rw (le-ltb (length rs) (reply_bytes * length r.cs) q));
      reply_is =
          d.reply_is ∙ replies_all (execute (length is)) rs l r.cs q
          ∙ ap (λ (x : List Entry). replies_by (execute (length is)) x r.cs ++ drop (reply_bytes * length r.cs) rs) (sym f)
          ∙ sym (ap (λ (y : Called). y.reply) c ∙ rw (le-ltb (length rs) (reply_bytes * length r.cs) q));
    }

-- the three equations of a call's contract
pub as_ensures : {s s' : Slices} {bs rs rs' : List ℕ} {a n : ℕ} → Comes s bs rs a n s' rs' →
    (result_of a n ≡ (run s bs rs).result) × ((s' ≡ (run s bs rs).slices) × (rs' ≡ (run s bs rs).reply))
as_ensures x = (x.result_is, (x.slices_are, x.reply_is))

-- and a fourth, of the bytes that were lent shared
pub with_lent : {A B C D : Type 0} → A × (B × C) → D → A × (B × (C × D))
with_lent x d = (x.0, (x.1.0, (x.1.1, d)))

-- an answer by the number that the code has of it
pub comes_as : {s s' : Slices} {bs rs rs' : List ℕ} {a b n : ℕ} → a ≡ b → Comes s bs rs b n s' rs' → Comes s bs rs a n s' rs'
comes_as {s} {s'} {bs} {rs} {rs'} {n = n} e x = subst (λ (y : ℕ). Comes s bs rs y n s' rs') (sym e) x
