-- Each answer of a call is given exactly when the table says, and 1 to 4 alter nothing (R68 to R72, R81, R82).
use Prim.Native.Nat.{ℕ, ◌*◌}
use mathlib.Core.Path.{◌≡◌, refl, sym, ap, subst, ◌∙◌}
use mathlib.Core.List.{List}
use native.Mathlib.Omega.{arith}
use lib.Dec.{ltb}
use lib.ListN.{length}
use borrow.Author.Tests.{lt-ltb, le-ltb, ltb-true, ltb-false}
use Rattle.blocks.proofs.BoolLaws.{by_t}
use Rattle.layout.specs.WellFormed.{WellFormed}
use Rattle.verify.specs.Answers.{check_answer, Verdict, Verdict.well_formed_lem, Verdict.wrong_size, Verdict.malformed}
use Rattle.verify.proofs.AnswerLaws.{answered, meaning, accepted, well_formed_0}
use Rattle.batch.specs.Batch.{Parsed, parse}
use Rattle.batch.specs.Reply.{reply_bytes}
use Rattle.batch.proofs.RecordLaws.{refused_exactly}
use Rattle.calls.specs.Calls.{Called, refuse_call, run}
use Rattle.answers.specs.Answers.{done}
use Rattle.calls.specs.Refusal.{
  CallRow,
  CallRow.row_1,
  CallRow.row_2,
  CallRow.row_3,
  CallRow.row_4,
  CallRow.row_0,
}
use Rattle.calls.proofs.CallLaws.{run_unchecked, run_checked}

module _ (ws bs rs : List ℕ) where
  checked : check_answer ws ≡ done → CallRow ws bs rs (run ws bs rs)
  checked e = go (parse bs) refl
    where
      s : WellFormed ws
      s = accepted ws e

      go : (p : Parsed) → parse bs ≡ p → CallRow ws bs rs (run ws bs rs)
      go (Parsed.refused at) q = subst (CallRow ws bs rs) (sym (run_checked ws bs rs e q)) (row_3 s at ((refused_exactly bs at).0 q))
      go (Parsed.commands cs) q =
          subst (CallRow ws bs rs) (sym (run_checked ws bs rs e q))
          (by_t (ltb (length rs) (reply_bytes * length cs)) (λ t. rw t (row_4 s cs q (ltb-true _ _ t)))
          (λ t. rw t (row_0 s cs q (ltb-false _ _ t))))

  pub call_row : CallRow ws bs rs (run ws bs rs)
  call_row = go (check_answer ws) refl (meaning ws)
    where
      go : (r : ℕ) → check_answer ws ≡ r → Verdict ws r → CallRow ws bs rs (run ws bs rs)
      go r e (well_formed_lem n z p) = checked e
      go r e (wrong_size f) =
          subst (CallRow ws bs rs) (sym (run_unchecked ws bs rs
          (λ x. let z : ◌≡◌ {A = ℕ} 0 1 = sym x ∙ e in omega arith) ∙ ap (λ (a : ℕ). refuse_call ws rs a 0) e))
          (row_1 f)
      go r e (malformed n z f) =
          subst (CallRow ws bs rs) (sym (run_unchecked ws bs rs
          (λ x. let z : ◌≡◌ {A = ℕ} 0 2 = sym x ∙ e in omega arith) ∙ ap (λ (a : ℕ). refuse_call ws rs a 0) e))
          (row_2 n z f)

  -- and a row whose condition holds is what the call comes to
  pub call_sole : {x : Called} → CallRow ws bs rs x → x ≡ run ws bs rs
  call_sole (row_1 f) =
      let e : 1 ≡ check_answer ws = answered ws 1 (wrong_size f) in
      sym (run_unchecked ws bs rs (λ x. let z : ◌≡◌ {A = ℕ} 1 0 = e ∙ x in omega arith)
      ∙ ap (λ (a : ℕ). refuse_call ws rs a 0) (sym e))
  call_sole (row_2 n z f) =
      let e : 2 ≡ check_answer ws = answered ws 2 (malformed n z f) in
      sym (run_unchecked ws bs rs (λ x. let z : ◌≡◌ {A = ℕ} 2 0 = e ∙ x in omega arith)
      ∙ ap (λ (a : ℕ). refuse_call ws rs a 0) (sym e))
  call_sole (row_3 s at q) = sym (run_checked ws bs rs (well_formed_0 s) ((refused_exactly bs at).1 q))
  call_sole (row_4 s cs q h) =
      sym (run_checked ws bs rs (well_formed_0 s) q ∙ rw (lt-ltb (length rs) (reply_bytes * length cs) h) refl)
  call_sole (row_0 s cs q h) =
      sym (run_checked ws bs rs (well_formed_0 s) q ∙ rw (le-ltb (length rs) (reply_bytes * length cs) h) refl)
