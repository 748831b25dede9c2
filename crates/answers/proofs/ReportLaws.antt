-- What a host gets where `?` hands an answer on as a refusal.
use Rattle.std.proofs.Common.{ℕ, ◌≡◌, Result, Ok, Err, ap, sym, ◌∙◌, refl, arith}
use Rattle.std.specs.Result.{IsErrAnd}
use Rattle.answers.specs.declared.Answer.{Answer}
use Rattle.answers.specs.declared.Answer.TheVariants.{
  PoolLength,
  NotWellFormed,
  BadBatch,
  ReplySpace,
  BadOrder,
  BadEntry,
  BadMark,
  FirstAboveLast,
  NoBudget,
  Absent,
  TooFewNodes,
  Ended,
  Paused,
  NotAligned,
  Covered,
  BadKey,
  BadScript,
  BadGate,
  NoTotal,
  PartAboveTotal,
}
use Rattle.answers.specs.declared.Refusal.{Refusal}
use Rattle.answers.specs.Answers.{number_of, refused, report_of, result_of, answer_of}

pub handed_on : (a : Answer) (r : Result ℕ Refusal) → IsErrAnd r (λ x. x ≡ refused a) → report_of r ≡ result_of (number_of a) 0
handed_on a (Ok n) h = elim h [ ]
handed_on a (Err x) h = ap (λ (y : Refusal). report_of (Err y)) h

-- the same where the answer is that of a call before
pub told : {A : Type 0} {o : Result A Answer} (a : Answer) (r : Result ℕ Refusal) → o ≡ Err a → IsErrAnd r (λ x. x ≡ refused a) →
    {n : ℕ} → answer_of o ≡ n → report_of r ≡ result_of n 0
told a r e h q = handed_on a r h ∙ ap (λ (k : ℕ). result_of k 0) (sym (ap answer_of e) ∙ q)

pub went_on : {A : Type 0} {o : Result A Answer} {x : A} → o ≡ Ok x → {n : ℕ} → answer_of o ≡ n → 0 ≡ n
went_on e q = sym (ap answer_of e) ∙ q

pub of_refused : (a : Answer) {r : Refusal} → r ≡ refused a → {n : ℕ} → number_of a ≡ n → report_of (Err r) ≡ result_of n 0
of_refused a e q = ap (λ (y : Refusal). report_of (Err y)) e ∙ ap (λ (k : ℕ). result_of k 0) q

-- no answer has the number of done
pub not_done : (a : Answer) → number_of a ≡ 0 → ⊥
not_done PoolLength e = absurd (omega arith)
not_done NotWellFormed e = absurd (omega arith)
not_done BadBatch e = absurd (omega arith)
not_done ReplySpace e = absurd (omega arith)
not_done BadOrder e = absurd (omega arith)
not_done BadEntry e = absurd (omega arith)
not_done BadMark e = absurd (omega arith)
not_done FirstAboveLast e = absurd (omega arith)
not_done NoBudget e = absurd (omega arith)
not_done Absent e = absurd (omega arith)
not_done TooFewNodes e = absurd (omega arith)
not_done Ended e = absurd (omega arith)
not_done Paused e = absurd (omega arith)
not_done NotAligned e = absurd (omega arith)
not_done Covered e = absurd (omega arith)
not_done BadKey e = absurd (omega arith)
not_done BadScript e = absurd (omega arith)
not_done BadGate e = absurd (omega arith)
not_done NoTotal e = absurd (omega arith)
not_done PartAboveTotal e = absurd (omega arith)

pub was_no : {A : Type 0} {o : Result A Answer} {a : Answer} → o ≡ Err a → {n : ℕ} → answer_of o ≡ n → n ≡ 0 → ⊥
was_no {a = a} e q z = not_done a (sym (ap answer_of e) ∙ q ∙ z)

-- a refusal handed on as it is
pub of_err : (x : Refusal) (r : Result ℕ Refusal) → IsErrAnd r (λ y. y ≡ x) → report_of r ≡ result_of (number_of x.answer) x.number
of_err x (Ok n) h = elim h [ ]
of_err x (Err y) h = ap (λ (z : Refusal). report_of (Err z)) h
