-- Each answer of a run is given exactly when the table says, and 1 to 4 alter nothing (R308).
use Prim.Native.Nat.{ℕ, ◌*◌}
use mathlib.Core.Path.{◌≡◌, refl, sym, ap, subst, ◌∙◌}
use mathlib.Core.Logic.{◌≢◌}
use mathlib.Core.List.{List}
use native.Mathlib.Omega.{arith}
use lib.Dec.{ltb}
use lib.ListN.{length}
use borrow.Author.Tests.{lt-ltb, le-ltb, ltb-true, ltb-false}
use Rattle.blocks.proofs.BoolLaws.{by_t}
use Rattle.batch.specs.Batch.{Parsed, parse}
use Rattle.batch.specs.Reply.{reply_bytes}
use Rattle.batch.proofs.RecordLaws.{refused_exactly}
use Rattle.xaplain.specs.Slices.{Slices, Prescribes, room_of, list_in, holds_list, is_sized, check_answer}
use Rattle.xaplain_calls.specs.Calls.{Called, refuse_call, run}
use Rattle.xaplain_calls.specs.Demand.{Words}
use Rattle.xaplain_calls.specs.Refusal.{
  Sized,
  CheckExact,
  CallRow,
  CallRow.row_1,
  CallRow.row_2,
  CallRow.row_3,
  CallRow.row_4,
  CallRow.row_0,
}
use Rattle.xaplain_calls.proofs.CallLaws.{run_unchecked, run_checked}
use Rattle.xaplain_calls.proofs.CheckedLaws.{read_is, check_exact}

module _ (s : Slices) (bs rs : List ℕ) where
  refuses : {a : ℕ} → a ≢ 0 → check_answer s ≡ a → run s bs rs ≡ refuse_call s rs a 0
  refuses n e = run_unchecked s bs rs (λ x. n (sym e ∙ x)) ∙ ap (λ (a : ℕ). refuse_call s rs a 0) e

  module _ (w : Words s) where
    exact : CheckExact s
    exact = check_exact s w

    checked : check_answer s ≡ 0 → CallRow s bs rs (run s bs rs)
    checked e = let (z, h) = exact.zero_only e in go z h (parse bs) refl
      where
        go : Sized s → Prescribes (room_of s) (list_in s) s → (p : Parsed) → parse bs ≡ p → CallRow s bs rs (run s bs rs)
        go z h (Parsed.refused at) q =
            subst (CallRow s bs rs) (sym (run_checked s bs rs e q)) (row_3 z (list_in s) h at ((refused_exactly bs at).0 q))
        go z h (Parsed.commands cs) q =
            subst (CallRow s bs rs) (sym (run_checked s bs rs e q))
            (by_t (ltb (length rs) (reply_bytes * length cs)) (λ t. rw t (row_4 z (list_in s) h cs q (ltb-true _ _ t)))
            (λ t. rw t (row_0 z (list_in s) h cs q (ltb-false _ _ t))))

    answers : (check_answer s ≡ 0 → CallRow s bs rs (run s bs rs)) → (check_answer s ≡ 1 → CallRow s bs rs (run s bs rs)) →
        (check_answer s ≡ 2 → CallRow s bs rs (run s bs rs)) → CallRow s bs rs (run s bs rs)
    answers f g h =
        by_t (is_sized s)
        (λ t. by_t (holds_list s.index s.order s.word s.marks) (λ u. f (rw (t, u) refl)) (λ u. h (rw (t, u) refl)))
        (λ t. g (rw t refl))

    pub call_row : CallRow s bs rs (run s bs rs)
    call_row =
        answers checked
        (λ e. subst (CallRow s bs rs) (sym (refuses (omega arith) e)) (row_1 (exact.one_only e)))
        (λ e. let (z, f) = exact.two_only e in subst (CallRow s bs rs) (sym (refuses (omega arith) e)) (row_2 z f))

    -- and a row whose condition holds is what the call comes to
    pub call_sole : {x : Called} → CallRow s bs rs x → x ≡ run s bs rs
    call_sole (row_1 f) = sym (refuses (omega arith) (exact.one_if_lem f))
    call_sole (row_2 z f) = sym (refuses (omega arith) (exact.two_if z f))
    call_sole (row_3 z l h at q) = sym (run_checked s bs rs (exact.zero_if z l h).0 ((refused_exactly bs at).1 q))
    call_sole (row_4 z l h cs q g) =
        sym (run_checked s bs rs (exact.zero_if z l h).0 q ∙ rw (lt-ltb (length rs) (reply_bytes * length cs) g) refl)
    call_sole (row_0 z l h cs q g) =
        sym (run_checked s bs rs (exact.zero_if z l h).0 q ∙ rw (le-ltb (length rs) (reply_bytes * length cs) g, read_is s z h) refl)
