-- The parts of the program's contract.
use Prim.Native.Nat.{ℕ, zero, suc, ◌*◌, ◌/◌, ◌%◌, ◌≤◌, ◌<◌}
use mathlib.Core.Path.{◌≡◌, refl, sym, ap, subst, ◌∙◌}
use mathlib.Core.List.{List, [], ◌∷◌}
use native.Mathlib.Omega.{arith}
use lib.ListN.{length, drop, set}
use borrow.Author.Tests.{lt-ltb, le-ltb}
use Rattle.calls.specs.Calls.{Called, refuse_call, run}
use Rattle.answers.specs.declared.Report.{Report}
use Rattle.answers.specs.Answers.{bad_batch}
use Rattle.calls.specs.Demand.{Call.init, words_after}
use Rattle.calls.specs.Refusal.{
  CallRow,
  CallRow.row_1,
  CallRow.row_2,
  CallRow.row_3,
  CallRow.row_4,
  CallRow.row_0,
}
use Rattle.calls.proofs.RefusalLaws.{call_row}
use Rattle.tamburish.specs.Program.{max_input, ran, refusal_size, refusal_over, size_for, space_for, size, space}

-- six bytes set one by one
six : (rs : List ℕ) → refusal_size ≤ length rs → (a b c d e f : ℕ) →
    set (set (set (set (set (set rs 0 a) 1 b) 2 c) 3 d) 4 e) 5 f ≡ a ∷ b ∷ c ∷ d ∷ e ∷ f ∷ drop refusal_size rs
six [] h a b c d e f = absurd (omega arith)
six (_ ∷ []) h a b c d e f = absurd (omega arith)
six (_ ∷ _ ∷ []) h a b c d e f = absurd (omega arith)
six (_ ∷ _ ∷ _ ∷ []) h a b c d e f = absurd (omega arith)
six (_ ∷ _ ∷ _ ∷ _ ∷ []) h a b c d e f = absurd (omega arith)
six (_ ∷ _ ∷ _ ∷ _ ∷ _ ∷ []) h a b c d e f = absurd (omega arith)
six (_ ∷ _ ∷ _ ∷ _ ∷ _ ∷ _ ∷ rs) h a b c d e f = refl

pub refusal_is : (rs : List ℕ) (a p : ℕ) → refusal_size ≤ length rs →
    set (set (set (set (set (set rs 0 255) 1 0) 2 3) 3 (a % 256)) 4 (p / 256 % 256)) 5 (p % 256) ≡ refusal_over a p rs
unfolding refusal_over
refusal_is rs a p h = six rs h 255 0 3 (a % 256) (p / 256 % 256) (p % 256)

-- the replies of a batch that runs have room
room : {ws bs rs : List ℕ} {c : Called} → CallRow ws bs rs c → c.result.answer ≡ 0 →
    24 * c.result.number ≤ length rs
room (row_1 f) e = absurd (omega arith)
room (row_2 n z f) e = absurd (omega arith)
room (row_3 s at q) e = absurd (omega arith)
room (row_4 s cs q h) e = absurd (omega arith)
room (row_0 s cs q h) e = h

done_size : (a k : ℕ) → a ≡ 0 → 24 * k ≡ size_for a k
done_size zero k e = refl
done_size (suc a) k e = absurd (omega arith)

done_space : (a k : ℕ) (rs : List ℕ) → a ≡ 0 → rs ≡ space_for a k rs
done_space zero k rs e = refl
done_space (suc a) k rs e = absurd (omega arith)

refused_size : (a p : ℕ) → (a ≡ 0 → ⊥) → refusal_size ≡ size_for a p
refused_size zero p f = absurd (f refl)
refused_size (suc a) p f = refl

refused_space : (a p : ℕ) (rs : List ℕ) → (a ≡ 0 → ⊥) → refusal_over a p rs ≡ space_for a p rs
refused_space zero p rs f = absurd (f refl)
refused_space (suc a) p rs f = refl

-- what `respond` ensures
abbrev pub Responds : (ws bs rs : List ℕ) (r : ℕ) (ws' rs' : List ℕ) → Type 0
Responds ws bs rs r ws' rs' =
    (r ≡ size (ran ws bs rs))
    × ((r ≤ length rs) × ((rs' ≡ space (ran ws bs rs)) × (ws' ≡ (ran ws bs rs).words)))

pub has_room : (ws bs rs : List ℕ) {x : Report} → x ≡ (run ws bs rs).result → x.answer ≡ 0 →
    24 * x.number ≤ length rs
has_room ws bs rs q e =
    subst (λ (y : Report). y.answer ≡ 0 → 24 * y.number ≤ length rs) (sym q) (room (call_row ws bs rs)) e

ran_is : (ws ws₁ bs rs : List ℕ) → length bs ≤ max_input → ws₁ ≡ words_after ws init → run ws₁ bs rs ≡ ran ws bs rs
unfolding ran
ran_is ws ws₁ bs rs h e = rw (le-ltb max_input (length bs) h) (ap (λ (w : List ℕ). run w bs rs) e)

-- a batch that is too long
ran_long : (ws bs rs : List ℕ) → max_input < length bs → refuse_call ws rs bad_batch max_input ≡ ran ws bs rs
unfolding ran
ran_long ws bs rs h = rw (lt-ltb max_input (length bs) h)

pub long : (ws bs rs : List ℕ) → max_input < length bs → refusal_size ≤ length rs → {r : ℕ} {rs' : List ℕ} → r ≡ refusal_size →
    rs' ≡ refusal_over bad_batch max_input rs → Responds ws bs rs r ws rs'
long ws bs rs h room {r} e g = (
  e ∙ ap size (ran_long ws bs rs h),
  (omega arith, (g ∙ ap space (ran_long ws bs rs h), ap (λ (c : Called). c.words) (ran_long ws bs rs h))),
)

-- after the run: x is its result, ws₁ the words before it, ws' those after it, and rs₁ the reply space
module _ (ws ws₁ bs rs : List ℕ) {ws' rs₁ : List ℕ} {x : Report} (few : length bs ≤ max_input)
    (init_is : ws₁ ≡ words_after ws init)
    (result_is : x ≡ (run ws₁ bs rs).result) (words_are : ws' ≡ (run ws₁ bs rs).words)
    (reply_is : rs₁ ≡ (run ws₁ bs rs).reply)
  where
    same : run ws₁ bs rs ≡ ran ws bs rs
    same = ran_is ws ws₁ bs rs few init_is

    result_same : x ≡ (ran ws bs rs).result
    result_same = result_is ∙ ap (λ (c : Called). c.result) same

    pub did : x.answer ≡ 0 → Responds ws bs rs (24 * x.number) ws' rs₁
    did e = (
      done_size x.answer x.number e ∙ ap (λ (y : Report). size_for y.answer y.number) result_same,
      (
        has_room ws₁ bs rs result_is e,
        (
          done_space x.answer x.number rs₁ e
              ∙ ap (λ (y : Report). space_for y.answer y.number rs₁) result_same
              ∙ ap (space_for (ran ws bs rs).result.answer (ran ws bs rs).result.number)
              (reply_is ∙ ap (λ (c : Called). c.reply) same),
          words_are ∙ ap (λ (c : Called). c.words) same,
        ),
      ),
    )

    pub said : (x.answer ≡ 0 → ⊥) → refusal_size ≤ length rs → {r : ℕ} {rs' : List ℕ} → r ≡ refusal_size →
        rs' ≡ refusal_over x.answer x.number rs₁ → Responds ws bs rs r ws' rs'
    said f h {r} e g = (
      e ∙ refused_size x.answer x.number f ∙ ap (λ (y : Report). size_for y.answer y.number) result_same,
      (
        omega arith,
        (
          g ∙ refused_space x.answer x.number rs₁ f
              ∙ ap (λ (y : Report). space_for y.answer y.number rs₁) result_same
              ∙ ap (space_for (ran ws bs rs).result.answer (ran ws bs rs).result.number)
              (reply_is ∙ ap (λ (c : Called). c.reply) same),
          words_are ∙ ap (λ (c : Called). c.words) same,
        ),
      ),
    )
