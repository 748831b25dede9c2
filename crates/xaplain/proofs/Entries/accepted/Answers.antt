use Prim.Native.Nat.{ℕ, ◌+◌}
use mathlib.Core.Path.{sym, ◌∙◌}
use mathlib.Core.Bool.{not}
use native.Mathlib.Omega.{arith}
use lib.Dec.{eqb}
use Rattle.std.specs.Prelude.{None, Some}
use Rattle.blocks.specs.Blocks.{bit}
use Rattle.model.specs.Model.{reserved_word}
use Rattle.xaplain.proofs.FindLaws.{place_none, place_some, by_words, by_marks}
use Rattle.xaplain.proofs.Entries.accepted.Goals.{then-f-eq-ANY_MARK, else-f-eq-ANY_MARK}
use Rattle.xaplain.proofs.Entries.accepted.Goals as goal

pub returns-in_err-r : goal.returns-in_err-r
returns-in_err-r c =
    let h = c.requires.holds in let b = c.requires.k_le_q in let f = c.args.f in let k = c.args.k in let q = c.args.q in
    rw c.from_residual.ensures (elim c.if-f-eq-ANY_MARK.branch [
      | then-f-eq-ANY_MARK w ↦ by_words h f k q b.1 w.if-f-eq-ANY_MARK.true None
          (place_none (λ (x : ℕ). not (eqb x reserved_word)) c.args.self.word.now k q b.0 (omega (arith, b.1, h.fits, h.word_fits))
          (sym c.in_err-r.was ∙ w.r-is ∙ w.unreserved-r.ensures))
      | else-f-eq-ANY_MARK w ↦ by_marks h f k q b.1 w.if-f-eq-ANY_MARK.false None
          (place_none (λ (x : ℕ). eqb (bit f x) 1) c.args.self.marks.now k q b.0 (omega (arith, b.1, h.fits, h.marks_fit))
          (sym c.in_err-r.was ∙ w.r-is ∙ w.marked-r.ensures))
    ])

pub returns : goal.returns
returns c =
    let h = c.requires.holds in let b = c.requires.k_le_q in let f = c.args.f in let k = c.args.k in let q = c.args.q in
    let r = c.in_ok-r.field-0 in
    elim c.if-f-eq-ANY_MARK.branch [
      | then-f-eq-ANY_MARK w ↦ by_words h f k q b.1 w.if-f-eq-ANY_MARK.true (Some (k + r))
          (place_some (λ (x : ℕ). not (eqb x reserved_word)) c.args.self.word.now k q b.0 (omega (arith, b.1, h.fits, h.word_fits)) r
          (sym c.in_ok-r.was ∙ w.r-is ∙ w.unreserved-r.ensures))
      | else-f-eq-ANY_MARK w ↦ by_marks h f k q b.1 w.if-f-eq-ANY_MARK.false (Some (k + r))
          (place_some (λ (x : ℕ). eqb (bit f x) 1) c.args.self.marks.now k q b.0 (omega (arith, b.1, h.fits, h.marks_fit)) r
          (sym c.in_ok-r.was ∙ w.r-is ∙ w.marked-r.ensures))
    ]
