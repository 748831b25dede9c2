-- What stands at each place after a run of words is filled.
use Prim.Native.Nat.{ℕ, zero, suc, ◌+◌, ◌≤◌, ◌<◌}
use mathlib.Core.Path.{◌≡◌, refl, sym, ap, ◌∙◌}
use mathlib.Core.List.{List, [], ◌∷◌}
use native.Mathlib.Omega.{arith}
use lib.Dec.{eqb}
use lib.ListN.{length, get_or, set, replicate, length-set}
use lib.Seq.{get_or-set_same, get_or-set_other}
use borrow.Author.Tests.{eqb-true, eqb-false}
use Rattle.blocks.proofs.BoolLaws.{by_t}
use Rattle.std.proofs.Common.{add-one}
use Rattle.std.proofs.lemmas.List.{replicate_more, length-replicate}
use Rattle.words.specs.Bytes.{write_from, overwrite}
use Rattle.words.specs.Fill.{filled}
use Rattle.words.proofs.WriteLaws.{write_append}

module _ (ws : List ℕ) (a x : ℕ) where
  pub length_filled : (n : ℕ) → length (filled ws a x n) ≡ length ws
  unfolding filled
  length_filled zero = refl
  length_filled (suc n) = length-set (filled ws a x n) (a + n) x ∙ length_filled n

  pub filled_before : (n j : ℕ) → j < a → get_or (filled ws a x n) j 0 ≡ get_or ws j 0
  unfolding filled
  filled_before zero j h = refl
  filled_before (suc n) j h = get_or-set_other (filled ws a x n) (a + n) j x 0 (omega arith) ∙ filled_before n j h

  pub filled_after : (n j : ℕ) → a + n ≤ j → get_or (filled ws a x n) j 0 ≡ get_or ws j 0
  unfolding filled
  filled_after zero j h = refl
  filled_after (suc n) j h =
      get_or-set_other (filled ws a x n) (a + n) j x 0 (omega arith) ∙ filled_after n j (omega arith)

  pub filled_in_lem : (n j : ℕ) → a + n ≤ length ws → a ≤ j → j < a + n → get_or (filled ws a x n) j 0 ≡ x
  unfolding filled
  filled_in_lem zero j l h g = absurd (omega arith)
  filled_in_lem (suc n) j l h g =
      by_t (eqb j (a + n))
      (λ e. let z : j ≡ a + n = eqb-true _ _ e in
      rw z (get_or-set_same (filled ws a x n) (a + n) x 0 (omega (arith, length_filled n))))
      (λ e. let z : j ≡ a + n → ⊥ = eqb-false _ _ e in
      get_or-set_other (filled ws a x n) (a + n) j x 0 z ∙ filled_in_lem n j (omega arith) h (omega arith))

  -- as many copies of x, written from there on
  pub filled_over : (n : ℕ) → overwrite ws a (replicate n x) ≡ filled ws a x n
  unfolding filled write_from
  filled_over zero = refl
  filled_over (suc n) =
      let e : a + (0 + length (replicate n x)) ≡ a + n = omega (arith, length-replicate n x) in
      ap (λ (xs : List ℕ). write_from ws a 0 xs) (sym (replicate_more n x ∙ ap (λ (m : ℕ). replicate m x) (add-one n)))
      ∙ write_append ws a 0 (replicate n x) (x ∷ [])
      ∙ ap (λ (m : ℕ). set (write_from ws a 0 (replicate n x)) m x) e
      ∙ ap (λ (ys : List ℕ). set ys (a + n) x) (filled_over n)
