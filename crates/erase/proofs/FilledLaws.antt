-- How many slots of a node are filled: where a run of them is emptied, where there is none, where there is only the first.
use Prim.Native.Nat.{ℕ, suc, ◌+◌, ◌*◌, ◌-◌, ◌≤◌, ◌<◌}
use mathlib.Core.Path.{◌≡◌, refl, sym, ap, ◌∙◌}
use mathlib.Core.Bool.{Bool, true, false, not}
use mathlib.Core.List.{List}
use native.Mathlib.Omega.{arith}
use lib.Dec.{eqb}
use borrow.Author.Tests.{eqb-true, eqb-false, ne_eqb, not-false}
use Rattle.blocks.specs.Blocks.{count_to}
use Rattle.blocks.proofs.BoolLaws.{by_t}
use Rattle.blocks.proofs.CountLaws.{count_all, count_none, count_run, count_zero, count_only}
use Rattle.model.specs.declared.Entry.{Entry}
use Rattle.tree.specs.Slots.{slot, Numbering}
use Rattle.tree.specs.Tree.{slots}
use Rattle.layout.specs.Words.{filled_of, filled_field, field_under}
use Rattle.layout.proofs.FieldLaws.{under_filled}

-- a run of c numbers loses the property
count_fewer : (f g : ℕ → Bool) (a c n : ℕ) → a + c ≤ n → ((j : ℕ) → j < n → (a ≤ j → j < a + c → ⊥) → f j ≡ g j) →
    ((t : ℕ) → t < c → f (a + t) ≡ true) → ((t : ℕ) → t < c → g (a + t) ≡ false) → count_to g n + c ≡ count_to f n
count_fewer f g a c n le same was now =
    omega (
      arith,
      count_run f g a c n le same,
      count_all (λ j. f (a + j)) c was,
      count_none (λ j. g (a + j)) c now,
    )

-- only the first has it
count_first : (f : ℕ → Bool) (n : ℕ) → 0 < n → f 0 ≡ true → ((j : ℕ) → 1 ≤ j → j < n → f j ≡ false) → count_to f n ≡ 1
count_first f n pos t h =
    omega (
      arith,
      count_fewer f (λ _. false) 0 1 n (omega arith) (λ j lt out. h j (by_t (eqb j 0)
          (λ e. absurd (let z : j ≡ 0 = eqb-true _ _ e in out (omega arith) (omega arith)))
          (λ e. let z : j ≡ 0 → ⊥ = eqb-false _ _ e in omega arith)) lt)
          (λ j lt. let z : 0 + j ≡ 0 = omega arith in rw z t) (λ _ _. refl),
      count_none (λ _. false) n (λ _ _. refl),
    )

module _ (slot : ℕ → ℕ) where
  -- a slot that does not count holds 0
  is_zero : (o : ℕ) → not (eqb (slot o) 0) ≡ false → slot o ≡ 0
  is_zero o e = eqb-true _ _ (not-false _ e)

  pub filled_none : ((o : ℕ) → o < slots → slot o ≡ 0) → filled_of slot ≡ 0
  filled_none z = count_none (λ o. not (eqb (slot o) 0)) slots (λ o lt. rw (z o lt) refl)

  pub filled_zero : filled_of slot ≡ 0 → (o : ℕ) → o < slots → slot o ≡ 0
  filled_zero e o lt = is_zero o (count_zero (λ o. not (eqb (slot o) 0)) slots e o lt)

  pub filled_first : (slot 0 ≡ 0 → ⊥) → ((o : ℕ) → 1 ≤ o → o < slots → slot o ≡ 0) → filled_of slot ≡ 1
  filled_first ne z =
      count_first (λ o. not (eqb (slot o) 0)) slots (omega arith) (rw (ne_eqb (slot 0) 0 ne) refl)
      (λ o pos lt. rw (z o pos lt) refl)

  pub filled_one : filled_of slot ≡ 1 → (slot 0 ≡ 0 → ⊥) → (o : ℕ) → 1 ≤ o → o < slots → slot o ≡ 0
  filled_one e ne o pos lt =
      is_zero o (count_only (λ o. not (eqb (slot o) 0)) 0 slots (omega arith) (rw (ne_eqb (slot 0) 0 ne) refl) e o lt
      (omega arith))

  -- c slots from a on are emptied, all of them filled before
  pub filled_run : (slot' : ℕ → ℕ) (a c : ℕ) → a + c ≤ slots →
      ((o : ℕ) → o < slots → (a ≤ o → o < a + c → ⊥) → slot' o ≡ slot o) →
      ((t : ℕ) → t < c → slot (a + t) ≡ 0 → ⊥) → ((t : ℕ) → t < c → slot' (a + t) ≡ 0) →
      filled_of slot' + c ≡ filled_of slot
  filled_run slot' a c le same was now =
      count_fewer (λ o. not (eqb (slot o) 0)) (λ o. not (eqb (slot' o) 0)) a c slots le
      (λ o lt out. ap (λ (x : ℕ). not (eqb x 0)) (sym (same o lt out)))
      (λ t lt. rw (ne_eqb (slot (a + t)) 0 (was t lt)) refl) (λ t lt. rw (now t lt) refl)

-- the count of the node (v + 1, b), by the slots of tier v
pub filled_under : (l : List Entry) (ν : Numbering) (h v b : ℕ) →
    field_under l ν h (suc v) b filled_field ≡ filled_of (λ o. slot l ν v (slots * b + o))
filled_under l ν h v b = let v≡ : suc v - 1 ≡ v = omega arith in under_filled l ν (suc v) b h ∙ rw v≡
