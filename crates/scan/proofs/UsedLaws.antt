-- A slot of a node in use.
use Prim.Native.Nat.{ℕ, zero, suc, ◌≤◌, ◌<◌}
use mathlib.Core.Path.{◌≡◌, ap, ◌∙◌}
use mathlib.Core.Logic.{◌≢◌}
use native.Mathlib.Omega.{arith}
use lib.Dec.{eqb, ltb}
use borrow.Author.Tests.{eqb-true, eqb-false, ltb-true, ltb-false}
use Rattle.blocks.proofs.BoolLaws.{by_t}
use Rattle.tree.specs.Tree.{slots}
use Rattle.layout.specs.Pool.{Pool}
use Rattle.layout.specs.declared.Slot.TheVariants.{Empty}
use Rattle.layout.proofs.SaysLaws.{said, word_of_lem}
use Rattle.local.specs.Local.{UsedFrom}

-- where not all are 0, one is not
pub find_used : (f : ℕ → ℕ) (a b : ℕ) → (((k : ℕ) → a ≤ k → k < b → f k ≡ 0) → ⊥) →
    (k : ℕ) × (a ≤ k) × (k < b) × (f k ≢ 0)
find_used f a zero h = absurd (h (λ k p q. absurd (omega arith)))
find_used f a (suc b) h =
    by_t (ltb b a)
    (λ t. absurd (h (λ k p q. absurd (omega (arith, ltb-true b a t)))))
    (λ t. by_t (eqb (f b) 0)
    (λ e. let r = find_used f a b (λ g. h (λ k p q. by_t (eqb k b) (λ s. ap f (eqb-true k b s) ∙ eqb-true (f b) 0 e)
    (λ s. let d : k ≢ b = eqb-false k b s in g k p (omega arith)))) in
    (r.0, r.1, omega (arith, r.2), r.3))
    (λ e. (b, ltb-false b a t, omega arith, eqb-false (f b) 0 e)))

-- THE SLOTS OF A NODE
module _ (P : Pool) (n : ℕ) where
  pub used_of : (a : ℕ) → (((j : ℕ) → a ≤ j → j < slots → P.slot n j ≡ 0) → ⊥) → UsedFrom P n a
  used_of a h =
      let r = find_used (λ j. P.slot n j) a slots h in
      (r.0, r.1, r.2, λ e. r.3 (word_of_lem (P.slot n r.0) Empty e))

  pub unused_of : (a : ℕ) → ((j : ℕ) → a ≤ j → j < slots → P.slot n j ≡ 0) → UsedFrom P n a → ⊥
  unused_of a h u = u.3 (said (P.slot n u.0) Empty (h u.0 u.1 u.2))
