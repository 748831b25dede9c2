-- What a test decides, and what holds of each number up to the next one.
use Prim.Native.Nat.{ℕ, zero, suc, ◌+◌, ◌<◌}
use mathlib.Core.Path.{refl, sym, subst}
use mathlib.Core.Bool.{true, false}
use mathlib.Core.Logic.{◌≢◌}
use native.Mathlib.Omega.{arith}
use lib.Dec.{eqb}
use borrow.Author.Tests.{eqb-true, eqb-false}
use Rattle.blocks.proofs.BoolLaws.{by_t}
use Rattle.layout.specs.Reading.{Decides}
use Rattle.decode.proofs.KeepLaws.{no_both}

pub yes! : {A : Type 0} → A → Decides true A
yes! a = (λ e. a, λ e. no_both refl e)

pub no! : {A : Type 0} → (A → ⊥) → Decides false A
no! f = (λ e. no_both e refl, λ e. f)

-- what holds of each number between, and of the next
pub between_next : (P : ℕ → Type 0) (j i : ℕ) → ((k : ℕ) → j < k → k < i → P k) → P i → (k : ℕ) → j < k → k < i + 1 →
    P k
between_next P j i h p k a b = by_t (eqb k i) (λ e. subst P (sym (eqb-true k i e)) p)
    (λ e. let d : k ≢ i = eqb-false k i e in h k a (omega arith))

pub three : (Q : ℕ → Type 0) → Q 0 → Q 1 → Q 2 → (μ : ℕ) → μ < 3 → Q μ
three Q a b c zero h = a
three Q a b c (suc zero) h = b
three Q a b c (suc (suc zero)) h = c
three Q a b c (suc (suc (suc μ))) h = absurd (omega arith)
