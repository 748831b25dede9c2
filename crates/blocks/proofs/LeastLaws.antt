-- The least number that passes a test.
use Prim.Native.Nat.{ℕ, zero, suc, ◌+◌, ◌≤◌}
use mathlib.Core.Path.{◌≡◌, sym, ◌∙◌}
use mathlib.Core.Bool.{Bool, true}
use native.Mathlib.Omega.{arith}
use native.Mathlib.Nat.{le_refl, zero-add, suc-add, add-suc}
use lib.Dec.{leb}
use borrow.Author.Tests.{leb-true, le-leb}
use Rattle.blocks.specs.Lists.{least}
use Rattle.blocks.proofs.BoolLaws.{clash, by_t}

pub least_ge : (p : ℕ → Bool) (n h : ℕ) → h ≤ least p n h
least_ge p zero h = le_refl h
least_ge p (suc n) h = by_t (p h) (λ e. rw e (le_refl h)) (λ e. rw e (omega (arith, least_ge p n (suc h))))

pub least_most : (p : ℕ → Bool) (n h : ℕ) → least p n h ≤ n + h
least_most p zero h = omega arith
least_most p (suc n) h = by_t (p h) (λ e. rw e (omega arith)) (λ e. rw e (omega (arith, least_most p n (suc h))))

pub least_fits : (p : ℕ → Bool) (n h : ℕ) → p (n + h) ≡ true → p (least p n h) ≡ true
least_fits p zero h t = rw zero-add at t
least_fits p (suc n) h t = by_t (p h) (λ e. rw e e) (λ e. rw e (least_fits p n (suc h) (rw (suc-add, ← add-suc) at t)))

pub least_min : (p : ℕ → Bool) (n h g : ℕ) → h ≤ g → p g ≡ true → least p n h ≤ g
least_min p zero h g le t = le
least_min p (suc n) h g le t =
    by_t (p h) (λ e. rw e le) (λ e. rw e (least_min p n (suc h) g
    (let ne : h ≡ g → ⊥ = λ q. clash (rw q t) e in omega arith) t))

-- from 1 on, where the test is for H or more
pub least_is : (p : ℕ → Bool) (n H : ℕ) → 1 ≤ H → H ≤ n + 1 → ((h : ℕ) → 1 ≤ h → p h ≡ leb H h) → least p n 1 ≡ H
least_is p n H pos le f =
    let a : least p n 1 ≤ H = least_min p n 1 H pos (f H pos ∙ le-leb H H (le_refl H)) in
    let b : H ≤ least p n 1 = leb-true H (least p n 1)
    (sym (f (least p n 1) (least_ge p n 1)) ∙ least_fits p n 1 (f (n + 1) (omega arith) ∙ le-leb H (n + 1) le)) in
    omega arith
