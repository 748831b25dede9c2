-- How many numbers pass a test.
use Prim.Native.Nat.{ℕ, suc, ◌+◌, ◌≤◌, ◌<◌}
use mathlib.Core.Path.{◌≡◌, refl, ap, ◌∙◌}
use mathlib.Core.Bool.{Bool, false}
use borrow.Author.Tests.{eq-eqb, ne_eqb}
use Rattle.blocks.proofs.CountLaws as C
use Rattle.freemap.specs.FreeMap.{one_if, tally, put}

module _ (f : ℕ → Bool) where
  pub count_zero : tally f 0 ≡ 0
  unfolding tally
  count_zero = refl

  pub count_suc : (m : ℕ) → tally f (suc m) ≡ tally f m + one_if (f m)
  unfolding tally
  count_suc m = refl

  pub count_le : (m : ℕ) → tally f m ≤ m
  unfolding tally
  count_le m = C.count_le f m

  -- none passes
  pub count_none : (m : ℕ) → ((x : ℕ) → x < m → f x ≡ false) → tally f m ≡ 0
  unfolding tally
  count_none m z = C.count_none f m z

  pub count_same : (g : ℕ → Bool) (m : ℕ) → ((x : ℕ) → x < m → f x ≡ g x) → tally f m ≡ tally g m
  unfolding tally
  count_same g m s = C.count_same f g m s

-- one number changes
pub count_put : (f : ℕ → Bool) (m : ℕ) (b : Bool) (k : ℕ) → m < k →
    tally (put f m b) k + one_if (f m) ≡ tally f k + one_if b
unfolding tally
count_put f m b k h =
    let here : put f m b m ≡ b = rw (eq-eqb m m refl) in
    C.count_change f (put f m b) m k h (λ x l ne. rw (ne_eqb x m ne))
    ∙ ap (λ (c : Bool). tally f k + one_if c) here
