-- Free numbers, lowest first, over any kind of thing that stands at numbers.
use Prim.Native.Nat.{ℕ, zero, suc, ◌+◌, ◌≤◌, ◌<◌}
use mathlib.Core.Path.{◌≡◌, refl, sym, ap, subst, ◌∙◌}
use mathlib.Core.Bool.{Bool, true}
use mathlib.Core.List.{List, [], ◌∷◌, ◌++◌}
use mathlib.Core.Option.{none, some}
use native.Mathlib.Omega.{arith}
use lib.Dec.{leb}
use lib.ListN.{length, get_or}
use borrow.Author.Tests.{leb-true, le-leb, lt-leb}
use Rattle.blocks.specs.Choice.{pick, both}
use Rattle.blocks.specs.Lists.{In, here, there}
use Rattle.blocks.specs.Placing.{PlacesOf, standing, free_count, allocate, number_of}
use Rattle.blocks.specs.Placing.{free_at, free_before, free_place, left_free}
use Rattle.blocks.proofs.BoolLaws.{iff, clash, is_false}

-- 1 for what passes
abbrev pub one : Bool → ℕ
one b = pick b 1 0

module _ {A : Type 0} where
  pub place_is : (os : PlacesOf A) (m : ℕ) → free_place os m ≡ true → (m < length os) × (get_or os m none ≡ none)
  place_is [] m t = absurd (clash t refl)
  place_is (none ∷ os) zero t = (omega arith, refl)
  place_is (some p ∷ os) zero t = absurd (clash t refl)
  place_is (none ∷ os) (suc m) t = let (a, b) = place_is os m t in (omega arith, b)
  place_is (some p ∷ os) (suc m) t = let (a, b) = place_is os m t in (omega arith, b)

  pub is_place : (os : PlacesOf A) (m : ℕ) → m < length os → get_or os m none ≡ none → free_place os m ≡ true
  is_place [] m h e = absurd (omega arith)
  is_place (none ∷ os) zero h e = refl
  is_place (some p ∷ os) zero h e = let z : ◌≡◌ {A = ℕ} 0 1 = cc in absurd (omega arith)
  is_place (none ∷ os) (suc m) h e = is_place os m (omega arith) e
  is_place (some p ∷ os) (suc m) h e = is_place os m (omega arith) e

  -- COUNTING
  pub to_suc : (os : PlacesOf A) (m : ℕ) → free_before os (suc m) ≡ free_before os m + one (free_place os m)
  to_suc [] zero = refl
  to_suc [] (suc m) = refl
  to_suc (none ∷ os) zero = refl
  to_suc (some p ∷ os) zero = refl
  to_suc (none ∷ os) (suc m) = omega (arith, to_suc os m)
  to_suc (some p ∷ os) (suc m) = to_suc os m

  pub to_all : (os : PlacesOf A) (m : ℕ) → length os ≤ m → free_before os m ≡ free_count os
  to_all [] zero h = refl
  to_all [] (suc m) h = refl
  to_all (none ∷ os) zero h = absurd (omega arith)
  to_all (some p ∷ os) zero h = absurd (omega arith)
  to_all (none ∷ os) (suc m) h = ap suc (to_all os m (omega arith))
  to_all (some p ∷ os) (suc m) h = to_all os m (omega arith)

  pub next_none : (os : PlacesOf A) (m : ℕ) → m < length os → get_or os m none ≡ none →
      (free_before os (suc m) ≡ suc (free_before os m)) × (free_at os (free_before os m) ≡ m)
  next_none [] m h e = absurd (omega arith)
  next_none (none ∷ os) zero h e = (refl, refl)
  next_none (none ∷ os) (suc m) h e = let (a, b) = next_none os m (omega arith) e in (ap suc a, ap suc b)
  next_none (some p ∷ os) zero h e = let z : ◌≡◌ {A = ℕ} 0 1 = cc in absurd (omega arith)
  next_none (some p ∷ os) (suc m) h e = let (a, b) = next_none os m (omega arith) e in (a, ap suc b)

  -- what is left free when as many new ones have their numbers
  pub left_new_at : (os : PlacesOf A) (ps : List A) (m : ℕ) → left_free os (length ps) m ≡ free_place (allocate os ps) m
  left_new_at [] ps m = refl
  left_new_at (some q ∷ os) ps zero = refl
  left_new_at (some q ∷ os) ps (suc m) = left_new_at os ps m
  left_new_at (none ∷ os) [] zero = le-leb 0 0 (omega arith)
  left_new_at (none ∷ os) [] (suc m) =
      ap (both (free_place os m)) (le-leb 0 (suc (free_before os m)) (omega arith) ∙ sym (le-leb 0 (free_before os m) (omega arith))) ∙
      left_new_at os [] m
  left_new_at (none ∷ os) (p ∷ ps) zero = lt-leb (suc (length ps)) 0 (omega arith)
  left_new_at (none ∷ os) (p ∷ ps) (suc m) =
      ap (both (free_place os m)) (iff (leb (suc (length ps)) (suc (free_before os m))) (leb (length ps) (free_before os m))
      (λ t. le-leb (length ps) (free_before os m) (omega (arith, leb-true (suc (length ps)) (suc (free_before os m)) t)))
      (λ t. le-leb (suc (length ps)) (suc (free_before os m)) (omega (arith, leb-true (length ps) (free_before os m) t)))) ∙
      left_new_at os ps m

module _ {A : Type 0} (same : A → A → Bool) (same_is : (p q : A) → same p q ≡ true → p ≡ q)
    (same_refl : (p : A) → same p p ≡ true) where
  -- the j-th new one takes the j-th free number
  pub spot_free : (os : PlacesOf A) (ss : List A) (p : A) (bs : List A) → length ss < free_count os →
      (In p ss → ⊥) → (In p (standing os) → ⊥) → number_of same p (allocate os (ss ++ p ∷ bs)) ≡ free_at os (length ss)
  spot_free [] ss p bs h f g = absurd (omega arith)
  spot_free (some q ∷ os) ss p bs h f g =
      rw (is_false {b = same q p} (λ t. g (subst (λ (r : A). In r (q ∷ standing os)) (same_is q p t) here)))
      (ap suc (spot_free os ss p bs h f (λ m. g (there m))))
  spot_free (none ∷ os) [] p bs h f g = rw (same_refl p)
  spot_free (none ∷ os) (a ∷ ss) p bs h f g =
      rw (is_false {b = same a p} (λ t. f (subst (λ (r : A). In r (a ∷ ss)) (same_is a p t) here)))
      (ap suc (spot_free os ss p bs (omega arith) (λ m. f (there m)) g))
