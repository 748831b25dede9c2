-- Strictly ascending lists of numbers: equal where they have the same members.
use Prim.Native.Nat.{ℕ, suc, ◌≤◌, ◌<◌}
use mathlib.Core.Path.{◌≡◌, refl, sym, ap, ap₂, ◌∙◌}
use mathlib.Core.Bool.{Bool, true, false, not}
use mathlib.Core.List.{List, [], ◌∷◌}
use native.Mathlib.Omega.{arith}
use native.Mathlib.Nat.{le_refl, le_trans}
use lib.Dec.{ltb, eqb}
use borrow.Author.Tests.{eqb-true, eqb-false, ltb-true, ltb-false, eq-eqb, ne_eqb}
use Rattle.blocks.specs.Choice.{both, either}
use Rattle.blocks.specs.Lists.{any, without}
use Rattle.blocks.proofs.BoolLaws.{clash, by_t, both_no, either_swap, either_same}
use Rattle.blocks.specs.Tiers.{add, add_if}

-- STRICTLY ASCENDING LISTS, equal if they have the same members
pub data Asc : ℕ → List ℕ → Type 0 where
  asc_end : {n : ℕ} → Asc n []
  asc_more : {n x : ℕ} {s : List ℕ} → n ≤ x → Asc (suc x) s → Asc n (x ∷ s)

abbrev pub mem : ℕ → List ℕ → Bool
mem b s = any (λ c. eqb c b) s

pub asc_low : {n : ℕ} {s : List ℕ} (m : ℕ) → m ≤ n → Asc n s → Asc m s
asc_low m le asc_end = asc_end
asc_low m le (asc_more h a) = asc_more (le_trans le h) a

pub mem_low : {n : ℕ} {s : List ℕ} (b : ℕ) → b < n → Asc n s → mem b s ≡ false
mem_low b lt asc_end = refl
mem_low b lt (asc_more {x} h a) = rw (ne_eqb x b (omega arith)) (mem_low b (omega arith) a)

pub ext : {n m : ℕ} {s t : List ℕ} → Asc n s → Asc m t → ((b : ℕ) → mem b s ≡ mem b t) → s ≡ t
ext asc_end asc_end f = refl
ext asc_end (asc_more {x = y} {s = t} h a) f = absurd (clash {b = mem y (y ∷ t)} (rw (eq-eqb y y refl)) (sym (f y)))
ext (asc_more {x} {s} h a) asc_end f = absurd (clash {b = mem x (x ∷ s)} (rw (eq-eqb x x refl)) (f x))
ext (asc_more {x} {s} h a) (asc_more {x = y} {s = t} g c) f =
    by_t (ltb x y) (λ e. absurd (clash {b = mem x (x ∷ s)} (rw (eq-eqb x x refl))
    (f x ∙ mem_low x (le_refl _) (asc_more {x = y} (ltb-true _ _ e) c))))
    (λ e. by_t (ltb y x) (λ d. absurd (clash {b = mem y (y ∷ t)} (rw (eq-eqb y y refl))
    (sym (f y) ∙ mem_low y (le_refl _) (asc_more {x = x} (ltb-true _ _ d) a))))
    (λ d. ap₂ ◌∷◌ (omega (arith, ltb-false)) (ext a c (λ b. tails b (omega (arith, ltb-false))))))
  where
    tails : (b : ℕ) → x ≡ y → mem b s ≡ mem b t
    tails b q =
        by_t (eqb x b) (λ e. mem_low b (omega (arith, eqb-true)) a ∙ sym (mem_low b (omega (arith, eqb-true)) c))
        (λ e. rw (← q, e) at (f b))

pub asc_add : {n : ℕ} {s : List ℕ} (b : ℕ) → n ≤ b → Asc n s → Asc n (add b s)
asc_add b le asc_end = asc_more le asc_end
asc_add b le (asc_more {x} {s} h a) =
    by_t (ltb b x) (λ t. rw t (asc_more le (asc_more (ltb-true _ _ t) a)))
    (λ t. by_t (eqb b x) (λ e. rw (t, e) (asc_more h a))
    (λ e. rw (t, e) (asc_more h (asc_add b (let ne : b ≡ x → ⊥ = eqb-false _ _ e in omega (arith, ltb-false)) a))))

pub asc_add_if : (t : Bool) (b : ℕ) {s : List ℕ} → Asc 0 s → Asc 0 (add_if t b s)
asc_add_if true b a = asc_add b (omega arith) a
asc_add_if false b a = a

pub asc_without : (p : ℕ → Bool) {n : ℕ} {s : List ℕ} → Asc n s → Asc n (without p s)
asc_without p asc_end = asc_end
asc_without p (asc_more {x} h a) =
    by_t (p x) (λ e. rw e (asc_low _ (omega arith) (asc_without p a))) (λ e. rw e (asc_more h (asc_without p a)))

pub mem_add : (b c : ℕ) (s : List ℕ) → mem b (add c s) ≡ either (eqb c b) (mem b s)
mem_add b c [] = refl
mem_add b c (x ∷ s) =
    by_t (ltb c x) (λ t. rw t)
    (λ t. by_t (eqb c x) (λ e. rw (t, e, eqb-true c x e) (sym (either_same (eqb x b) _)))
    (λ e. rw (t, e, mem_add b c s) (either_swap (eqb x b) (eqb c b) (mem b s))))

pub mem_add_if : (t : Bool) (b c : ℕ) (s : List ℕ) → mem b (add_if t c s) ≡ either (both t (eqb c b)) (mem b s)
mem_add_if true b c s = mem_add b c s
mem_add_if false b c s = refl

pub mem_without : (p : ℕ → Bool) (b : ℕ) (s : List ℕ) → mem b (without p s) ≡ both (not (p b)) (mem b s)
mem_without p b [] = sym (both_no (not (p b)))
mem_without p b (x ∷ s) =
    by_t (eqb x b)
    (λ e. let q : p b ≡ p x = ap p (sym (eqb-true x b e)) in
    by_t (p x) (λ d. rw (d, e, mem_without p b s, q, d)) (λ d. rw (d, e, q, d)))
    (λ e. by_t (p x) (λ d. rw (d, e, mem_without p b s)) (λ d. rw (d, e, mem_without p b s)))
