-- Passes over a node without early exits.
use Prim.Native.Nat.{ℕ, ◌+◌, ◌-◌, ◌%◌, ◌≤◌, max}
use mathlib.Core.Path.{◌≡◌, refl, sym, subst}
use mathlib.Core.Bool.{Bool, true}
use mathlib.Core.Logic.{◌≢◌}
use mathlib.Core.List.{List}
use native.Mathlib.Omega.{arith}
use lib.Dec.{eqb, ltb}
use lib.Bits.{bit_or}
use lib.ListN.{get_or}
use borrow.Author.Tests.{eqb-true, eqb-false, eq-eqb, ltb-true, ltb-false}
use Rattle.blocks.proofs.BoolLaws.{by_t, decide_eqb}
use Rattle.blocks.proofs.TwoWordLaws.{or_odd}
use Rattle.layout.specs.Words.{place, slot_place, slot_field, node_words}
use Rattle.layout.specs.Pool.{pool_of, Free}
use Rattle.layout.specs.Reading.{Decides, Internal, Blank, Vacant, Plain, NextFilled}
use Rattle.layout.proofs.FreeLaws.{free_words, words_free}

-- A NODE
module _ (ws : List ℕ) (n : ℕ) where
  pub free_decides : (r : Bool) → Decides r (Blank ws n 0 node_words) → Decides r (Free (pool_of ws) n)
  free_decides r d = (
    (λ t. words_free ws n (λ f h. d.0 t f (omega arith) h)),
    (λ t z. d.1 t (λ f a h. free_words ws n z f h)),
  )

  pub vacant_decides : (r : Bool) (a b : ℕ) → Decides r (Blank ws n (slot_field + a) (slot_field + b)) →
      Decides r (Vacant ws n a b)
  vacant_decides r a b d = (
    (λ t j p q. d.0 t (slot_field + j) (omega arith) (omega arith)),
    (λ t g. d.1 t (λ f p q. let e : slot_field + (f - slot_field) ≡ f = omega arith in
        subst (λ (x : ℕ). get_or ws (place n x) 0 ≡ 0) e (g (f - slot_field) (omega arith) (omega arith)))),
  )

  -- up to the first slot that is not empty
  pub filled_decides : (o e r : ℕ) → NextFilled ws n o e r → Decides (eqb r e) (Vacant ws n o e)
  filled_decides o e r f =
      decide_eqb r e (λ z j a b. f.empty j a (omega arith))
      (λ g. by_t (ltb r e) (λ t. absurd (f.ends (ltb-true _ _ t) (g r f.from (ltb-true _ _ t))))
      (λ t. let ge : e ≤ r = ltb-false _ _ t in omega (arith, f.to)))

  -- y is odd exactly if one of the slots from a up to j has an internal word
  pub record Tested (a j y : ℕ) : Type 0 where
    pub none : y % 2 ≡ 0 → Plain ws n a j
    pub zero : Plain ws n a j → y % 2 ≡ 0

  pub tested_start : (a : ℕ) → Tested a a 0
  tested_start a = record { none = λ e k p q. absurd (omega arith); zero = λ g. refl }

  pub tested_next : (a j y w i : ℕ) → Tested a j y → a ≤ j → w ≡ get_or ws (slot_place n j) 0 →
      Decides (eqb (i % 2) 0) (Internal w → ⊥) → Tested a (j + 1) (bit_or y i)
  tested_next a j y w i l ge e d =
      let o : bit_or y i % 2 ≡ max (y % 2) (i % 2) = or_odd y i in
      record {
        none = λ z k p q. by_t (eqb k j)
            (λ t. subst (λ (x : ℕ). Internal (get_or ws (slot_place n x) 0) → ⊥) (sym (eqb-true k j t))
            (subst (λ (v : ℕ). Internal v → ⊥) e (d.0 (even i (omega arith)))))
            (λ t. let d : k ≢ j = eqb-false k j t in l.none (omega arith) k p (omega arith));
        zero = λ g. let a : y % 2 ≡ 0 = l.zero (λ k p q. g k p (omega arith)) in
            let b : i % 2 ≡ 0 = by_t (eqb (i % 2) 0) (λ t. eqb-true _ _ t)
            (λ t. absurd (d.1 t (subst (λ (v : ℕ). Internal v → ⊥) (sym e) (g j ge (omega arith))))) in omega arith;
      }
    where
      even : (i : ℕ) → i % 2 ≡ 0 → eqb (i % 2) 0 ≡ true
      even i z = eq-eqb _ _ z

  pub tested_decides : (a b j y : ℕ) → Tested a j y → j ≡ b → Decides (eqb (y % 2) 0) (Plain ws n a b)
  tested_decides a b j y l e =
      decide_eqb (y % 2) 0 (λ z k p h. l.none z k p (omega arith)) (λ g. l.zero (λ k p h. g k p (omega arith)))
