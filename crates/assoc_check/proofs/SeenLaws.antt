-- The bits of the blocks that are named, one more by one.
use Prim.Native.Nat.{ℕ, suc, ◌+◌, ◌-◌, ◌≤◌, ◌<◌}
use mathlib.Core.Path.{◌≡◌, refl, sym, ap, ◌∙◌}
use mathlib.Core.Bool.{Bool, true, false}
use mathlib.Core.List.{List}
use native.Mathlib.Omega.{arith}
use lib.Dec.{eqb, ltb}
use borrow.Author.Tests.{eqb-true, eqb-false, eq-eqb, ne_eqb, ltb-true, lt-ltb}
use Rattle.blocks.specs.Choice.{either}
use Rattle.blocks.proofs.BoolLaws.{by_t, both_no, either_no, either_yes}
use Rattle.freemap.specs.FreeMap.{map_bit, one_if, put, Flips}
use Rattle.assoc_local.specs.Local.{slot_at}
use Rattle.assoc_check.specs.Seen.{SetOf, names, slot_names}

module _ {f : ℕ → Bool} {ss : List ℕ} (s : SetOf f ss) where
  pub set_as : (g : ℕ → Bool) → ((x : ℕ) → f x ≡ g x) → SetOf g ss
  set_as g e = record { long = s.long; bits = λ x h. s.bits x h ∙ ap (λ (b : Bool). one_if b) (e x) }

  pub set_same : (x : ℕ) → map_bit ss x ≡ 1 → SetOf (put f x true) ss
  set_same x e =
      record {
        long = s.long;
        bits = λ y h. by_t (eqb y x) (λ t. rw t (ap (map_bit ss) (eqb-true y x t) ∙ e)) (λ t. rw t (s.bits y h));
      }

  pub set_flip : (ss' : List ℕ) (x : ℕ) → Flips ss ss' x true → SetOf (put f x true) ss'
  set_flip ss' x p =
      record {
        long = p.long ∙ s.long;
        bits = λ y h. by_t (eqb y x) (λ t. rw t (ap (map_bit ss') (eqb-true y x t) ∙ p.at))
            (λ t. rw t (p.rest y (eqb-false y x t) ∙ s.bits y h));
      }

-- WHAT A WORD NAMES
pub names_none : (n r x : ℕ) → r ≡ 0 → names n r x ≡ false
names_none n r x z = rw (ne_eqb r (suc x) (omega arith)) (both_no (ltb x n))

pub names_over : (n r x : ℕ) → n < r → names n r x ≡ false
names_over n r x h =
    by_t (ltb x n) (λ t. let lt : x < n = ltb-true _ _ t in rw (t, ne_eqb r (suc x) (omega arith))) (λ t. rw t)

pub names_put : (f : ℕ → Bool) (n r x : ℕ) → (r ≡ 0 → ⊥) → r ≤ n → put f (r - 1) true x ≡ either (f x) (names n r x)
names_put f n r x ne h =
    by_t (eqb x (r - 1))
    (λ t. let e : x ≡ r - 1 = eqb-true _ _ t in rw (t, lt-ltb x n (omega arith), eq-eqb r (suc x) (omega arith)) (sym (either_yes (f x))))
    (λ t. let d : x ≡ r - 1 → ⊥ = eqb-false _ _ t in
    rw (t, ne_eqb r (suc x) (λ q. d (omega arith)), both_no (ltb x n)) (sym (either_no (f x))))

pub not_named : {f : ℕ → Bool} {ss : List ℕ} (g : ℕ → Bool) → SetOf f ss → ((x : ℕ) → g x ≡ false) → SetOf (λ x. either (f x) (g x)) ss
not_named {f} g s e = set_as s (λ x. either (f x) (g x)) (λ x. rw (e x) (sym (either_no (f x))))

-- SLOT BY SLOT
either_assoc : (a b c : Bool) → either (either a b) c ≡ either a (either b c)
either_assoc true b c = refl
either_assoc false b c = refl

module _ (ws : List ℕ) (n m : ℕ) where
  pub slots_start : {f : ℕ → Bool} {ss : List ℕ} → SetOf f ss → SetOf (λ x. either (f x) (slot_names ws n m 0 x)) ss
  unfolding slot_names
  slots_start s = not_named (slot_names ws n m 0) s (λ x. refl)

  pub slots_next : (f : ℕ → Bool) (j r : ℕ) {ss : List ℕ} → r ≡ slot_at ws m j →
      SetOf (λ x. either (either (f x) (slot_names ws n m j x)) (names n r x)) ss → SetOf (λ x. either (f x) (slot_names ws n m (j + 1) x)) ss
  unfolding slot_names
  slots_next f j r e s =
      let i : suc j ≡ j + 1 = omega arith in
      set_as s (λ x. either (f x) (slot_names ws n m (j + 1) x))
      (λ x. either_assoc (f x) (slot_names ws n m j x) (names n r x) ∙
      ap (λ (q : ℕ). either (f x) (either (slot_names ws n m j x) (names n q x))) e ∙
      ap (λ (k : ℕ). either (f x) (slot_names ws n m k x)) i)
