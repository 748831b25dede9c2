-- Laws of tests and choices. Tests stand as equations `b ≡ true`.
use Prim.Native.Nat.{ℕ}
use mathlib.Core.Path.{◌≡◌, refl, sym, subst, ◌∙◌}
use mathlib.Core.Bool.{Bool, true, false, not}
use lib.Dec.{T, eqb}
use borrow.Author.Tests.{eqb-true, eqb-false}
use Rattle.blocks.specs.Choice.{both, either}
use Rattle.blocks.specs.Deciding.{Decides}

pub clash : {b : Bool} → b ≡ true → b ≡ false → ⊥
clash e d = subst T (sym e ∙ d) tt

pub by_t : (b : Bool) {C : Type 0} → (b ≡ true → C) → (b ≡ false → C) → C
by_t true f g = f refl
by_t false f g = g refl

pub is_false : {b : Bool} → (b ≡ true → ⊥) → b ≡ false
is_false {b = true} f = absurd (f refl)
is_false {b = false} f = refl

pub iff : (a b : Bool) → (a ≡ true → b ≡ true) → (b ≡ true → a ≡ true) → a ≡ b
iff true b f g = sym (f refl)
iff false true f g = g refl
iff false false f g = refl

pub both_i : {a b : Bool} → a ≡ true → b ≡ true → both a b ≡ true
both_i e d = rw (e, d)

pub T_true : (b : Bool) → T b → b ≡ true
T_true true t = refl
T_true false t = absurd t

pub both_l : (a b : Bool) → both a b ≡ true → a ≡ true
both_l true b t = refl
both_l false b t = t

pub both_r : (a b : Bool) → both a b ≡ true → b ≡ true
both_r true b t = t
both_r false b t = absurd (clash t refl)

pub both_no : (a : Bool) → both a false ≡ false
both_no true = refl
both_no false = refl

pub either_e : (a b : Bool) {C : Type 0} → either a b ≡ true → (a ≡ true → C) → (b ≡ true → C) → C
either_e true b t f g = f refl
either_e false b t f g = g t

pub either_yes : (a : Bool) → either a true ≡ true
either_yes true = refl
either_yes false = refl

pub either_no : (a : Bool) → either a false ≡ a
either_no true = refl
either_no false = refl

pub both_yes : (a : Bool) → both a true ≡ a
both_yes true = refl
both_yes false = refl

pub either_comm : (a b : Bool) → either a b ≡ either b a
either_comm true b = sym (either_yes b)
either_comm false b = sym (either_no b)

pub either_same : (a b : Bool) → either a (either a b) ≡ either a b
either_same true b = refl
either_same false b = refl

pub either_swap : (a b c : Bool) → either a (either b c) ≡ either b (either a c)
either_swap true true c = refl
either_swap true false c = refl
either_swap false b c = refl

-- a test under `!`
pub not-true : (b : Bool) → not b ≡ true → b ≡ false
not-true true e = sym e
not-true false e = refl

pub not-false : (b : Bool) → not b ≡ false → b ≡ true
not-false true e = refl
not-false false e = sym e

pub decide_eqb : {A : Type 0} (x y : ℕ) → (x ≡ y → A) → (A → x ≡ y) → Decides (eqb x y) A
decide_eqb x y f g = (λ e. f (eqb-true x y e), λ e a. eqb-false x y e (g a))
