-- An OR over many words is 0 exactly if each of them is.
use Prim.Native.Nat.{ℕ, ◌+◌, ◌≤◌, ◌<◌}
use mathlib.Core.Path.{◌≡◌, refl, sym, ap, ◌∙◌}
use mathlib.Core.Logic.{◌≢◌}
use native.Mathlib.Omega.{arith}
use lib.Dec.{eqb}
use lib.Bits.{bit_or}
use borrow.Author.Tests.{eqb-true, eqb-false}
use Rattle.blocks.specs.Deciding.{Decides}
use Rattle.blocks.proofs.BoolLaws.{by_t, decide_eqb}
use Rattle.blocks.proofs.TwoWordLaws.{or_none, none_or}

-- x is the OR of f from a up to b
pub record Ored (f : ℕ → ℕ) (a b x : ℕ) : Type 0 where
  pub none : x ≡ 0 → (k : ℕ) → a ≤ k → k < b → f k ≡ 0
  pub zero : ((k : ℕ) → a ≤ k → k < b → f k ≡ 0) → x ≡ 0

pub ored_start : (f : ℕ → ℕ) (a b : ℕ) → b ≤ a → Ored f a b 0
ored_start f a b h = record { none = λ e k p q. absurd (omega arith); zero = λ g. refl }

pub ored_next : (f : ℕ → ℕ) (a b x y : ℕ) → Ored f a b x → a ≤ b → y ≡ f b → Ored f a (b + 1) (bit_or x y)
ored_next f a b x y o h e =
    record {
      none = λ z k p q. let w = or_none x y z in
          by_t (eqb k b) (λ t. ap f (eqb-true k b t) ∙ sym e ∙ w.1)
          (λ t. let d : k ≢ b = eqb-false k b t in o.none w.0 k p (omega arith));
      zero = λ g. none_or x y (o.zero (λ k p q. g k p (omega arith))) (e ∙ g b h (omega arith));
    }

pub ored_decides : (f : ℕ → ℕ) (a b x : ℕ) → Ored f a b x →
    Decides (eqb x 0) ((k : ℕ) → a ≤ k → k < b → f k ≡ 0)
ored_decides f a b x o = decide_eqb x 0 o.none o.zero
