-- `empty_slots`: empties the slots of node n from o on, c of them.
use Prim.Native.Nat.{ℕ, ◌+◌}
use mathlib.Core.Path.{◌≡◌, ap, sym, ◌∙◌}
use mathlib.Core.List.{List}
use native.Mathlib.Omega.{arith}
use lib.ListN.{set}
use Rattle.words.specs.Fill.{filled}
use Rattle.erase.proofs.empty_slots.Goals as goal

one : (ws : List ℕ) (p x c : ℕ) → c ≡ 1 → set ws p x ≡ filled ws p x c
unfolding filled
one ws p x c e = let z : p + 0 ≡ p = omega arith in sym (ap (filled ws p x) e ∙ ap (λ (y : ℕ). set ws y x) z)

-- THE PLACES IN THE CODE, each from one after it

pub returns-then-c-eq1 : goal.returns-then-c-eq1
returns-then-c-eq1 c =
    c.put_slot.ensures ∙ one _ _ 0 _ c.if-c-eq1.true
