-- The pool's form in numbers alone: a small pool word for word (R28 to R32, R200, R220), and which lengths are a pool's (R27, R120).
-- No constant of the layout is used for what comes out, so that none can change here and in the code together.
use Prim.Native.Nat.{ℕ}
use mathlib.Core.Path.{◌≡◌, refl}
use mathlib.Core.Bool.{true, false}
use mathlib.Core.List.{List, [], ◌∷◌, ◌++◌}
use mathlib.Core.Option.{none, some}
use lib.ListN.{length, replicate}
use Rattle.tree.specs.Tree.{tall, has, slot_mark}
use Rattle.tree.specs.Slots.{slot}
use Rattle.layout.specs.Words.{field_of}
use Rattle.layout.specs.Places.{render}
use Rattle.layout.specs.Decide.{is_sized}

-- an entry at 64 with mark 1, a reservation at 65, an entry of order 3 at 72 with marks 0 and 1. The node over 64 to 127 is number
-- 0, the head number 1, and number 2 is free
pub pool_in_numbers :
    render
    (record { base = 64; order = 0; word = 7; marks = 2 }
    ∷ record { base = 65; order = 0; word = 1030; marks = 0 }
    ∷ record { base = 72; order = 3; word = 5; marks = 3 }
    ∷ [])
    (some (record { tier = 1; number = 1 }) ∷ some (record { tier = 2; number = 0 }) ∷ none ∷ []) 3
    ≡ 3 ∷ 4102 ∷ 3 ∷ 0
    ∷ 1 ∷ 66 ∷ 10 ∷ 256 ∷ 257 ∷ 0 ∷ 7 ∷ 1030 ∷ replicate 6 0 ++ 5 ∷ replicate 7 34 ++ replicate 48 0
    ++ 7 ∷ 0 ∷ 1 ∷ 2 ∷ 2 ∷ 0 ∷ 0 ∷ 4098 ∷ replicate 62 0
    ++ replicate 70 0
unfolding tall has slot_mark slot field_of
pool_in_numbers = refl

-- R120
pub pool_lengths : (ws : List ℕ) →
    (length ws ≡ 73 → is_sized ws ≡ false)
    × (length ws ≡ 74 → is_sized ws ≡ true)
    × (length ws ≡ 1146884 → is_sized ws ≡ true)
    × (length ws ≡ 1146954 → is_sized ws ≡ false)
pool_lengths ws = (λ e. rw e refl, λ e. rw e refl, λ e. rw e refl, λ e. rw e refl)
