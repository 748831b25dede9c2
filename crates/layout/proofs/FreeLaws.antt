-- A free node word by word.
use Prim.Native.Nat.{ℕ, ◌+◌}
use mathlib.Core.Path.{◌≡◌}
use mathlib.Core.List.{List}
use native.Mathlib.Omega.{arith}
use lib.ListN.{get_or}
use Rattle.layout.specs.Words.{IsField, place, shift_field, owner_field, filled_field, mark_field, slot_field}
use Rattle.layout.specs.Pool.{pool_of, Free}
use Rattle.layout.proofs.FieldLaws.{by_field}

module _ (ws : List ℕ) (n : ℕ) where
  pub free_words : Free (pool_of ws) n → (f : ℕ) → IsField f → get_or ws (place n f) 0 ≡ 0
  free_words z = by_field (λ f. get_or ws (place n f) 0 ≡ 0) z.shift_is z.owner_is z.filled_is z.marks_are z.slots_are

  pub words_free : ((f : ℕ) → IsField f → get_or ws (place n f) 0 ≡ 0) → Free (pool_of ws) n
  words_free h =
      record {
        shift_is = h shift_field (omega arith);
        owner_is = h owner_field (omega arith);
        filled_is = h filled_field (omega arith);
        marks_are = λ μ lt. h (mark_field + μ) (omega arith);
        slots_are = λ j lt. h (slot_field + j) (omega arith);
      }
