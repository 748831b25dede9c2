-- The marks of an entry, and of a list, as bits.
use Prim.Native.Nat.{ℕ, ◌+◌, ◌*◌, ◌<◌, ◌^◌}
use mathlib.Core.Path.{◌≡◌, refl, sym, ap, ◌∙◌}
use mathlib.Core.Bool.{Bool, true, false}
use mathlib.Core.List.{List, [], ◌∷◌}
use native.Mathlib.Omega.{arith}
use lib.Dec.{eqb}
use borrow.Author.Tests.{eqb-true, eqb-false}
use Rattle.blocks.specs.Choice.{pick}
use Rattle.blocks.specs.Lists.{any}
use Rattle.blocks.specs.Blocks.{bit, bits_to}
use Rattle.blocks.proofs.BoolLaws.{by_t, either_no}
use Rattle.blocks.proofs.BitLaws.{bits_lt, bits_read}
use Rattle.model.specs.declared.Entry.{Entry}
use Rattle.model.specs.Model.{mark_count, has_mark, marks_of}

-- OF A LIST
pub marks_of_bits : (l : List Entry) → marks_of l ≡ bits_to (λ m. any (has_mark m) l) mark_count
marks_of_bits l = omega arith

pub marks_lt : (l : List Entry) → marks_of l < 2 ^ mark_count
marks_lt l = rw (marks_of_bits l) (bits_lt (λ m. any (has_mark m) l) mark_count)

pub marks_bit : (l : List Entry) (m : ℕ) → m < mark_count → bit m (marks_of l) ≡ pick (any (has_mark m) l) 1 0
marks_bit l m h = ap (bit m) (marks_of_bits l) ∙ bits_read (λ m. any (has_mark m) l) mark_count m h

pub marks_of_lem : (l : List Entry) (m : ℕ) → m < mark_count → eqb (bit m (marks_of l)) 1 ≡ any (has_mark m) l
marks_of_lem l m h = rw (marks_bit l m h) (one (any (has_mark m) l))
  where
    one : (b : Bool) → eqb (pick b 1 0) 1 ≡ b
    one true = refl
    one false = refl

-- OF AN ENTRY
pub mark_bit_lem : (m : ℕ) (e : Entry) → pick (has_mark m e) 1 0 ≡ bit m e.marks
mark_bit_lem m e = by_t (has_mark m e) (λ t. rw t (sym (eqb-true (bit m e.marks) 1 t)))
    (λ t. rw t (let n : bit m e.marks ≡ 1 → ⊥ = eqb-false _ _ t in omega arith))

pub marks_sum : (e : Entry) → e.marks < 2 ^ mark_count →
    pick (has_mark 0 e) 1 0 + 2 * pick (has_mark 1 e) 1 0 + 4 * pick (has_mark 2 e) 1 0 ≡ e.marks
marks_sum e h = omega (arith, mark_bit_lem 0 e, mark_bit_lem 1 e, mark_bit_lem 2 e)

pub marks_bits : (e : Entry) → e.marks < 2 ^ mark_count → bits_to (λ m. has_mark m e) mark_count ≡ e.marks
marks_bits e h = omega (
  arith,
  marks_sum e h,
  worth (has_mark 1 e) 2,
  worth (has_mark 2 e) 4,
)
  where
    worth : (b : Bool) (n : ℕ) → pick b n 0 ≡ n * pick b 1 0
    worth true n = omega arith
    worth false n = omega arith

-- of a list of one
pub marks_one : (e : Entry) → e.marks < 2 ^ mark_count → marks_of (e ∷ []) ≡ e.marks
marks_one e h = rw (either_no (has_mark 0 e), either_no (has_mark 1 e), either_no (has_mark 2 e))
    (omega (arith, marks_bits e h))
