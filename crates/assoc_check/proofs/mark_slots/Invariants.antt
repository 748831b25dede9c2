use Prim.Native.Nat.{ℕ}
use mathlib.Core.Bool.{Bool}
use Rattle.blocks.specs.Choice.{either}
use Rattle.assoc_check.specs.Seen.{SetOf, slot_names}
use Rattle.assoc_check.proofs.mark_slots.Given as goal

abbrev pub invariant-loop-j : goal.invariant-loop-j
invariant-loop-j l = (f : ℕ → Bool) → SetOf f l.initial.seen → SetOf (λ x. either (f x) (slot_names l.pool l.n l.m l.j x)) l.seen
