use Prim.Native.Nat.{ℕ, ◌≤◌, ◌<◌}
use mathlib.Core.Path.{◌≡◌}
use mathlib.Core.Bool.{Bool, true}
use Rattle.assoc_layout.specs.Words.{tier_field}
use Rattle.assoc_layout.specs.Decode.{word}
use Rattle.assoc_check.specs.Seen.{SetOf}
use Rattle.assoc_check.proofs.all_named.Given as goal

abbrev pub invariant-loop-m : goal.invariant-loop-m
invariant-loop-m l = (f : ℕ → Bool) → SetOf f l.seen → (k : ℕ) → k < l.m → 1 ≤ word l.pool k tier_field → f k ≡ true
