use Prim.Native.Nat.{ℕ, ◌+◌, ◌≤◌, ◌<◌}
use mathlib.Core.Path.{◌≡◌}
use lib.ListN.{get_or}
use Rattle.assoc_keys.proofs.same_from.Given as goal

abbrev pub invariant-loop-p : goal.invariant-loop-p
invariant-loop-p l = (q : ℕ) → l.t ≤ q → q < l.p → get_or l.a (l.i + q) 0 ≡ get_or l.b (l.j + q) 0
