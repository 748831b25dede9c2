use Prim.Native.Nat.{ℕ, suc, ◌+◌, ◌-◌, ◌/◌, ◌%◌, ◌<◌, ◌≤◌}
use mathlib.Core.Path.{◌≡◌, sym, ◌∙◌}
use native.Mathlib.Omega.{arith}
use lib.ListN.{get_or}
use mathlib.Core.List.{List}
use Rattle.write.specs.Writes.{marked, mark_at}
use Rattle.write.proofs.mark_all.Goals as goal

step : (ns : List ℕ) (m : ℕ) (ws : List ℕ) (u to : ℕ) → u < to →
    marked ns m ws u (to - u) ≡ marked ns m (mark_at ws (get_or ns u 0) (m % 2) (m / 2 % 2) (m / 4 % 2)) (u + 1)
    (to - (u + 1))
unfolding marked
step ns m ws u to h = let e : to - u ≡ suc (to - (u + 1)) = omega arith in rw e

stop : (ns : List ℕ) (m : ℕ) (ws : List ℕ) (u to : ℕ) → to ≤ u → marked ns m ws u (to - u) ≡ ws
unfolding marked
stop ns m ws u to h = let e : to - u ≡ 0 = omega arith in rw e

pub loop-u-preserved : goal.loop-u-preserved
loop-u-preserved c = c.loop-u.invariant ∙ step _ _ _ _ _ (omega arith) ∙ rw
    c.put_marks.ensures

pub returns : goal.returns
returns c =
    sym (c.loop-u.invariant ∙ stop _ _ _ _ _ (omega arith))
