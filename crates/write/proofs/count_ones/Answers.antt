use Prim.Native.Nat.{ℕ, suc, ◌+◌, ◌-◌, ◌<◌, ◌≤◌}
use mathlib.Core.Path.{◌≡◌, sym, ◌∙◌}
use native.Mathlib.Omega.{arith}
use lib.ListN.{get_or, set}
use mathlib.Core.List.{List}
use Rattle.layout.specs.Words.{filled_place}
use Rattle.write.specs.Writes.{ones}
use Rattle.write.proofs.count_ones.Goals as goal

step : (ns ws : List ℕ) (u to : ℕ) → u < to →
    ones ns ws u (to - u) ≡ ones ns (set ws (filled_place (get_or ns u 0)) 1) (u + 1) (to - (u + 1))
unfolding ones
step ns ws u to h = let e : to - u ≡ suc (to - (u + 1)) = omega arith in rw e

stop : (ns ws : List ℕ) (u to : ℕ) → to ≤ u → ones ns ws u (to - u) ≡ ws
unfolding ones
stop ns ws u to h = let e : to - u ≡ 0 = omega arith in rw e

pub loop-u-preserved : goal.loop-u-preserved
loop-u-preserved c = c.loop-u.invariant ∙ (step _ _ _ _ (omega arith) ∙ rw c.put_filled.ensures)

pub returns : goal.returns
returns c =
    sym (c.loop-u.invariant ∙ stop _ _ _ _ (omega arith))
