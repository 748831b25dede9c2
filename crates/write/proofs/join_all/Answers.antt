use Prim.Native.Nat.{ℕ, suc, ◌+◌, ◌-◌, ◌/◌, ◌%◌, ◌^◌, ◌<◌, ◌≤◌}
use mathlib.Core.Path.{◌≡◌, sym, ◌∙◌}
use native.Mathlib.Omega.{arith}
use lib.ListN.{get_or}
use mathlib.Core.List.{List}
use Rattle.tree.specs.Tree.{tier_order, slots}
use Rattle.write.specs.Writes.{joins, join_at}
use Rattle.write.proofs.join_all.Goals as goal

step : (ns : List ℕ) (i : ℕ) (ws : List ℕ) (u to : ℕ) → u < to →
    joins ns i ws u (to - u) ≡ joins ns i (join_at ws (get_or ns (u + 1) 0) (i / 2 ^ (tier_order u) % slots) (get_or ns u 0)
    u) (u + 1) (to - (u + 1))
unfolding joins
step ns i ws u to h = let e : to - u ≡ suc (to - (u + 1)) = omega arith in rw e

stop : (ns : List ℕ) (i : ℕ) (ws : List ℕ) (u to : ℕ) → to ≤ u → joins ns i ws u (to - u) ≡ ws
unfolding joins
stop ns i ws u to h = let e : to - u ≡ 0 = omega arith in rw e

pub loop-u-preserved : goal.loop-u-preserved
loop-u-preserved c = c.loop-u.invariant ∙
    step _ _ _ _ _ (omega arith) ∙ rw (c.join.ensures, c.block_of.ensures)

pub returns : goal.returns
returns c =
    sym (c.loop-u.invariant ∙ stop _ _ _ _ _ (omega arith))
