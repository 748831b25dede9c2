use Prim.Native.Nat.{ℕ, ◌+◌}
use mathlib.Core.Path.{◌≡◌, refl, subst}
use native.Mathlib.Omega.{arith}
use lib.ListN.{get_or}
use Rattle.blocks.specs.Blocks.{bit}
use Rattle.words.proofs.OrLaws.{Ored, ored_next}
use Rattle.xaplain.proofs.FindLaws.{eight_decide}
use Rattle.xaplain.proofs.eight_unmarked.Goals as goal

pub loop-j-preserved : goal.loop-j-preserved
loop-j-preserved c = ored_next _ _ _ _ _ c.loop-j.invariant (omega arith) refl

pub returns : goal.returns
returns c =
    let f = λ (i : ℕ). bit c.args.m (get_or c.args.marks.now i 0) in
    let e : c.loop-j.j ≡ 8 = omega (arith, c.loop-j.auto.j-end, c.loop-j-test.false) in
    eight_decide f c.args.k c.loop-j.marked (subst (λ (x : ℕ). Ored (λ i. f (c.args.k + i)) 0 x c.loop-j.marked) e c.loop-j.invariant)
