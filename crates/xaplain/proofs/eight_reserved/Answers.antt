use Prim.Native.Nat.{ℕ, ◌+◌}
use mathlib.Core.Path.{◌≡◌, subst}
use mathlib.Core.Bool.{not}
use native.Mathlib.Omega.{arith}
use lib.Dec.{eqb}
use lib.ListN.{get_or}
use mir.Val.{bool_byte}
use Rattle.model.specs.Model.{reserved_word}
use Rattle.words.proofs.OrLaws.{Ored, ored_next}
use Rattle.xaplain.proofs.FindLaws.{eight_words}
use Rattle.xaplain.proofs.eight_reserved.Goals as goal

pub loop-j-preserved : goal.loop-j-preserved
loop-j-preserved c = ored_next _ _ _ _ _ c.loop-j.invariant (omega arith) c.from-other.ensures

pub returns : goal.returns
returns c =
    let f = λ (i : ℕ). bool_byte (not (eqb (get_or c.args.word.now i 0) reserved_word)) in
    let e : c.loop-j.j ≡ 8 = omega (arith, c.loop-j.auto.j-end, c.loop-j-test.false) in
    eight_words c.args.word.now c.args.k c.loop-j.other
    (subst (λ (x : ℕ). Ored (λ i. f (c.args.k + i)) 0 x c.loop-j.other) e c.loop-j.invariant)
