-- `short_of`: the short number for a word.
use native.Mathlib.Omega.{arith}
use Rattle.passes.proofs.ByteLaws.{short_none, short_low_half}
use Rattle.passes.proofs.short_of.Goals as goal

pub overflow_cast-result : goal.overflow_cast-result
overflow_cast-result c =
    omega (arith, short_none c.args.w c.if-hi-lo-eq0.true)

pub returns-then-hi-lo-eq0 : goal.returns-then-hi-lo-eq0
returns-then-hi-lo-eq0 c =
    short_low_half _ c.if-hi-lo-eq0.true
