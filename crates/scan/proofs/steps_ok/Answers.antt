use native.Mathlib.Omega.{arith}
use Rattle.scan.proofs.TallyLaws.{tallied_on, all_tallied}
use Rattle.scan.proofs.steps_ok.Goals as goal

pub loop-j-preserved : goal.loop-j-preserved
loop-j-preserved c =
    tallied_on _ _ _ _ _ _ _ c.loop-j.invariant c.in-Some.ensures c.if_filled-c.ensures.fact_1

pub returns : goal.returns
returns c =
    all_tallied _ _ _ _ _ _ c.loop-j.invariant (omega arith)
