use Rattle.std.proofs.Common.{below_more}
use Rattle.passes.proofs.children_ok.Goals as goal

pub loop-j-preserved : goal.loop-j-preserved
loop-j-preserved c = below_more _ _ c.loop-j.invariant (c.may_lead.ensures c.if-not-may_lead.false)
