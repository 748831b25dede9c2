-- `erase`: takes out the entry that covers i.
use mathlib.Core.Path.{sym, ap}
use Rattle.model.specs.Model.{covered}
use Rattle.lookup.proofs.HeadLaws.{at_none, at_head, at_spot}
use Rattle.erase.proofs.ErasedLaws.{words_gap, words_head}
use Rattle.erase.proofs.erase.Goals as goal

pub remove-requires-clause-erasing : goal.remove-requires-clause-erasing
remove-requires-clause-erasing c =
    let (q, h, t, le, d) = at_spot _ _ _ (c.locate-k.ensures c.requires.well_formed)
    c.in-InNode.is in
    record { formed = c.requires.well_formed; holds = h; height_is = t }

pub returns-in-Apart-clause-value : goal.returns-in-Apart-clause-value
returns-in-Apart-clause-value c =
    λ s. ap covered (sym (at_none (c.locate-k.ensures s) c.in-Apart.is))

pub returns-in-Apart-clause-pool_after : goal.returns-in-Apart-clause-pool_after
returns-in-Apart-clause-pool_after c =
    λ s. words_gap s _ (at_none (c.locate-k.ensures s) c.in-Apart.is)

pub returns-in-AtHead-clause-value : goal.returns-in-AtHead-clause-value
returns-in-AtHead-clause-value c =
    (λ s. let (z, q) = at_head _ (c.locate-k.ensures s) c.in-AtHead.is in
    ap covered (sym q))

pub returns-in-AtHead-clause-pool_after : goal.returns-in-AtHead-clause-pool_after
returns-in-AtHead-clause-pool_after c =
    (λ s. let (z, q) = at_head _ (c.locate-k.ensures s) c.in-AtHead.is in
    words_head s _ _ q z)

pub returns-in-InNode-clause-value : goal.returns-in-InNode-clause-value
returns-in-InNode-clause-value c =
    (λ s. let (q, h, t, le, d) = at_spot _ _ _ (c.locate-k.ensures s)
    c.in-InNode.is in ap covered (sym q))

pub returns-in-InNode-clause-pool_after : goal.returns-in-InNode-clause-pool_after
returns-in-InNode-clause-pool_after c =
    (λ s. let (q, h, t, le, d) = at_spot _ _ _ (c.locate-k.ensures s)
    c.in-InNode.is in c.remove.ensures.pool_after s h t)
