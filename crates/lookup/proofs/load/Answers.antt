-- `load`: the entry that covers index i, and how many nodes' blocks contain i.
use mathlib.Core.Path.{refl, sym, ◌∙◌}
use Rattle.lookup.proofs.LoadLaws.{depth_flat}
use Rattle.lookup.proofs.HeadLaws.{at_apart, at_vacant, at_head, at_spot}
use Rattle.lookup.proofs.load.Goals as goal

pub returns-in-Apart : goal.returns-in-Apart
returns-in-Apart c =
    λ s. let (q, d) = at_apart (c.locate-k.ensures s) c.in-Apart.is in rw (q, ← d) refl

pub returns-in-Vacant : goal.returns-in-Vacant
returns-in-Vacant c =
    λ s. let (t, q, a, le, d) = at_vacant _ _ _ (c.locate-k.ensures s)
    c.in-Vacant.is in rw (q, d) refl

pub returns-in-AtHead : goal.returns-in-AtHead
returns-in-AtHead c =
    λ s. let (z, q) = at_head _ (c.locate-k.ensures s)
    c.in-AtHead.is in c.loaded_as.ensures ∙ sym (rw (q, depth_flat _ _ z) refl)

pub returns-in-InNode : goal.returns-in-InNode
returns-in-InNode c =
    λ s. let (q, h, t, le, d) = at_spot _ _ _ (c.locate-k.ensures s)
    c.in-InNode.is in c.loaded_as-in-InNode.ensures ∙ sym (rw (q, ← d) refl)
