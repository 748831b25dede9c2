-- `enter`: where p lies: past the head's block, at an entry as head, or under a node as head.
use Rattle.std.proofs.Common.{refl}
use mathlib.Core.Logic.{inl, inr}
use Rattle.lookup.proofs.HeadLaws.{head_view, head_empty, head_sibling, head_child, head_holds_lem}
use Rattle.lookup.proofs.enter.Goals as goal

pub enter_entry-requires-clause-head_holds : goal.enter_entry-requires-clause-head_holds
enter_entry-requires-clause-head_holds c =
    λ s. head_holds_lem s (head_view s refl c.read_slot-k.ensures) c.in-Held.is

pub enter_node-requires-clause-head_node : goal.enter_node-requires-clause-head_node
enter_node-requires-clause-head_node c =
    λ s. head_child s _ (head_view s refl c.read_slot-k.ensures) c.in-Child.is

pub returns-in-Empty : goal.returns-in-Empty
returns-in-Empty c =
    λ s. elim c.in-Empty.is [
      | inl e ↦ head_empty s _ (head_view s refl c.read_slot-k.ensures) e
      | inr x ↦ absurd (head_sibling s _ (head_view s refl c.read_slot-k.ensures) x.1)
    ]
