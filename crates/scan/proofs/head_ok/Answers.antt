-- `head_ok`: whether the head is as it must be, where each node is free or as it must be.
use mathlib.Core.Path.{sym, ◌∙◌}
use mathlib.Core.Logic.{inl, inr}
use native.Mathlib.Omega.{arith}
use Rattle.scan.proofs.HeadLaws.{head_at_lem, both_of}
use Rattle.scan.proofs.head_ok.Goals as goal

pub returns-then-pool-eq0 : goal.returns-then-pool-eq0
returns-then-pool-eq0 c =
    elim c.in-Empty.is [
      | inl e ↦ head_at_lem _ _ _ (sym c.read_slot.ensures ∙ e) (both_of _ c.if-pool-eq0.true c.none_used.ensures)
      | inr e ↦ head_at_lem _ _ _ (sym c.read_slot.ensures ∙ e) (both_of _ c.if-pool-eq0.true c.none_used.ensures)
    ]

pub returns-then-pool-lt8 : goal.returns-then-pool-lt8
returns-then-pool-lt8 c =
    head_at_lem _ _ _ (sym c.read_slot.ensures ∙ c.in-Held.is)
    (both_of _ (omega arith) c.none_used-then-pool-lt8.ensures)
