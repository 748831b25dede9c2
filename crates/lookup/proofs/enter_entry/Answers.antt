-- `enter_entry`: where p lies, where the head is an entry or a reservation.
use Rattle.lookup.proofs.HeadLaws.{lone_past, lone_here}
use Rattle.lookup.proofs.enter_entry.Goals as goal

pub returns-then-p-ne0 : goal.returns-then-p-ne0
returns-then-p-ne0 c =
    λ s. lone_past s (c.requires.head_holds s) _ c.if-p-ne0.true

pub returns : goal.returns
returns c =
    λ s. lone_here s (c.requires.head_holds s) _ c.if-p-ne0.false
