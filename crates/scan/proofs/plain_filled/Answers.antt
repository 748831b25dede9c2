-- `plain_filled`: how many slots of node n are filled, where none has an internal word.
use Rattle.scan.proofs.TallyLaws.{odd_filled_lem, both_plain}
use Rattle.scan.proofs.plain_filled.Goals as goal

pub returns-then-full_odd : goal.returns-then-full_odd
returns-then-full_odd c =
    odd_filled_lem _ _ (c.full_odd.ensures c.if-full_odd.true)

pub returns : goal.returns
returns c =
    both_plain _ _ _ _ _ _ c.in_ok-a.ensures c.in_ok-b.ensures
