-- `bad_limit`: whether a limit is no number from 0 to 1.
use lib.Ieee.{of_bits}
use Rattle.gate.proofs.NanLaws.{is_nan_lem, is_number}
use Rattle.gate.proofs.bad_limit.Goals as goal

pub returns-then-x : goal.returns-then-x
returns-then-x c =
    rw (is_nan_lem c.args.x c.if-x.true)

pub returns : goal.returns
unfolding of_bits
returns c =
    rw (is_number c.args.x c.if-x.false, c.if-x-2.false)
