-- `give_used`: the node is given if it is in use.
use mathlib.Core.Path.{refl}
use borrow.Author.Tests.{eq-eqb}
use Rattle.blocks.proofs.BoolLaws.{either_no}
use Rattle.freemap.proofs.MapLaws.{put_same}
use Rattle.freemap.proofs.give_used.Goals as goal

pub returns-else-w-ne0 : goal.returns-else-w-ne0
returns-else-w-ne0 c =
    let z = c in
    λ f M. rw (eq-eqb _ _ c.if-w-ne0.false, either_no (f z.args.m)) (put_same M z.args.m (f z.args.m) refl)
