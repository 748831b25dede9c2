-- `is_held`: whether a word is an entry's.
use Prim.Native.Nat.{◌%◌}
use lib.Dec.{eqb}
use borrow.Author.Tests.{eqb-true, eqb-false, eq-eqb}
use Rattle.layout.specs.declared.Slot.TheVariants.{Held}
use Rattle.layout.proofs.SaysLaws.{said, word_of_lem}
use Rattle.blocks.proofs.BoolLaws.{by_t}
use Rattle.steps.proofs.DecideLaws.{yes!, no! }
use Rattle.scan.proofs.is_held.Goals as goal

pub returns-then-w-ne0 : goal.returns-then-w-ne0
returns-then-w-ne0 c =
    by_t (eqb (c.args.w % 4) 2)
    (λ t. rw t (no! (λ h. (word_of_lem _ Held h).1 (eqb-true (c.args.w % 4) 2 t))))
    (λ t. rw t (yes! (said _ Held (c.if-w-ne0.true, eqb-false (c.args.w % 4) 2 t))))

pub returns-else-w-ne0 : goal.returns-else-w-ne0
returns-else-w-ne0 c =
    rw (eq-eqb c.args.w 0 c.if-w-ne0.false) (no! (λ h. (word_of_lem _ Held h).0 c.if-w-ne0.false))
