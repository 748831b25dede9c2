-- `read_slot`: what the word of a slot says, case by case; a node first, as the way down meets it most.
use mathlib.Core.Path.{sym, ap, ◌∙◌}
use native.Mathlib.Omega.{arith}
use Rattle.layout.specs.Pool.{slot_of}
use Rattle.layout.proofs.SlotWordLaws.{slot_empty, slot_reserved, slot_held, slot_sibling, slot_child}
use Rattle.layout.proofs.read_slot.Goals as goal

pub returns-then-w-ge-NODES_FROM : goal.returns-then-w-ge-NODES_FROM
returns-then-w-ge-NODES_FROM c =
    sym (slot_child _ (omega arith) (omega arith))

pub returns-then-w-eq-RESERVED : goal.returns-then-w-eq-RESERVED
returns-then-w-eq-RESERVED c =
    sym (ap slot_of c.if-w-eq-RESERVED.true ∙ slot_reserved)

pub returns-then-w-eq2 : goal.returns-then-w-eq2
returns-then-w-eq2 c =
    sym (slot_sibling _ (omega arith) c.if-w-eq-RESERVED.false (omega arith))

pub returns-then-w-eq0 : goal.returns-then-w-eq0
returns-then-w-eq0 c =
    sym (ap slot_of c.if-w-eq0.true ∙ slot_empty)

pub returns : goal.returns
returns c =
    sym (slot_held _ (omega arith) c.if-w-eq2.false)
