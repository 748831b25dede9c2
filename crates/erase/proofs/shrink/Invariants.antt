-- `shrink`: shrinks the head, of tier top, to what the list needs.
use Rattle.std.proofs.Common.{ℕ, List}
use Rattle.model.specs.declared.Entry.{Entry}
use Rattle.layout.specs.Places.{Places}
use Rattle.freenodes.specs.FreeNodes.{FreeMap}
use Rattle.erase.specs.Tall.{Tall, Tower}
use Rattle.erase.proofs.shrink.Given as goal

abbrev pub invariant-loop-h : goal.invariant-loop-h
invariant-loop-h z = Tower z.h z.pool × FreeMap z.pool z.map ×
    ((k : ℕ) (l : List Entry) (os : Places) → Tall k z.top l os z.initial.pool → Tall k z.h l os z.pool)
