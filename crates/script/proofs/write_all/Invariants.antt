-- `write_all`: what is left of the script, applied to the words so far, stays what the whole comes to.
use Prim.Native.Nat.{◌*◌}
use mathlib.Core.Path.{◌≡◌}
use mathlib.Core.Bool.{true}
use lib.ListN.{length, drop}
use Rattle.script.specs.Script.{places_below, applied}
use Rattle.script.proofs.write_all.Given as goal

abbrev pub invariant-loop-p : goal.invariant-loop-p
invariant-loop-p l =
    (places_below (length l.initial.pool) (drop (2 * l.p-index) l.script) ≡ true)
    × (applied l.initial.pool l.script ≡ applied l.pool (drop (2 * l.p-index) l.script))
