use Prim.Native.Nat.{◌*◌}
use mathlib.Core.Path.{◌≡◌}
use Rattle.blocks.specs.Blocks.{block}
use Rattle.assoc_keys.specs.Number.{key_at}
use Rattle.assoc_keys.proofs.parting.Given as goal

abbrev pub invariant-loop-u : goal.invariant-loop-u
invariant-loop-u l = block (4 * l.u) (key_at l.a l.i) ≡ block (4 * l.u) (key_at l.b l.j)
