use Prim.Native.Nat.{◌+◌}
use mathlib.Core.Path.{◌≡◌, refl, ◌∙◌}
use mathlib.Core.Bool.{Bool, true, false}
use native.Mathlib.Omega.{arith}
use Rattle.std.specs.Prelude.{nat_lt}
use Rattle.std.specs.Int.{from_bool}
use Rattle.blocks.specs.Choice.{pick}
use Rattle.prepare.proofs.KeptLaws.{any_bit}
use Rattle.prepare.proofs.run_mark.Goals as goal

from_pick : (b : Bool) → from_bool b ≡ pick b 1 0
from_pick true = refl
from_pick false = refl

pub returns-clause-fact : goal.returns-clause-fact
returns-clause-fact c =
    any_bit c.next_marked.ensures c.mark_word-w.ensures (omega (
      arith,
      c.requires.m_lt_mark_count,
    )) (c.from.ensures ∙ from_pick (nat_lt c.next_marked.result (c.args.o + c.args.c)))
