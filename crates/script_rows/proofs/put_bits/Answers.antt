use mathlib.Core.Path.{sym, subst}
use mathlib.Core.List.{List}
use Prim.Native.Nat.{ℕ}
use native.Mathlib.Omega.{arith}
use Rattle.script_rows.specs.Row.{BitsPut}
use Rattle.script_rows.proofs.RowWriteLaws.{bits_put}
use Rattle.script_rows.proofs.put_bits.Goals as goal

pub returns : goal.returns
returns c =
    subst (λ (q : List ℕ). BitsPut c.args.rows.now q c.args.r c.args.x c.args.o c.args.c c.args.on) (sym c.put_mark_word.ensures)
    (bits_put c.requires.r_bound c.requires.x_lt_mark_count.0 c.requires.x_lt_mark_count.2 (omega arith) c.mark_word-w.ensures
    c.clear_bits.ensures c.with_bit-y.ensures)
