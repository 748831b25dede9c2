use Prim.Native.Nat.{ℕ}
use mathlib.Core.Path.{refl, ap, ◌∙◌}
use mathlib.Core.List.{List}
use lib.ListN.{get_or}
use native.Mathlib.Omega.{arith}
use Rattle.layout.proofs.RenderWordLaws.{pool_anchor}
use Rattle.words.proofs.FillLaws.{filled_in_lem}
use Rattle.script_erase.proofs.LandedLaws.{tables_bare}
use Rattle.script_erase.proofs.WriteLaws.{anchor_bare}
use Rattle.script_erase.proofs.bare_rows.Goals as goal

pub returns : goal.returns
returns c =
    λ s i k l pt st b v.
    let w = anchor_bare c.args.rows.now (get_or c.args.pool.now 0 0) (omega (arith, c.requires.row_count_in_bounds.0)) in
    tables_bare s (record { standing = st; there = pt; becomes = b; valid = v }) refl (w.0 ∙ pool_anchor s 0 (omega arith)) w.1 w.2 w.3
    (λ r h. ap (λ (y : List ℕ). get_or y r 0) c.fill.ensures
    ∙ (filled_in_lem c.args.nums.now 0 (get_or c.args.pool.now 0 0) 24 r (omega (arith, c.requires.row_count_in_bounds.1)) (omega arith) (omega arith)
    ∙ pool_anchor s 0 (omega arith)))
