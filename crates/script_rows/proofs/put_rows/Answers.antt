use mathlib.Core.Path.{◌≡◌, refl, sym, subst, ◌∙◌}
use Prim.Native.Nat.{ℕ, ◌+◌, ◌/◌}
use native.Mathlib.Omega.{arith}
use lib.Dec.{eqb}
use borrow.Author.Tests.{eqb-true, eqb-false}
use Rattle.blocks.proofs.BoolLaws.{by_t}
use Rattle.tree.specs.Tree.{slot_bits}
use Rattle.script_rows.specs.Becomes.{Shown}
use Rattle.script_rows.proofs.PathLaws.{shown_stays, ready_move, base_stays, begun_above}
use Rattle.script_rows.proofs.put_rows.Goals as goal

pub loop-u-preserved : goal.loop-u-preserved
loop-u-preserved c =
    record {
      from-1 = c.loop-u.invariant.from-1;
      low = omega (arith, c.loop-u.invariant.low);
      high = omega arith;
      room = ready_move _ c.loop-u.invariant.room c.up_row.auto.rows (omega arith) c.loop-u.invariant.room.low;
      same = c.up_row.auto.rows ∙ c.loop-u.invariant.same;
      above = λ p h. c.up_row.ensures.other_rows.after p h ∙ c.loop-u.invariant.above p (omega arith);
      shown = λ l k w m o l' μ ed e bs sh t b d. by_t (eqb t (c.loop-u.u + 1))
          (λ x. subst (λ (n : ℕ). Shown c.args.at.base k l' μ c.up_row.new.rows c.args.top n) (sym (eqb-true _ _ x))
          (c.up_row.ensures.shown l k w m o l' μ ed (omega (arith, e, c.loop-u.invariant.low))
          (base_stays c.loop-u.invariant.above (omega arith) (bs.bases c.loop-u.u c.loop-u.invariant.low (omega arith)))
          (c.loop-u.invariant.shown l k w m o l' μ ed e bs sh c.loop-u.u c.loop-u.invariant.low (omega arith))))
          (λ x. let ne : t ≡ c.loop-u.u + 1 → ⊥ = eqb-false _ _ x in
          shown_stays c.up_row.ensures.other_rows ne (c.loop-u.invariant.shown l k w m o l' μ ed e bs sh t b (omega arith)));
    }

pub returns : goal.returns
returns c =
    λ l o l' μ ed bs u a b. c.loop-u.invariant.shown l _ _ _ o l' μ ed refl
    (begun_above c.low_row.ensures.other_rows bs)
    (c.low_row.ensures.shown l o l' μ ed (bs.bases (c.args.at.order / slot_bits) (omega arith) c.requires.ready.low)) u (omega arith)
    (omega arith)
