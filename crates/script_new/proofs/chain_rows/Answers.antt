use mathlib.Core.Path.{◌≡◌, sym, subst, ◌∙◌}
use native.Mathlib.Omega.{arith}
use lib.Dec.{eqb}
use borrow.Author.Tests.{eqb-true, eqb-false}
use Rattle.blocks.proofs.BoolLaws.{by_t}
use Rattle.script_new.specs.Chain.{ChainShown}
use Rattle.script_new.proofs.StepLaws.{chain_stays}
use Rattle.script_new.proofs.chain_rows.Goals as goal

pub loop-u-preserved : goal.loop-u-preserved
loop-u-preserved c =
    record {
      from_low = omega (arith, c.loop-u.invariant.from_low);
      same = c.chain_row.auto.rows ∙ c.loop-u.invariant.same;
      before-are = λ p h. c.chain_row.ensures.other_rows.before p (omega arith) ∙ c.loop-u.invariant.before-are p h;
      shown = λ l μ ch t a b. by_t (eqb t c.loop-u.u)
          (λ x. subst (ChainShown l μ c.chain_row.new.rows c.args.heads.new) (sym (eqb-true _ _ x)) (c.chain_row.ensures.chain_shown l μ ch))
          (λ x. let ne : t ≡ c.loop-u.u → ⊥ = eqb-false _ _ x in
          chain_stays {r = c.loop-u.u} c.chain_row.ensures.other_rows (omega arith) (c.loop-u.invariant.shown l μ ch t a (omega arith)));
    }
