use mathlib.Core.Path.{sym, ◌∙◌}
use Rattle.assoc_check.proofs.CaseLaws.{leaf_case}
use Rattle.assoc_check.proofs.block_ok.Goals as goal

pub returns-then-t-eq1 : goal.returns-then-t-eq1
returns-then-t-eq1 c =
    leaf_case c.args.pool.now c.args.n c.args.m _ (sym c.requires.1 ∙ c.if-t-eq1.true) (c.leaf_ok.ensures c.args.n)
