use mathlib.Core.Path.{◌∙◌}
use native.Mathlib.Omega.{arith}
use borrow.Author.Tests.{lt-leb}
use Rattle.tree.proofs.ReadLaws.{over_some}
use Rattle.prepare.proofs.store_over.Goals as goal

pub prepare_new-requires-clause-list_value : goal.prepare_new-requires-clause-list_value
prepare_new-requires-clause-list_value c =
    λ s. over_some s.list c.args.target.index c.args.target.order c.args.e s.valid (c.requires.index_value s).0
    ∙ lt-leb c.args.target.order c.args.e.order (omega arith)
