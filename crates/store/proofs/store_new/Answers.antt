-- The entry alone as head, or a store into nodes.
use native.Mathlib.Omega.{arith}
use mathlib.Core.Path.{sym, ◌∙◌}
use Rattle.tree.proofs.HeightLaws.{height_most}
use Rattle.store.proofs.OutcomeLaws.{stores_flat}
use Rattle.plan.proofs.AfterStoreLaws.{new_store}
use Rattle.store.proofs.store_new.Goals as goal

pub top_of-top-requires-clause-h_le_top_tier : goal.top_of-top-requires-clause-h_le_top_tier
top_of-top-requires-clause-h_le_top_tier c =
    omega (arith, c.height_of-h.ensures c.requires.well_formed, height_most c.requires.well_formed.list)

pub returns-then-top-eq0-clause-stores_new : goal.returns-then-top-eq0-clause-stores_new
returns-then-top-eq0-clause-stores_new c =
    let z = c in
    λ s. stores_flat s (new_store s.valid z.requires.storable.0 (z.requires.list_value s).0)
    (sym (c.top_of-top.ensures s.list z.args.target.word s.valid (z.requires.list_value s).0 (c.height_of-h.ensures s)) ∙
    c.if-top-eq0.true)
