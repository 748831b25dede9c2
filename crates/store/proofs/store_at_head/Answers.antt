-- The word alone by ReplaceLaws, or a new entry.
use Rattle.store.proofs.ReachLaws.{reached_flat}
use Rattle.store.proofs.OutcomeLaws.{new_if, as_new, head_over}
use Rattle.store.proofs.store_at_head.Goals as goal

pub store_new-requires-clause-list_value : goal.store_new-requires-clause-list_value
store_new-requires-clause-list_value c =
    λ s. (
      new_if s c.args.target (c.requires.list_value s).1 c.if-e-target.true,
      reached_flat (c.requires.list_value s).0,
    )

pub returns-then-e-target-clause-stores_any : goal.returns-then-e-target-clause-stores_any
returns-then-e-target-clause-stores_any c =
    λ s. as_new s c.args.target.index c.args.target.order c.args.target.word
    (new_if s c.args.target (c.requires.list_value s).1 c.if-e-target.true)
    (c.store_new.ensures.stores_new s)

pub returns-clause-stores_any : goal.returns-clause-stores_any
returns-clause-stores_any c =
    let z = c in
    λ s. head_over s z.args.target (z.requires.list_value s).1 c.if-e-target.false z.requires.storable.0 z.requires.storable.2 c.with_word.ensures (z.requires.list_value s).0
