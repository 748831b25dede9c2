-- `store`: into the larger entry, or a new one.
use native.Mathlib.Omega.{arith}
use Rattle.xaplain.proofs.PlainLaws.{marks_at, entry_ok}
use Rattle.xaplain.proofs.PlaceLaws.{searchable}
use Rattle.xaplain.proofs.OverLaws.{over_place, over_none}
use Rattle.xaplain.specs.Stores.{Over, NoneOver}
use Rattle.xaplain.proofs.LentLaws.{held, of_two}
use Rattle.xaplain.proofs.StoredLaws.{stores_over, stores_new_lem}
use Rattle.xaplain.proofs.EntriesMut.store.Goals as goal

pub larger-requires : goal.larger-requires
larger-requires c = searchable (held c.lent.ensures c.requires.holds)

pub store_over-entry-requires-clause-j_bound : goal.store_over-entry-requires-clause-j_bound
store_over-entry-requires-clause-j_bound c =
    let h = c.requires.holds in let d = of_two c.lent.ensures (λ is os. Over is os c.args.n c.args.i c.args.k c.in-Some.j) c.in-Some.ensures in
    let j = over_place h c.args.i c.args.k c.in-Some.j d in
    omega (arith, marks_at h _ j, (entry_ok h _ j).marks_fit)

pub returns-in-Some-clause-stores : goal.returns-in-Some-clause-stores
returns-in-Some-clause-stores c =
    λ h. stores_over h c.args.i c.args.k c.args.w c.in-Some.j (of_two c.lent.ensures (λ is os. Over is os c.args.n c.args.i c.args.k c.in-Some.j) c.in-Some.ensures)
    c.store_over-entry.ensures.value c.store_over-entry.ensures.others c.store_over-entry.ensures.word_after c.store_over-entry.ensures.marks_after

pub store_new-requires-clause-list_value : goal.store_new-requires-clause-list_value
store_new-requires-clause-list_value c = λ h. over_none h c.args.i c.args.k (of_two c.lent.ensures (λ is os. NoneOver is os c.args.n c.args.i c.args.k) c.in-None.ensures)

pub returns-in-None-clause-stores : goal.returns-in-None-clause-stores
returns-in-None-clause-stores c =
    λ h. stores_new_lem h c.args.i c.args.k c.args.w (over_none h c.args.i c.args.k (of_two c.lent.ensures (λ is os. NoneOver is os c.args.n c.args.i c.args.k) c.in-None.ensures)) (c.store_new.ensures.stores h)
