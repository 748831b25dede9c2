-- `run_store`: the tests in order, then the store.
use mathlib.Core.Path.{sym, ◌∙◌}
use Rattle.batch.specs.declared.Command.TheVariants.{Store}
use Rattle.model.specs.Model.{store}
use Rattle.xaplain.proofs.StoredLaws.{leaves, turns, store_order, store_index, store_word, store_new_lem}
use Rattle.xaplain.proofs.EntriesMut.run_store.Goals as goal

pub returns-then-k-gt-MAX_ORDER-clause-executes : goal.returns-then-k-gt-MAX_ORDER-clause-executes
returns-then-k-gt-MAX_ORDER-clause-executes c =
    let z = c in let a = z.args in
    λ h. leaves h (Store a.i a.k a.w) (store_order h a.i a.k a.w c.if-k-gt-MAX_ORDER.true) c.refused.ensures

pub returns-then-not-is_aligned-clause-executes : goal.returns-then-not-is_aligned-clause-executes
returns-then-not-is_aligned-clause-executes c =
    let x = c in let o = x in let z = o in let a = z.args in
    λ h. leaves h (Store a.i a.k a.w)
    (store_index h a.i a.k a.w o.if-k-gt-MAX_ORDER.false (sym x.is_aligned.ensures ∙ c.if-not-is_aligned.true)) c.refused-then-not-is_aligned.ensures

pub returns-then-not-is_storable-clause-executes : goal.returns-then-not-is_storable-clause-executes
returns-then-not-is_storable-clause-executes c =
    let y = c in let d = y in let x = d in let o = x in let z = o in let a = z.args in
    λ h. leaves h (Store a.i a.k a.w)
    (store_word h a.i a.k a.w o.if-k-gt-MAX_ORDER.false (sym x.is_aligned.ensures ∙ d.if-not-is_aligned.false)
    (sym y.is_storable.ensures ∙ c.if-not-is_storable.true)) c.refused-then-not-is_storable.ensures

pub returns-clause-executes : goal.returns-clause-executes
returns-clause-executes c =
    let s = c in let e = s in let y = e in let d = y in let x = d in let o = x in
    let z = o in let a = z.args in
    λ h. turns h (Store a.i a.k a.w) 129 a.i (store h.list a.i a.k a.w)
    (store_new_lem h a.i a.k a.w o.if-k-gt-MAX_ORDER.false (sym x.is_aligned.ensures ∙ d.if-not-is_aligned.false)
    (sym y.is_storable.ensures ∙ e.if-not-is_storable.false))
    (s.store-s.ensures.stores h) c.stored_turn.ensures
