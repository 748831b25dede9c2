use mathlib.Core.Path.{refl}
use native.Mathlib.Omega.{arith}
use Rattle.erase.proofs.LowerLaws.{under_fits, tall_flat, top_child, top_bare}
use Rattle.erase.proofs.FreedLaws.{sheds_given, sheds_kept}
use Rattle.erase.proofs.shrink.Goals as goal

pub drop_head-requires-clause-headed : goal.drop_head-requires-clause-headed
drop_head-requires-clause-headed c =
    let h = top_child c.loop-h.invariant.0.tall c.loop-h-test.true refl
    c.read_slot.ensures _ c.in-Child.is in
    record { tower = c.loop-h.invariant.0; there = h.0; number = h.1 }

pub returns-then-not-drop_head-clause-free_map_2 : goal.returns-then-not-drop_head-clause-free_map_2
returns-then-not-drop_head-clause-free_map_2 c =
    let f = c.if-not-drop_head.true in
    sheds_kept c.drop_head.ensures.sheds c.loop-h.invariant.1 f

pub returns-then-not-drop_head-clause-by_index : goal.returns-then-not-drop_head-clause-by_index
returns-then-not-drop_head-clause-by_index c =
    let f = c.if-not-drop_head.true in
    λ k l os t.
    let t' = c.loop-h.invariant.2 k l os t in
    let h = top_child t' c.loop-h-test.true refl c.read_slot.ensures _ c.in-Child.is in
    (c.drop_head.ensures.by_index k l os t' h.0 h.1).no f

pub give-requires-clause-m_lt_map_nodes : goal.give-requires-clause-m_lt_map_nodes
give-requires-clause-m_lt_map_nodes c =
    let h = top_child c.loop-h.invariant.0.tall c.loop-h-test.true refl c.read_slot.ensures _ c.in-Child.is in
    (under_fits c.loop-h.invariant.0.tall c.loop-h-test.true h.0 h.1).1

pub loop-h-preserved : goal.loop-h-preserved
loop-h-preserved c =
    let f = c.if-not-drop_head.false in
    let t₀ = top_child c.loop-h.invariant.0.tall c.loop-h-test.true refl c.read_slot.ensures _ c.in-Child.is in (
      record {
        n = c.loop-h.invariant.0.n;
        list = c.loop-h.invariant.0.list;
        places = c.loop-h.invariant.0.places;
        tall = (c.drop_head.ensures.by_index c.loop-h.invariant.0.n c.loop-h.invariant.0.list c.loop-h.invariant.0.places c.loop-h.invariant.0.tall t₀.0 t₀.1).yes f;
      },
      sheds_given c.drop_head.ensures.sheds c.loop-h.invariant.1 f (under_fits c.loop-h.invariant.0.tall c.loop-h-test.true t₀.0 t₀.1).2 c.give.ensures,
      λ k l os t.
          let t' = c.loop-h.invariant.2 k l os t in
          let h = top_child t' c.loop-h-test.true refl c.read_slot.ensures _ c.in-Child.is in
          (c.drop_head.ensures.by_index k l os t' h.0 h.1).yes f,
    )

pub returns-in_default-clause-by_index : goal.returns-in_default-clause-by_index
returns-in_default-clause-by_index c =
    λ k l os t.
    top_bare (c.loop-h.invariant.2 k l os t) c.loop-h-test.true refl c.read_slot.ensures c.in_default.not-Child

pub returns-clause-by_index : goal.returns-clause-by_index
returns-clause-by_index c =
    λ k l os t. tall_flat (c.loop-h.invariant.2 k l os t) (omega (arith, c.loop-h-test.false))
