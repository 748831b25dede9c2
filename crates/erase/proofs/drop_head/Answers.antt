-- `drop_head`: the head n, of tier h, gives way to what its slot 0 holds, if that is all it has: a node, or, at
use mathlib.Core.Path.{refl, sym, ◌∙◌}
use mathlib.Core.Logic.{inl, inr}
use native.Mathlib.Omega.{arith}
use Rattle.blocks.proofs.BoolLaws.{clash}
use Rattle.erase.proofs.LowerLaws.{under_fits, under_child, stay_filled, stay_empty, stay_held, drop_child, drop_held, not_sibling}
use Rattle.erase.proofs.drop_head.Goals as goal

pub filled_of-requires : goal.filled_of-requires
filled_of-requires c =
    omega (arith, (under_fits c.requires.headed.tower.tall c.requires.le_h c.requires.headed.there c.requires.headed.number).0)

pub returns-then-filled_of-ne1-clause-by_index : goal.returns-then-filled_of-ne1-clause-by_index
returns-then-filled_of-ne1-clause-by_index c =
    (λ k l os w t q. record {
      yes = λ e. absurd (clash e refl);
      no = λ _. stay_filled w c.requires.le_h t q (λ z. c.if-filled_of-ne1.true (c.filled_of.ensures ∙ z));
    })

pub raise-requires-clause-m_bound : goal.raise-requires-clause-m_bound
raise-requires-clause-m_bound c =
    (under_child c.requires.headed.tower.tall c.requires.le_h c.requires.headed.there c.requires.headed.number
    c.slot_word-x.ensures
    c.read_slot-k.ensures
    _ c.in-Child.is).2

pub returns-then-h-ne1-clause-by_index : goal.returns-then-h-ne1-clause-by_index
returns-then-h-ne1-clause-by_index c =
    (λ k l os w t q. record {
      yes = λ e. absurd (clash e refl);
      no = λ _. stay_held w c.requires.le_h
          t q c.slot_word-x.ensures c.read_slot-k.ensures
          c.in-Held.is
          (λ z. omega (arith, c.if-h-ne1.true, z));
    })

pub returns-in-Child-clause-by_index : goal.returns-in-Child-clause-by_index
returns-in-Child-clause-by_index c =
    (λ k l os w t q. record {
      yes = λ _. drop_child w c.requires.le_h t q c.slot_word-x.ensures c.read_slot-k.ensures
          (sym c.filled_of.ensures ∙
          c.if-filled_of-ne1.false) _ c.in-Child.is c.raise.auto.pool
          c.raise.ensures.gone c.raise.ensures.own c.raise.ensures.head c.raise.ensures.rest;
      no = λ e. absurd (clash refl e);
    })

pub returns-else-h-ne1-clause-by_index : goal.returns-else-h-ne1-clause-by_index
returns-else-h-ne1-clause-by_index c =
    (λ k l os w t q. record {
      yes = λ _. drop_held w c.requires.le_h t q c.slot_word-x.ensures c.read_slot-k.ensures
          (sym c.filled_of.ensures ∙
          c.if-filled_of-ne1.false) c.in-Held.is
          (omega (arith, c.if-h-ne1.false))
          c.free_head.auto.pool c.free_head.ensures.gone c.free_head.ensures.head c.free_head.ensures.rest;
      no = λ e. absurd (clash refl e);
    })

pub returns-in-Empty-clause-by_index : goal.returns-in-Empty-clause-by_index
returns-in-Empty-clause-by_index c =
    (λ k l os w t q. record {
      yes = λ e. absurd (clash e refl);
      no = λ _. elim c.in-Empty.is [
        | inl e ↦ stay_empty w c.requires.le_h t q c.slot_word-x.ensures c.read_slot-k.ensures e
            (sym c.filled_of.ensures ∙ c.if-filled_of-ne1.false)
        | inr x ↦ absurd (not_sibling w c.requires.le_h t q c.slot_word-x.ensures c.read_slot-k.ensures _ x.1)
      ];
    })
