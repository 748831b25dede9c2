use mathlib.Core.Path.{sym, ap, ◌∙◌}
use native.Mathlib.Omega.{arith}
use Rattle.layout.specs.Pool.{slot_of}
use Rattle.steps.proofs.DecideLaws.{no! }
use Rattle.steps.proofs.WordLaws.{among_clear, clear_among}
use Rattle.scan.proofs.FilledLaws.{gap_clear}
use Rattle.steps.proofs.StepLaws.{step_child, child_bad}
use Rattle.scan.proofs.TallyLaws.{tallied_past, tallied_leap, all_tallied}
use Rattle.scan.proofs.filled_ok.Goals as goal

pub returns-then-f-m-ne0 : goal.returns-then-f-m-ne0
returns-then-f-m-ne0 c =
    no! (λ s. c.if-f-m-ne0.true (clear_among _ _ (omega arith) (omega arith)
    (gap_clear _ _ _ _ _ c.filled_slots-f.ensures c.all_marks-m.ensures s.slots_ok_lem)))

pub returns-then-o-eq-SLOTS : goal.returns-then-o-eq-SLOTS
returns-then-o-eq-SLOTS c =
    let g = tallied_past _ _ _ _ _ c.filled_slots-f.ensures
    c.all_marks-m.ensures _ _ _ c.loop-j.invariant
    (among_clear _ _ (omega arith) c.if-f-m-ne0.false) c.next_marked-o.ensures in
    all_tallied _ _ _ _ _ _ g (omega arith)

pub returns-then-not-child_ok : goal.returns-then-not-child_ok
returns-then-not-child_ok c =
    no! (λ s. child_bad _ _ _ _ _
    (sym (ap slot_of c.slot_word.ensures) ∙ sym c.read_slot.ensures ∙ c.in-Child.is)
    (omega (arith, c.next_marked-o.ensures.most))
    (c.child_ok.ensures.1 c.if-not-child_ok.true) s.slots_ok_lem)

pub loop-j-preserved-in-Child : goal.loop-j-preserved-in-Child
loop-j-preserved-in-Child c =
    let g = tallied_past _ _ _ _ _ c.filled_slots-f.ensures
    c.all_marks-m.ensures _ _ _ c.loop-j.invariant
    (among_clear _ _ (omega arith) c.if-f-m-ne0.false) c.next_marked-o.ensures in
    tallied_leap _ _ _ _ _ c.filled_slots-f.ensures c.all_marks-m.ensures _ _ _ _ g
    c.next_marked-o.ensures (omega (arith, g.gone.inside))
    (step_child _ _ _ _ _
    (sym (ap slot_of c.slot_word.ensures) ∙ sym c.read_slot.ensures ∙ c.in-Child.is)
    (omega (arith, g.gone.inside)) g.gone.past (c.child_ok.ensures.0 c.if-not-child_ok.false))

pub step-requires : goal.step-requires
step-requires c =
    let g = tallied_past _ _ _ _ _ c.filled_slots-f.ensures
    c.all_marks-m.ensures _ _ _ c.loop-j.invariant
    (among_clear _ _ (omega arith) c.if-f-m-ne0.false) c.next_marked-o.ensures in
    record {
      fact_1 = c.requires.fact_1;
      fact_2 = (omega (arith, g.gone.inside), omega arith);
      fact_3 = c.all_marks-m.ensures;
      fact_4 = g.gone.past;
    }

pub loop-j-preserved : goal.loop-j-preserved
loop-j-preserved c =
    let g = tallied_past _ _ _ _ _ c.filled_slots-f.ensures
    c.all_marks-m.ensures _ _ _ c.loop-j.invariant
    (among_clear _ _ (omega arith) c.if-f-m-ne0.false) c.next_marked-o.ensures in
    tallied_leap _ _ _ _ _ c.filled_slots-f.ensures c.all_marks-m.ensures _ _ _ _ g
    c.next_marked-o.ensures (omega (arith, g.gone.inside)) c.in-Some.ensures

pub returns : goal.returns
returns c =
    let L = c.loop-j.invariant in all_tallied _ _ _ _ _ _ L (omega arith)
