-- `set_mark`: sets or clears mark m of the entry that covers i.
use mathlib.Core.Path.{◌≡◌, refl, sym, subst, ◌∙◌}
use mathlib.Core.Bool.{true, false}
use mathlib.Core.Option.{none, some}
use mathlib.Core.List.{List}
use Prim.Native.Nat.{ℕ}
use Rattle.blocks.proofs.BoolLaws.{clash}
use Rattle.model.specs.declared.Entry.{Entry}
use Rattle.model.specs.Model.{reserved, covering, present}
use Rattle.lookup.proofs.HeadLaws.{at_none, at_head, at_spot}
use Rattle.marks.proofs.RemarkLaws.{words_absent, head_mark, answer_none, answer_some}
use Rattle.marks.proofs.set_mark.Goals as goal

same_entry : (l : List Entry) (i : ℕ) {e x : Entry} → covering l i ≡ some e → covering l i ≡ some x →
    reserved e ≡ false → reserved x ≡ false
same_entry l i {e} {x} q r f = let d : e ≡ x = cc in subst (λ (y : Entry). reserved y ≡ false) d f

absent_at : (l : List Entry) (i : ℕ) {e : Entry} → covering l i ≡ some e → reserved e ≡ true →
    present (covering l i) ≡ none
absent_at l i q t = rw (q, t) refl

-- THE PLACES IN THE CODE, each from one after it

pub returns-then-is_reserved-clause-value : goal.returns-then-is_reserved-clause-value
returns-then-is_reserved-clause-value c =
    let r = sym c.is_reserved.ensures ∙ c.if-is_reserved.true in
    (λ s. let (z, q) = at_head _ (c.locate-k.ensures s) c.in-AtHead.is in
    answer_none s.list c.args.i c.args.m c.args.on s.valid (absent_at s.list c.args.i q r))

pub returns-then-is_reserved-clause-pool_after : goal.returns-then-is_reserved-clause-pool_after
returns-then-is_reserved-clause-pool_after c =
    let r = sym c.is_reserved.ensures ∙ c.if-is_reserved.true in
    λ s. let (z, q) = at_head _ (c.locate-k.ensures s) c.in-AtHead.is in
    words_absent s c.args.i c.args.m c.args.on (absent_at s.list c.args.i q r)

pub returns-then-is_reserved-2-clause-value : goal.returns-then-is_reserved-2-clause-value
returns-then-is_reserved-2-clause-value c =
    (λ s. let (q, h, t, le, d) = at_spot _ _ _ (c.locate-k.ensures s) c.in-InNode.is in
    answer_none s.list c.args.i c.args.m c.args.on s.valid (absent_at s.list c.args.i q (sym c.is_reserved-in-InNode.ensures ∙ c.if-is_reserved-2.true)))

pub returns-then-is_reserved-2-clause-pool_after : goal.returns-then-is_reserved-2-clause-pool_after
returns-then-is_reserved-2-clause-pool_after c =
    λ s. let (q, h, t, le, d) = at_spot _ _ _ (c.locate-k.ensures s) c.in-InNode.is in
    words_absent s c.args.i c.args.m c.args.on (absent_at s.list c.args.i q (sym c.is_reserved-in-InNode.ensures ∙ c.if-is_reserved-2.true))

pub climb-requires-clause-stands_at : goal.climb-requires-clause-stands_at
climb-requires-clause-stands_at c =
    let z = c in
    record {
      formed = z.requires.well_formed;
      holds = (at_spot _ _ _ (c.locate-k.ensures z.requires.well_formed) c.in-InNode.is).1;
      markable = λ t x r y. absurd (clash y (same_entry t.list z.args.i
          (at_spot _ _ _ (c.locate-k.ensures t)
          c.in-InNode.is).0 r
          (sym c.is_reserved-in-InNode.ensures ∙ c.if-is_reserved-2.false)));
    }

pub returns-in-Apart-clause-value : goal.returns-in-Apart-clause-value
returns-in-Apart-clause-value c =
    λ s. answer_none s.list c.args.i c.args.m c.args.on s.valid (rw (at_none (c.locate-k.ensures s) c.in-Apart.is) refl)

pub returns-in-Apart-clause-pool_after : goal.returns-in-Apart-clause-pool_after
returns-in-Apart-clause-pool_after c =
    λ s. words_absent s c.args.i c.args.m c.args.on (rw (at_none (c.locate-k.ensures s) c.in-Apart.is) refl)

pub returns-else-is_reserved-clause-value : goal.returns-else-is_reserved-clause-value
returns-else-is_reserved-clause-value c =
    let y = c in let z = y in
    (λ s. let (f, q) = at_head _ (y.locate-k.ensures s) y.in-AtHead.is in
    answer_some s.list z.args.i z.args.m z.args.on q (sym y.is_reserved.ensures ∙ y.if-is_reserved.false) (c.remarked.ensures z.args.i))

pub returns-else-is_reserved-clause-pool_after : goal.returns-else-is_reserved-clause-pool_after
returns-else-is_reserved-clause-pool_after c =
    let y = c in let z = y in
    λ s. let (f, q) = at_head _ (y.locate-k.ensures s) y.in-AtHead.is in
    c.mark_anchor.ensures ∙ head_mark s z.args.i z.args.m z.args.on z.requires.m_lt_mark_count _ q
    (λ r. absurd (clash r (sym y.is_reserved.ensures ∙ y.if-is_reserved.false))) f

pub returns-else-is_reserved-2-clause-value : goal.returns-else-is_reserved-2-clause-value
returns-else-is_reserved-2-clause-value c =
    let y = c in let z = y in
    (λ s. let (q, h, t, le, d) = at_spot _ _ _ (y.locate-k.ensures s) y.in-InNode.is in
    answer_some s.list z.args.i z.args.m z.args.on q (sym y.is_reserved-in-InNode.ensures ∙ y.if-is_reserved-2.false) (c.remarked-in-InNode.ensures z.args.i))

pub returns-else-is_reserved-2-clause-pool_after : goal.returns-else-is_reserved-2-clause-pool_after
returns-else-is_reserved-2-clause-pool_after c =
    let y = c in let z = y in
    λ s. let (q, h, t, le, d) = at_spot _ _ _ (y.locate-k.ensures s) y.in-InNode.is in
    c.climb.ensures s h
