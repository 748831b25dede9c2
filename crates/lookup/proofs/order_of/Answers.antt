use Prim.Native.Nat.{ℕ, ◌+◌, ◌*◌, ◌/◌, ◌%◌, ◌^◌}
use mathlib.Core.Path.{◌≡◌, sym, ap, ◌∙◌}
use native.Mathlib.Omega.{arith}
use native.Mathlib.Nat.{pow-succ'}
use native.Mathlib.Numerals.{add-one}
use Rattle.tree.specs.Slots.{slot, sibling_word}
use Rattle.tree.specs.Tree.{slots}
use Rattle.layout.specs.WellFormed.{WellFormed, num}
use Rattle.lookup.specs.Views.{AtNode}
use Rattle.lookup.proofs.WordLaws.{slot_at_lem}
use Rattle.lookup.proofs.StandLaws.{order_end, order_done, order_more}
use Rattle.lookup.proofs.order_of.Goals as goal

read : (c : goal.Then-slot_word-sibling_word) (s : WellFormed c.args.pool.now)
    (v d : ℕ) → AtNode s.list (num s) v (d / slots) c.args.n →
    c.args.o ≡ d % slots →
    c.slot_word.result ≡ slot s.list (num s) v (d + 2 ^ c.loop-t.r)
read c s v d a q =
    let t : c.loop-t.t ≡ 2 ^ c.loop-t.r = c.loop-t.invariant.0 in
    let e : slots * (d / slots) + (c.args.o + c.loop-t.t) ≡ d + 2 ^
    c.loop-t.r = omega arith in
    c.slot_word.ensures ∙ (slot_at_lem s a _ c.loop-t-test.true ∙ ap (slot s.list (num s) v) e)

read_2 : (c : goal.Else-slot_word-sibling_word) (s : WellFormed c.args.pool.now)
    (v d : ℕ) → AtNode s.list (num s) v (d / slots) c.args.n →
    c.args.o ≡ d % slots →
    c.slot_word.result ≡ slot s.list (num s) v (d + 2 ^ c.loop-t.r)
read_2 c s v d a q =
    let t : c.loop-t.t ≡ 2 ^ c.loop-t.r = c.loop-t.invariant.0 in
    let e : slots * (d / slots) + (c.args.o + c.loop-t.t) ≡ d + 2 ^
    c.loop-t.r = omega arith in
    c.slot_word.ensures ∙ (slot_at_lem s a _ c.loop-t-test.true ∙ ap (slot s.list (num s) v) e)

pub returns-then-slot_word-sibling_word-clause-order_value : goal.returns-then-slot_word-sibling_word-clause-order_value
returns-then-slot_word-sibling_word-clause-order_value c =
    λ s v d e a q st.
    order_done s.valid st (num s) a.there _ (c.loop-t.invariant.3 s v d e a q st)
    (λ k. c.if-slot_word-sibling_word.true (read c s v d a q ∙ (k ∙ sym (c.sibling_word.ensures ∙ ap sibling_word q))))

pub loop-t-preserved : goal.loop-t-preserved
loop-t-preserved c = (
  rw add-one (omega (arith, pow-succ' 2 c.loop-t.r)),
  omega arith,
  omega arith,
  λ s v d e a q st.
      order_more s.valid st (num s) a.there _ (c.loop-t.invariant.3 s v d e a q st)
      (omega arith) (sym (read_2 c s v d a q) ∙ (c.if-slot_word-sibling_word.false ∙ (c.sibling_word.ensures ∙ ap sibling_word q))),
)

pub returns-clause-order_value : goal.returns-clause-order_value
returns-clause-order_value c =
    λ s v d e a q st.
    order_end s.valid st (num s) a.there _ (c.loop-t.invariant.3 s v d e a q st) (omega arith)
