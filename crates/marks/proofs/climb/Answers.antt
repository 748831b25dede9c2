use Prim.Native.Nat.{ℕ, suc, ◌-◌, ◌/◌, ◌%◌}
use mathlib.Core.Path.{◌≡◌, sym, ap, ◌∙◌}
use mathlib.Core.List.{List}
use mathlib.Core.Bool.{not}
use native.Mathlib.Omega.{arith}
use native.Mathlib.Numerals.{add-one}
use lib.Dec.{eqb}
use lib.ListN.{get_or, set}
use lib.Seq.{get_or-set_same}
use Rattle.blocks.specs.Blocks.{set_bit}
use Rattle.tree.specs.Tree.{slots}
use Rattle.layout.specs.Words.{mark_place}
use Rattle.layout.specs.WellFormed.{WellFormed, num}
use Rattle.lookup.specs.Views.{Holds}
use Rattle.marks.proofs.HybridLaws.{Climbing, Bounds, climb_start, climb_bounds, climb_next, climb_end, climb_stop}
use Rattle.marks.proofs.climb.Goals as goal

abbrev word_at : goal.Else-p-eq0 → ℕ
word_at c = mark_place c.loop-i.n
    c.args.m

abbrev word_at_2 : goal.After-slice_known-2-1 → ℕ
word_at_2 c = mark_place c.loop-i.n
    c.args.m

stored : (c : goal.Else-p-eq0) → c.put_mark_word.new.pool ≡
    set c.loop-i.pool (word_at c)
    (set_bit c.loop-i.o
    c.loop-i.b
    (get_or c.loop-i.pool
    (word_at c) 0))
stored c =
    c.put_mark_word.ensures ∙
    ap (set c.loop-i.pool
    (word_at c))
    (c.with_bit-x.ensures ∙ ap
    (set_bit c.loop-i.o
    c.loop-i.b)
    c.mark_word-w.ensures)

stored_2 : (c : goal.After-slice_known-2-1) → c.put_mark_word.new.pool ≡
    set c.loop-i.pool (word_at_2 c)
    (set_bit c.loop-i.o
    c.loop-i.b
    (get_or c.loop-i.pool
    (word_at_2 c) 0))
stored_2 c =
    c.put_mark_word.ensures ∙
    ap (set c.loop-i.pool
    (word_at_2 c))
    (c.with_bit-x.ensures ∙ ap
    (set_bit c.loop-i.o
    c.loop-i.b)
    c.mark_word-w.ensures)

bit-of : (c : goal.Else-p-eq0) →
    c.nonzero-b.result ≡ not (eqb (get_or c.put_mark_word.new.pool (word_at c) 0) 0)
bit-of c =
    let e : get_or c.put_mark_word.new.pool (word_at c) 0 ≡ c.with_bit-x.result =
    ap (λ (w : List ℕ). get_or w (word_at c) 0) c.put_mark_word.ensures ∙
    get_or-set_same c.loop-i.pool
    (word_at c) c.with_bit-x.result 0
    (omega (
      arith,
      c.loop-i.invariant.0.node_in,
    )) in
    c.nonzero-b.ensures ∙ ap (λ (y : ℕ). not (eqb y 0)) (sym e)

bit-of_2 : (c : goal.After-slice_known-2-1) →
    c.nonzero-b.result ≡ not (eqb (get_or c.put_mark_word.new.pool (word_at_2 c) 0) 0)
bit-of_2 c =
    let e : get_or c.put_mark_word.new.pool (word_at_2 c) 0 ≡ c.with_bit-x.result =
    ap (λ (w : List ℕ). get_or w (word_at_2 c) 0) c.put_mark_word.ensures ∙
    get_or-set_same c.loop-i.pool
    (word_at_2 c) c.with_bit-x.result 0
    (omega (
      arith,
      c.loop-i.invariant.0.node_in,
    )) in
    c.nonzero-b.ensures ∙ ap (λ (y : ℕ). not (eqb y 0)) (sym e)

next : (c : goal.Else-p-eq0) (s : WellFormed
    c.args.pool.now) →
    Holds s.list (num s) c.args.i c.args.at.node
    c.args.at.tier c.args.at.slot →
    Climbing s c.args.i c.args.m c.args.on
    (suc c.loop-i.v)
    ((c.owner_of-p.result - 1) / slots) ((c.owner_of-p.result - 1) % slots)
    c.nonzero-b.result c.put_mark_word.new.pool
next c s h =
    climb_next s c.requires.m_lt_mark_count (c.loop-i.invariant.1 s h) (stored c) (bit-of c)
    c.owner_of-p.ensures
    c.if-p-eq0.false

bounds : (c : goal.Else-p-eq0) →
    Bounds c.args.pool.now c.put_mark_word.new.pool
    ((c.owner_of-p.result - 1) / slots) (suc
    c.loop-i.v)
    ((c.owner_of-p.result - 1) % slots)
bounds c = climb_bounds c.requires.stands_at.formed
    c.requires.m_lt_mark_count (next c c.requires.stands_at.formed c.requires.stands_at.holds)

pub loop-i-init : goal.loop-i-init
loop-i-init c =
    let m< = c.requires.m_lt_mark_count in (
      climb_bounds c.requires.stands_at.formed m< (climb_start c.requires.stands_at.formed m< {on = c.args.on} c.requires.stands_at.holds
          (c.requires.stands_at.markable c.requires.stands_at.formed _ c.requires.stands_at.holds.covering_is)),
      λ s k. climb_start s m< k (c.requires.stands_at.markable s _ k.covering_is),
    )

pub returns-then-x-w : goal.returns-then-x-w
returns-then-x-w c =
    λ s h.
    climb_stop s c.requires.m_lt_mark_count
    (c.loop-i.invariant.1 s h)
    (sym (c.with_bit-x.ensures ∙ ap (set_bit c.loop-i.o
    c.loop-i.b) c.mark_word-w.ensures) ∙
    (c.if-x-w.true ∙ c.mark_word-w.ensures))

pub loop-i-preserved : goal.loop-i-preserved
loop-i-preserved c =
    rw add-one (bounds c, λ s h. next c s h)

pub returns : goal.returns
returns c =
    λ s h.
    c.mark_anchor.ensures ∙
    climb_end s c.requires.m_lt_mark_count
    (c.loop-i.invariant.1 s h) (stored_2 c)
    (bit-of_2 c)
    c.owner_of-p.ensures
    c.if-p-eq0.true
