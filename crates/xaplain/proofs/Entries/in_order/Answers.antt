use Prim.Native.Nat.{ℕ, ◌+◌, ◌^◌, ◌<◌}
use mathlib.Core.Bool.{true}
use mathlib.Core.Path.{◌≡◌, sym, ap, ◌∙◌}
use native.Mathlib.Omega.{arith}
use lib.Dec.{leb}
use Rattle.model.specs.declared.Entry.{Entry}
use Rattle.xaplain.specs.Slices.{in_order, fits_entry}
use Rattle.xaplain.specs.Moves.{low_of}
use Rattle.xaplain.proofs.LoopLaws.{rest_list, list_start, order_low, order_bad, order_on, order_end, last_fits, next_low}
use Rattle.xaplain.proofs.Entries.in_order.Goals as goal

pub loop-k-init : goal.loop-k-init
loop-k-init c = ap (in_order 0) (list_start _ _ _ _)

pub returns-then-not-follows : goal.returns-then-not-follows
returns-then-not-follows c =
    let a = c.args in let v = c.loop-k in
    let t = sym (ap (λ (e : Entry). leb (low_of v.last) e.base) c.entry_at-e.ensures) ∙ sym c.follows.ensures ∙ c.if-not-follows.true in
    sym (sym v.invariant ∙ order_low a.self.index.now a.self.order.now a.self.word.now a.self.marks.now a.n
    c.requires.order_len.1 c.requires.counts v.k (low_of v.last) c.loop-k-test.true t)

pub returns-then-not-fits : goal.returns-then-not-fits
returns-then-not-fits c =
    let a = c.args in let v = c.loop-k in
    let t = sym (ap fits_entry c.entry_at-e.ensures) ∙ sym c.fits.ensures ∙ c.if-not-fits.true in
    sym (sym v.invariant ∙ order_bad a.self.index.now a.self.order.now a.self.word.now a.self.marks.now a.n
    c.requires.order_len.1 c.requires.counts v.k (low_of v.last) c.loop-k-test.true t)

pub overflow_add-last : goal.overflow_add-last
overflow_add-last c =
    let e = c.entry_at-e.result in
    let k = c.loop-k.k in
    let lt : e.base < 2 ^ 64 = omega arith in
    let lw : e.word < 2 ^ 64 = omega arith in
    record { fits = last_fits e.base e.order e.word e.marks lt lw (sym c.fits.ensures ∙ c.if-not-fits.false) }

pub loop-k-preserved : goal.loop-k-preserved
loop-k-preserved c =
    let a = c.args in
    let v = c.loop-k in
    let e = c.entry_at-e.result in
    let t : fits_entry e ≡ true = sym c.fits.ensures ∙ c.if-not-fits.false in
    let lt : e.base < 2 ^ 64 = omega arith in
    let lw : e.word < 2 ^ 64 = omega arith in
    let u = sym (ap (λ (e : Entry). leb (low_of v.last) e.base) c.entry_at-e.ensures) ∙ sym c.follows.ensures ∙ c.if-not-follows.false in
    ap (λ (x : ℕ). in_order x (rest_list a.self.index.now a.self.order.now a.self.word.now a.self.marks.now (v.k + 1)))
    (next_low e.base e.order e.word e.marks lt lw t ∙ ap (λ (x : Entry). x.base + 2 ^ x.order) c.entry_at-e.ensures)
    ∙ sym (order_on a.self.index.now a.self.order.now a.self.word.now a.self.marks.now a.n
    c.requires.order_len.1 c.requires.counts v.k (low_of v.last) c.loop-k-test.true u (sym (ap fits_entry c.entry_at-e.ensures) ∙ t))
    ∙ v.invariant

pub returns : goal.returns
returns c =
    let a = c.args in let v = c.loop-k in
    sym (sym v.invariant ∙ order_end a.self.index.now a.self.order.now a.self.word.now a.self.marks.now a.n
    c.requires.order_len.1 c.requires.counts v.k (low_of v.last) (omega arith))
