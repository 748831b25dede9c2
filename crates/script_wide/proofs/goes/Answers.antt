use native.Mathlib.Omega.{arith}
use Rattle.layout.proofs.RenderWordLaws.{pool_length_lem}
use Rattle.script_wide.proofs.GoesLaws.{count_is, stands_word, word_small, free_tells, high_tells, low_tells}
use Rattle.script_wide.proofs.goes.Goals as goal

pub shift_of-w-requires : goal.shift_of-w-requires
shift_of-w-requires c =
    omega (arith, c.requires.m_bound.0, count_is c.requires.well_formed, pool_length_lem c.requires.well_formed)

pub returns-then-w-eq0 : goal.returns-then-w-eq0
returns-then-w-eq0 c =
    λ s. free_tells s c.shift_of-w.ensures c.args.base c.args.order c.if-w-eq0.true

pub overflow_add-w : goal.overflow_add-w
overflow_add-w c =
    omega (arith, word_small c.requires.well_formed c.shift_of-w.ensures (omega (arith, c.requires.m_bound.0, count_is c.requires.well_formed)))

pub returns-then-w-order : goal.returns-then-w-order
returns-then-w-order c =
    λ s. high_tells s c.shift_of-w.ensures c.args.base c.args.order (omega
    (arith, c.if-w-order.true))

pub first_of-x-requires-clause-stands : goal.first_of-x-requires-clause-stands
first_of-x-requires-clause-stands c =
    λ s. stands_word s c.shift_of-w.ensures (omega (arith, c.requires.m_bound.0, count_is s)) c.if-w-eq0.false

pub returns : goal.returns
returns c =
    λ s. low_tells s c.shift_of-w.ensures c.args.base c.args.order (omega (arith, c.requires.m_bound.0, count_is s))
    c.if-w-eq0.false (omega (arith, c.if-w-order.false)) (c.first_of-x.ensures s)
