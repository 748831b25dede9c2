use Prim.Native.Nat.{ℕ, suc, ◌-◌}
use mathlib.Core.Path.{sym, ap, ◌∙◌}
use native.Mathlib.Omega.{arith}
use native.Mathlib.Numerals.{add-one}
use Rattle.assoc_lookup.specs.Lookup.{packed_step}
use Rattle.assoc_lookup.proofs.WordSteps.{packed_hit, packed_next, packed_end}
use Rattle.assoc_lookup.proofs.packed.Goals as goal

pub returns-then-agree : goal.returns-then-agree
returns-then-agree c =
    sym (c.loop-j.invariant ∙ packed_hit c.args.pool.now c.args.key.now c.args.m c.loop-j.j (c.args.count - suc c.loop-j.j)
    (c.args.count - c.loop-j.j) (c.field-x.result - 1) (omega arith) (ap (λ (w : ℕ). w - 1) c.field-x.ensures)
    (c.agree.ensures.0 c.if-agree.true))

pub loop-j-preserved : goal.loop-j-preserved
loop-j-preserved c =
    c.loop-j.invariant ∙ packed_next c.args.pool.now c.args.key.now c.args.m c.loop-j.j (c.args.count - suc c.loop-j.j)
    (c.args.count - c.loop-j.j) (c.field-x.result - 1) (omega arith) (ap (λ (w : ℕ). w - 1) c.field-x.ensures)
    (c.agree.ensures.1 c.if-agree.false) ∙
    ap (λ (j : ℕ). packed_step c.args.pool.now c.args.key.now c.args.m j (c.args.count - j)) (sym (add-one c.loop-j.j))

pub returns : goal.returns
returns c =
    sym (c.loop-j.invariant ∙ packed_end c.args.pool.now c.args.key.now c.args.m c.loop-j.j
    (c.args.count - c.loop-j.j) (omega arith))
