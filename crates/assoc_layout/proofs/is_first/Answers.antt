use native.Mathlib.Omega.{arith}
use Rattle.assoc_keys.specs.Number.{Words}
use Rattle.assoc_keys.proofs.NumberLaws.{no! }
use Rattle.assoc_layout.proofs.FirstLaws.{first_blank, first_decides}
use Rattle.assoc_layout.proofs.is_first.Goals as goal

pub returns-then-not-blank : goal.returns-then-not-blank
returns-then-not-blank c =
    let fit : Words c.args.pool.now = λ i. omega (arith, c.type_inv.pool i) in
    no! (λ e. c.blank.ensures.1 c.if-not-blank.true (first_blank c.args.pool.now fit c.args.m c.args.v c.requires.1 e))

pub returns : goal.returns
returns c =
    let fit : Words c.args.pool.now = λ i. omega (arith, c.type_inv.pool i) in
    first_decides c.args.pool.now fit c.args.m c.args.v c.requires.1 c.field.result c.pow2-d.result
    (c.blank.ensures.0 c.if-not-blank.false) c.field.ensures c.pow2-d.ensures
