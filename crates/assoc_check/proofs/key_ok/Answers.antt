use mathlib.Core.Path.{sym, ◌∙◌}
use native.Mathlib.Omega.{arith}
use Rattle.assoc_keys.specs.Number.{Words}
use Rattle.assoc_keys.proofs.NumberLaws.{no! }
use Rattle.assoc_check.proofs.KeyOkLaws.{length_is, key_size, key_decides}
use Rattle.assoc_check.proofs.key_ok.Goals as goal

pub returns-then-size-lt1 : goal.returns-then-size-lt1
returns-then-size-lt1 c =
    let fit : Words c.args.pool.now = λ i. omega (arith, c.type_inv.pool i) in
    no! (λ k. omega (arith, c.if-size-lt1.true, (key_size _ _ (length_is c.args.pool.now fit c.args.m ∙ sym c.field-size.ensures) k).0))

pub returns-then-size-gt-MAX_KEY : goal.returns-then-size-gt-MAX_KEY
returns-then-size-gt-MAX_KEY c =
    let fit : Words c.args.pool.now = λ i. omega (arith, c.type_inv.pool i) in
    no! (λ k. omega (arith, c.if-size-gt-MAX_KEY.true, (key_size _ _ (length_is c.args.pool.now fit c.args.m ∙ sym c.field-size.ensures) k).1))

pub returns : goal.returns
returns c =
    let fit : Words c.args.pool.now = λ i. omega (arith, c.type_inv.pool i) in
    key_decides _ _ _ (length_is c.args.pool.now fit c.args.m ∙ sym c.field-size.ensures) (omega (arith, c.if-size-lt1.false))
    (omega (arith, c.if-size-gt-MAX_KEY.false)) c.is_first.ensures
