use Prim.Native.Nat.{ℕ, ◌+◌, ◌-◌, ◌<◌}
use mathlib.Core.Path.{◌≡◌, sym}
use native.Mathlib.Omega.{arith}
use lib.ListN.{get_or}
use borrow.Author.Tests.{ltb-true, ltb-false}
use Rattle.assoc_keys.proofs.NumberLaws.{no!, less_at, same_number}
use Rattle.assoc_keys.specs.Number.{key_at, key_words, Words}
use Rattle.assoc_keys.proofs.less.Goals as goal

pub returns-then-x-y : goal.returns-then-x-y
returns-then-x-y c =
    let fa : Words c.args.a.now = λ i. omega (arith, c.type_inv.a i) in
    let fb : Words c.args.b.now = λ i. omega (arith, c.type_inv.b i) in
    let p : ℕ = c.loop-p.p - 1 in (
      λ t. less_at c.args.a.now c.args.b.now fa fb c.args.i c.args.j key_words p (omega arith)
          (λ q a b. c.loop-p.invariant q (omega arith) b) (ltb-true _ _ t),
      λ t h. let lt : get_or c.args.b.now (c.args.j + p) 0 < get_or c.args.a.now (c.args.i + p) 0 =
          omega (arith, ltb-false _ _ t, c.if-x-y.true) in
          let ge : key_at c.args.b.now c.args.j < key_at c.args.a.now c.args.i =
          less_at c.args.b.now c.args.a.now fb fa c.args.j c.args.i key_words p (omega arith)
          (λ q a b. sym (c.loop-p.invariant q (omega arith) b)) lt in omega arith,
    )

pub returns : goal.returns
returns c =
    let e : key_at c.args.a.now c.args.i ≡ key_at c.args.b.now c.args.j =
    same_number c.args.a.now c.args.b.now c.args.i c.args.j key_words (λ q a b. c.loop-p.invariant q (omega arith) b) in
    no! (λ h. omega arith)
