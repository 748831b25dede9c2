use Prim.Native.Nat.{ℕ, ◌*◌, ◌+◌, ◌/◌, ◌%◌}
use mathlib.Core.Path.{◌≡◌, sym, ap, ◌∙◌}
use native.Mathlib.Omega.{arith}
use Rattle.blocks.specs.Blocks.{block}
use Rattle.assoc_keys.specs.Number.{key_at, key_words, Words}
use Rattle.assoc_keys.proofs.NumberLaws.{agree_yes, agree_no, no! }
use Rattle.assoc_keys.proofs.agree.Goals as goal

tier_is : (v : ℕ) → 4 * (16 * (v / 16) + v % 16) ≡ 4 * v
tier_is v = omega arith

at-tier : (v x y : ℕ) → block (4 * v) x ≡ block (4 * v) y →
    block (4 * (16 * (v / 16) + v % 16)) x ≡ block (4 * (16 * (v / 16) + v % 16)) y
at-tier v x y e = ap (λ (j : ℕ). block j x) (tier_is v) ∙ e ∙ ap (λ (j : ℕ). block j y) (sym (tier_is v))

from-tier : (v x y : ℕ) → block (4 * (16 * (v / 16) + v % 16)) x ≡ block (4 * (16 * (v / 16) + v % 16)) y →
    block (4 * v) x ≡ block (4 * v) y
from-tier v x y e = ap (λ (j : ℕ). block j x) (sym (tier_is v)) ∙ e ∙ ap (λ (j : ℕ). block j y) (tier_is v)

pub returns-then-a-i : goal.returns-then-a-i
returns-then-a-i c =
    no! (λ e. c.if-a-i.true (agree_no c.args.a.now c.args.b.now
    (λ i. omega (arith, c.type_inv.a i)) (λ i. omega (arith, c.type_inv.b i))
    c.args.i c.args.j key_words (c.args.v / 16) (c.args.v % 16) (omega arith) (omega arith)
    (at-tier c.args.v (key_at c.args.a.now c.args.i) (key_at c.args.b.now c.args.j) e)).0)

pub returns : goal.returns
returns c =
    let q = c.args.v / 16 in
    let r = c.args.v % 16 in
    let fa : Words c.args.a.now = λ i. omega (arith, c.type_inv.a i) in
    let fb : Words c.args.b.now = λ i. omega (arith, c.type_inv.b i) in (
      λ t. from-tier c.args.v (key_at c.args.a.now c.args.i) (key_at c.args.b.now c.args.j)
          (agree_yes c.args.a.now c.args.b.now fa fb c.args.i c.args.j key_words q r (omega arith) (omega arith) c.if-a-i.false
          (λ p le lt. c.same_from.ensures.0 t p (omega arith) lt)),
      λ t e. c.same_from.ensures.1 t (λ p le lt. (agree_no c.args.a.now c.args.b.now fa fb c.args.i c.args.j key_words q r
          (omega arith) (omega arith) (at-tier c.args.v (key_at c.args.a.now c.args.i) (key_at c.args.b.now c.args.j) e)).1 p
          (omega arith) lt),
    )
