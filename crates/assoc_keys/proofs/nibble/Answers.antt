use Prim.Native.Nat.{ℕ, ◌*◌, ◌+◌, ◌/◌, ◌%◌}
use mathlib.Core.Path.{◌≡◌, sym, ap, ◌∙◌}
use native.Mathlib.Omega.{arith}
use Rattle.blocks.specs.Blocks.{block}
use Rattle.assoc_keys.specs.Number.{key_at, key_words}
use Rattle.assoc_keys.proofs.NumberLaws.{digit}
use Rattle.assoc_keys.proofs.nibble.Goals as goal

pub returns : goal.returns
returns c =
    let e : 4 * (16 * (c.args.v / 16) + c.args.v % 16) ≡ 4 * c.args.v = omega arith in
    sym (ap (λ (j : ℕ). block j (key_at c.args.w.now c.args.at) % 16) (sym e) ∙
    digit c.args.w.now (λ i. omega (arith, c.type_inv.w i)) key_words c.args.at (c.args.v / 16) (c.args.v % 16)
    (omega arith) (omega arith))
