use Prim.Native.Nat.{ℕ, ◌≤◌}
use mathlib.Core.Bool.{Bool, true, false, not}
use lib.Dec.{eqb}
use Rattle.std.specs.Int.{from_bool}
use Rattle.blocks.specs.Choice.{pick}
use mathlib.Core.Path.{◌≡◌, refl, ap, subst, ◌∙◌}
use Rattle.assoc_local.specs.Local.{keys_at}
use native.Mathlib.Omega.{arith}
use Rattle.assoc_tree.specs.Parts.{slots}
use Rattle.assoc_keys.proofs.NumberLaws.{no! }
use Rattle.assoc_check.specs.Checking.{Spread}
use Rattle.assoc_check.proofs.SpreadLaws.{spread_start, spread_fits, spread_next, spread_decides}
use Rattle.assoc_check.proofs.spread_ok.Goals as goal

one : (b : Bool) → (from_bool b ≡ pick b 1 0) × (from_bool b ≤ 1)
one true = (refl, omega arith)
one false = (refl, omega arith)

pub loop-j-init : goal.loop-j-init
loop-j-init c =
    (omega arith, spread_start c.args.pool.now c.args.n c.args.m)

pub returns-then-not-slot_ok : goal.returns-then-not-slot_ok
returns-then-not-slot_ok c =
    no! (λ o. c.slot_ok.ensures.1 c.if-not-slot_ok.true (o.slot c.loop-j.j (omega (arith, c.loop-j-test.true))))

pub returns-then-count-total : goal.returns-then-count-total
returns-then-count-total c =
    no! (λ o. omega (
      arith,
      c.if-count-total.true,
      c.requires.m_value.1,
      spread_fits c.args.pool.now c.args.n c.args.m c.loop-j.j c.loop-j.total c.loop-j.filled c.keys_at-k.result
          c.loop-j.invariant.1 (omega (arith, c.loop-j-test.true)) (c.keys_at-k.ensures ∙ ap (keys_at c.args.pool.now) c.field-r.ensures) o,
    ))

pub loop-j-preserved : goal.loop-j-preserved
loop-j-preserved c = (
  omega (arith, c.from-filled.ensures, (one (not (eqb c.field-r.result 0))).1),
  spread_next c.args.pool.now c.args.n c.args.m c.loop-j.j c.loop-j.total c.loop-j.filled c.field-r.result c.keys_at-k.result c.from-filled.result
      c.loop-j.invariant.1 (c.slot_ok.ensures.0 c.if-not-slot_ok.false) c.field-r.ensures c.keys_at-k.ensures
      (omega (arith, c.if-count-total.false, c.loop-j.invariant.1.most, c.requires.m_value.1)) (c.from-filled.ensures ∙ (one (not (eqb c.field-r.result 0))).0),
)

pub returns : goal.returns
returns c =
    let e : c.loop-j.j ≡ slots = omega arith in
    spread_decides c.args.pool.now c.args.n c.args.m c.loop-j.total c.loop-j.filled c.args.count
    (subst (λ (k : ℕ). Spread c.args.pool.now c.args.n c.args.m k c.loop-j.total c.loop-j.filled) e c.loop-j.invariant.1) c.requires.block.1 c.requires.m_value.0
    c.requires.m_value.1 c.requires.m_value.2 c.if-total-count.false
