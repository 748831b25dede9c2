use Prim.Native.Nat.{ℕ}
use mathlib.Core.Path.{◌≡◌, subst}
use native.Mathlib.Omega.{arith}
use Rattle.blocks.specs.Choice.{either}
use Rattle.assoc_tree.specs.Parts.{slots}
use Rattle.assoc_check.specs.Seen.{SetOf, slot_names}
use Rattle.assoc_check.proofs.SeenLaws.{slots_start, slots_next}
use Rattle.assoc_check.proofs.mark_slots.Goals as goal

pub loop-j-init : goal.loop-j-init
loop-j-init c =
    λ f s. slots_start c.args.pool.now c.args.n c.args.m s

pub mark_ref-requires : goal.mark_ref-requires
mark_ref-requires c =
    (record { set = _; is = c.loop-j.invariant c.requires.1.set c.requires.1.is }, c.requires.0.few)

pub loop-j-preserved : goal.loop-j-preserved
loop-j-preserved c =
    λ f s. slots_next c.args.pool.now c.args.n c.args.m f c.loop-j.j c.field.result c.field.ensures
    (c.mark_ref.ensures _ (c.loop-j.invariant f s))

pub returns : goal.returns
returns c =
    let e : c.loop-j.j ≡ slots = omega arith in
    λ f s. subst (λ (k : ℕ). SetOf (λ y. either (f y) (slot_names c.args.pool.now c.args.n c.args.m k y)) c.loop-j.seen) e (c.loop-j.invariant f s)
