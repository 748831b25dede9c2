use Prim.Native.Nat.{◌≤◌}
use mathlib.Core.Path.{refl, sym, ap, ◌∙◌}
use native.Mathlib.Omega.{arith}
use lib.ListN.{get_or}
use Rattle.blocks.specs.Lists.{In}
use Rattle.blocks.proofs.ListLaws.{first_yes, each}
use Rattle.assoc_tree.specs.Keys.{is_key_of}
use Rattle.assoc_tree.specs.Parts.{leaf}
use Rattle.assoc_layout.specs.Words.{root_word}
use Rattle.assoc_layout.proofs.RenderLaws.{pool_size, there as stands}
use Rattle.assoc_keys.specs.Number.{key_at}
use Rattle.std.specs.Prelude.{Some}
use Rattle.assoc_lookup.specs.Lookup.{looked_for}
use Rattle.assoc_tree.proofs.KeyLaws.{has_leaf}
use Rattle.assoc_lookup.proofs.StepLaws.{step_ok, ready_at}
use Rattle.assoc_lookup.proofs.LookLaws.{ok_nothing, ok_leaf, ok_into, start, object_at}
use Rattle.assoc_lookup.proofs.look.Goals as goal

pub loop-v-init : goal.loop-v-init
loop-v-init c =
    let h : 1 ≤ get_or c.args.pool.now root_word 0 = c.in_ok-m.ensures.0 in
    λ s. rw c.in_ok-m.ensures.1 ((start c.args.key.now s (get_or c.args.pool.now root_word 0) refl c.requires.key_bound).1 (λ z. omega arith))

pub step_at-requires : goal.step_at-requires
step_at-requires c =
    ready_at c.args.key.now c.requires.well_formed c.requires.key_len (c.loop-v.invariant c.requires.well_formed)

pub returns-in_err-x : goal.returns-in_err-x
returns-in_err-x c =
    λ s. c.from_residual-in_err-x.ensures
    ∙ sym (ap looked_for (ok_nothing (step_ok c.args.key.now s (c.loop-v.invariant s)) (sym c.step_at.ensures ∙ c.in_err-x.was)))

pub field-requires : goal.field-requires
field-requires c =
    let (x, f, e) = ok_leaf (step_ok c.args.key.now c.requires.well_formed (c.loop-v.invariant c.requires.well_formed)) (sym c.step_at.ensures ∙ c.in_ok-x.was ∙ ap Some c.in-Leaf.is) in
    let i : In x c.requires.well_formed.list = (first_yes (is_key_of (key_at c.args.key.now 0)) (each c.requires.well_formed.list (λ z n. n)) f).1 in
    omega (arith, pool_size c.requires.well_formed, stands c.requires.well_formed (leaf c.requires.well_formed.list x.key) (has_leaf c.requires.well_formed.list i))

pub returns-in-Leaf : goal.returns-in-Leaf
returns-in-Leaf c =
    λ s. let (x, f, e) = ok_leaf (step_ok c.args.key.now s (c.loop-v.invariant s)) (sym c.step_at.ensures ∙ c.in_ok-x.was ∙ ap Some c.in-Leaf.is) in
    let i : In x s.list = (first_yes (is_key_of (key_at c.args.key.now 0)) (each s.list (λ z n. n)) f).1 in
    ap Some (c.field.ensures ∙ object_at c.args.key.now s c.in-Leaf.x f i e) ∙ sym (ap looked_for f)

pub loop-v-smaller : goal.loop-v-smaller
loop-v-smaller c =
    (ok_into (step_ok c.args.key.now c.requires.well_formed (c.loop-v.invariant c.requires.well_formed)) (sym c.step_at.ensures ∙ c.in_ok-x.was ∙ ap Some c.in-Into.is)).0

pub loop-v-preserved : goal.loop-v-preserved
loop-v-preserved c =
    λ s. (ok_into (step_ok c.args.key.now s (c.loop-v.invariant s)) (sym c.step_at.ensures ∙ c.in_ok-x.was ∙ ap Some c.in-Into.is)).1

pub returns : goal.returns
returns c =
    λ s. absurd (omega (arith, (c.loop-v.invariant s).low))
