-- Where the head stays, a store by a plan finds the entry's node there.
use Prim.Native.Nat.{ℕ, zero, suc, ◌+◌, ◌/◌, ◌≤◌, ◌<◌}
use mathlib.Core.Path.{◌≡◌, sym, ap, subst, ◌∙◌}
use mathlib.Core.Bool.{true, false}
use mathlib.Core.List.{List, [], ◌∷◌}
use mathlib.Core.Option.{some}
use native.Mathlib.Omega.{arith}
use borrow.Author.Tests.{eqb-true, lt-ltb, eq-eqb}
use Rattle.blocks.specs.Lists.{All}
use Rattle.blocks.specs.Blocks.{block}
use Rattle.blocks.proofs.BoolLaws.{clash, is_false}
use Rattle.blocks.proofs.BlockLaws.{block_up}
use Rattle.blocks.proofs.ListLaws.{each, in_any, first_yes}
use Rattle.model.specs.declared.Entry.{Entry}
use Rattle.model.specs.Model.{covers, covering, within}
use Rattle.tree.specs.Tree.{height, has, tier_order, slot_bits}
use Rattle.tree.specs.Slots.{Numbering}
use Rattle.tree.proofs.HeightLaws.{Low}
use Rattle.tree.proofs.NeededLaws.{path_up}
use Rattle.tree.proofs.NodeListLaws.{has_in, has_within}
use Rattle.layout.proofs.OwnerLaws.{head_node_lem}
use Rattle.lookup.specs.Load.{depth_to, depth}
use Rattle.lookup.specs.Views.{AtNode}
use Rattle.plan.proofs.AfterStoreLaws.{lows, path_zero}
use Rattle.store.specs.Stored.{NodeThere}
use Rattle.plan.specs.Plan.{NewStore}
use Rattle.plan.specs.declared.Target.{Target}

-- no node over the index at a tier that counts none
none_over : (l : List Entry) (i h : ℕ) → 1 ≤ h → 0 ≡ depth_to l i h → has l h (block (tier_order h) i) ≡ false
unfolding depth_to
none_over l i zero g e = absurd (omega arith)
none_over l i (suc h) g e = is_false (λ t. let q : 0 ≡ 1 + depth_to l i h = rw t at e in omega arith)

-- the index lies outside the head's block
pub reached_apart : {l : List Entry} {target : Target} → NewStore l target.index target.order target.word →
    0 ≡ depth l target.index → NodeThere l target
reached_apart {l} {target} new d = record {
  there = λ e g.
      let z : block (tier_order (height l)) target.index ≡ 0 = ap (λ (h : ℕ). block (tier_order h) target.index) e ∙ path_zero new in
      absurd (clash (subst (λ (b : ℕ). has l (height l) b ≡ true) (sym z) (top l (lows new) (omega arith)))
      (none_over l target.index (height l) (omega arith) d));
}
  where
    top : (s : List Entry) → All Low s → 0 < height s → has s (height s) 0 ≡ true
    top [] a h = absurd (omega arith)
    top (x ∷ s) a h = head_node_lem x s a h

-- the way down ended at the entry's node or below it
pub reached_gap : {l : List Entry} {target : Target} {ν : Numbering} {u a : ℕ} →
    AtNode l ν u (block (tier_order (suc u)) target.index) a → u ≤ target.order / slot_bits → NodeThere l target
reached_gap {l} {target} {u = u} at le = record {
  there = λ e g. has_in l (target.order / slot_bits + 1) (block (tier_order (target.order / slot_bits + 1)) target.index) (omega arith)
      (path_up target.index {j = tier_order (suc u)} {k = tier_order (target.order / slot_bits + 1)} l (omega arith)
      (has_within l (suc u) (block (tier_order (suc u)) target.index) at.there));
}

-- the head is no node
pub reached_flat : {l : List Entry} {target : Target} → height l ≡ 0 → NodeThere l target
reached_flat z = record { there = λ e g. absurd (omega arith) }

-- an entry of a smaller order is over the index
pub reached_entry : {l : List Entry} {target : Target} {e : Entry} → covering l target.index ≡ some e →
    e.order < target.order → NodeThere l target
reached_entry {l} {target} {e} cov lt = let (c, m) = first_yes (covers target.index) (each l (λ x m. m)) cov in record {
  there = λ q g. has_in l (target.order / slot_bits + 1) (block (tier_order (target.order / slot_bits + 1)) target.index) (omega arith)
      (in_any (within (tier_order (target.order / slot_bits + 1)) (block (tier_order (target.order / slot_bits + 1)) target.index)) m
      (rw (
        lt-ltb e.order (tier_order (target.order / slot_bits + 1)) (omega arith),
        eq-eqb _ _ (block_up {j = e.order} {k = tier_order (target.order / slot_bits + 1)} e.base target.index (omega arith) (sym (eqb-true _ _ c))),
      )));
}
