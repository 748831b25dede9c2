-- The slots of a node apart from the range of a store, and those of a new node.
use Prim.Native.Nat.{ℕ, suc, ◌*◌, ◌/◌, ◌^◌, ◌≤◌, ◌<◌}
use mathlib.Core.Path.{◌≡◌, refl, sym, ap, ◌∙◌}
use mathlib.Core.Bool.{true, false}
use mathlib.Core.List.{List}
use native.Mathlib.Omega.{arith}
use borrow.Author.Tests.{eqb-true, eq-eqb}
use Rattle.blocks.specs.Lists.{any, All}
use Rattle.blocks.specs.Blocks.{block}
use Rattle.blocks.proofs.ListLaws.{All-map}
use Rattle.blocks.proofs.BlockLaws.{block_up, block_at}
use Rattle.model.specs.declared.Entry.{Entry}
use Rattle.model.specs.Model.{covers, within}
use Rattle.model.specs.ByBlock.{store_new}
use Rattle.model.proofs.RangeLaws.{Room, Apart}
use Rattle.tree.specs.Slots.{Numbering, slot}
use Rattle.tree.specs.Tree.{slots, tier_order}
use Rattle.tree.proofs.StoreLaws.{slot_apart}
use Rattle.tree.proofs.SlotLaws.{tier_up, empty_node}

-- a block of a node's slot is apart from a range where the node's is
pub apart_slot : (i k v b d : ℕ) → Apart i k (tier_order (suc v)) b → d / slots ≡ b → Apart i k (tier_order v) d
apart_slot i k v b d a q y e = a y (tier_up v y ∙ ap (λ (x : ℕ). x / slots) e ∙ q)

module _ (i k w : ℕ) (l : List Entry) (room : All (Room i k) l) where
  -- a node that is new on the path: all but the path's slot, or the run's, hold 0, and no mark is set
  module _ (v : ℕ) (above : k < tier_order (suc v)) (new : any
      (within (tier_order (suc v)) (block (tier_order (suc v)) i)) l ≡ false) where
    pub none_over : All (λ x. tier_order (suc v) ≤ x.order →
        covers (block (tier_order (suc v)) i * 2 ^ (tier_order (suc v))) x ≡ true → ⊥) l
    none_over =
        All-map (λ x r o t. let h : x.order ≤ k = r (eq-eqb _ _
        (block_up {j = tier_order (suc v)} {k = x.order} i (block (tier_order (suc v)) i * 2 ^ (tier_order (suc v)))
        o (sym (block_at (tier_order (suc v)) (block (tier_order (suc v)) i))) ∙ eqb-true _ _ t)) in omega arith)
        room

    pub fresh_slot : (ν' : Numbering) (d : ℕ) → d / slots ≡ block (tier_order (suc v)) i → Apart i k (tier_order v) d →
        slot (store_new l i k w) ν' v d ≡ 0
    fresh_slot ν' d q a = slot_apart i k w l ν' ν' v d room a (λ _. refl) ∙ empty_node l ν' v
        (block (tier_order (suc v)) i) new none_over d q
