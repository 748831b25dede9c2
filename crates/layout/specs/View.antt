-- What a slot says of the list: nothing lies in its block, or a reservation, an entry, a sibling, a node.
use Rattle.std.specs.Prelude.{ℕ, ◌*◌, ◌%◌, ◌^◌, ◌≡◌, true, false, List}
use Rattle.std.proofs.Math.Option.{none, some}
use Rattle.blocks.specs.Lists.{any}
use Rattle.blocks.specs.Blocks.{block}
use Rattle.model.specs.declared.Entry.{Entry}
use Rattle.model.specs.Model.{covering, within, reserved}
use Rattle.tree.specs.Slots.{Numbering}
use Rattle.tree.specs.Tree.{slots, tier_order}
use Rattle.layout.specs.declared.Slot.{Slot}
use Rattle.layout.specs.declared.Slot.TheVariants.{Empty, Reserved, Held, Sibling, Child}

-- the slot of block c of tier u
pub data View (l : List Entry) (ν : Numbering) (u c : ℕ) : Slot → Type 0 where
  v_empty : any (within (tier_order u) c) l ≡ false → covering l (c * 2 ^ (tier_order u)) ≡ none → View l ν u c Empty
  v_child : any (within (tier_order u) c) l ≡ true → View l ν u c (Child (ν u c))
  v_reserved : (e : Entry) → any (within (tier_order u) c) l ≡ false → covering l (c * 2 ^ (tier_order u)) ≡ some e →
      block (tier_order u) e.base ≡ c → reserved e ≡ true → View l ν u c Reserved
  v_held : (e : Entry) → any (within (tier_order u) c) l ≡ false → covering l (c * 2 ^ (tier_order u)) ≡ some e →
      block (tier_order u) e.base ≡ c → View l ν u c Held
  v_sibling : (e : Entry) → any (within (tier_order u) c) l ≡ false → covering l (c * 2 ^ (tier_order u)) ≡ some e →
      (block (tier_order u) e.base ≡ c → ⊥) → View l ν u c (Sibling (block (tier_order u) e.base % slots))
