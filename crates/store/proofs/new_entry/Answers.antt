-- The slot of the entry is where its marks are read.
use Prim.Native.Nat.{ℕ, ◌*◌, ◌/◌, ◌^◌}
use mathlib.Core.Path.{refl, ap, subst, ◌∙◌}
use mathlib.Core.List.{List}
use native.Mathlib.Omega.{arith}
use Rattle.blocks.specs.Lists.{In}
use Rattle.blocks.specs.Blocks.{block}
use Rattle.model.specs.declared.Entry.{Entry}
use Rattle.model.specs.ByBlock.{new_entry}
use Rattle.tree.specs.Tree.{tier_order, slot_bits}
use Rattle.layout.specs.WellFormed.{num}
use Rattle.lookup.specs.Views.{AtNode, Stands}
use Rattle.store.specs.Stored.{entry_of}
use Rattle.store.proofs.OutcomeLaws.{entry_block, entry_slot}
use Rattle.store.proofs.new_entry.Goals as goal

stand : (l x : List Entry) (i k w : ℕ) → In (new_entry x i k w) l →
    Stands l (k / slot_bits) (block (tier_order (k / slot_bits)) (block k i * 2 ^ k)) (new_entry x i k w)
stand l x i k w m = record { inside = m; low = omega arith; high = omega arith; slot_is = refl }

-- THE PLACES IN THE CODE

pub returns : goal.returns
returns c =
    λ s l m at.
    c.entry_of.ensures ∙ ap (entry_of c.args.target.index c.args.target.order c.args.target.word)
    (c.marks_of.ensures s (c.args.target.order / slot_bits) _ (new_entry l c.args.target.index c.args.target.order c.args.target.word)
    (subst (λ (b : ℕ). AtNode s.list (num s) (c.args.target.order / slot_bits) b c.args.a) (entry_block c.args.target.index c.args.target.order) at)
    (c.offset_of.ensures.0 ∙ entry_slot c.args.target.index c.args.target.order)
    (stand _ l c.args.target.index c.args.target.order c.args.target.word m))
