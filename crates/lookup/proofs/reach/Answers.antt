-- `reach`: one step down from node n: its slot towards p.
use Prim.Native.Nat.{ℕ, ◌%◌}
use mathlib.Core.Path.{ap}
use native.Mathlib.Omega.{arith}
use Rattle.tree.specs.Tree.{slots}
use Rattle.lookup.proofs.WordLaws.{node_fits_lem}
use Rattle.lookup.proofs.WayLaws.{seen}
use Rattle.lookup.proofs.reach.Goals as goal

pub slot_word-requires : goal.slot_word-requires
slot_word-requires c =
    let s = c.requires.well_formed in
    omega (arith, (node_fits_lem s (c.requires.at_node s)).0)

pub returns-clause-view : goal.returns-clause-view
returns-clause-view c =
    λ s. seen s c.args.p
    (c.requires.at_node s)
    (ap (λ (x : ℕ). x % slots) c.block_of-c.ensures) c.slot_word.ensures
    c.read_slot-k.ensures
