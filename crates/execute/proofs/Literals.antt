-- The part of the pool that a command may write (R39, R40), word by word in numbers: a wider one is not this one.
use mathlib.Core.Path.{◌≡◌, refl}
use mathlib.Core.List.{[], ◌∷◌, ◌++◌, map}
use mathlib.Core.Option.{none}
use lib.ListN.{replicate}
use Rattle.blocks.specs.Lists.{up_to}
use Rattle.tree.specs.Tree.{tall, has, slot_mark}
use Rattle.tree.specs.Slots.{slot}
use Rattle.batch.specs.declared.Command.TheVariants.{Store, Load, Erase, Mark}
use Rattle.execute.specs.Execute.{execute}
use Rattle.execute.specs.State.{states}
use Rattle.execute.specs.Part.{part_of}

-- case 3 in a pool of 5 nodes: the head is node 0, node 1 is over 0 to 63, node 2 over 64 to 127, the others are free. The words
-- from 0 on are the anchor's, from 4 on those of node 0, and 70 of each further node
pub part_in_numbers :
    map
    (part_of 5 (states 5 (record { list = []; places = replicate 5 none }) (Store 0 0 3 ∷ Store 64 0 5 ∷ [])))
    (Store 63 0 7 ∷ Mark 64 0 ∷ Erase 0 ∷ Store 4095 0 7 ∷ Load 64 ∷ Mark 65 0 ∷ [])
    ≡ up_to (λ w. w) 0 144
    ∷ (up_to (λ w. w) 0 74 ++ up_to (λ w. w) 144 70)
    ∷ up_to (λ w. w) 0 144
    ∷ (up_to (λ w. w) 0 74 ++ up_to (λ w. w) 214 70)
    ∷ []
    ∷ []
    ∷ []
unfolding tall has slot_mark slot execute
part_in_numbers = refl
