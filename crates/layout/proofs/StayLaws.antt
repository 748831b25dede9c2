-- Places that stay as they are: where a change of the list needs no node and every node stays. Changes that leave the
-- same nodes take the same places.
use Prim.Native.Nat.{ℕ}
use mathlib.Core.Path.{◌≡◌, refl, ap, ap₂, ◌∙◌}
use mathlib.Core.Bool.{Bool}
use mathlib.Core.List.{List, []}
use Rattle.blocks.specs.Placing as P
use Rattle.blocks.proofs.ListLaws.{each, without_all}
use Rattle.model.specs.declared.Entry.{Entry}
use Rattle.tree.specs.Tree.{has, Node, nodes, new_nodes}
use Rattle.tree.proofs.NodeListLaws.{nodes_in_lem}
use Rattle.layout.specs.Places.{Places, allocate, prune, new_places, Placed}
use Rattle.layout.proofs.NumberLaws.{allocate_none, prune_same}

-- no node is new, so the nodes that are no more leave their places
pub places_prune : (l l' : List Entry) (os : Places) → new_nodes l l' ≡ [] → new_places l l' os ≡ prune l' os
places_prune l l' os e = ap (λ (ps : List Node). prune l' (allocate os ps)) e ∙ ap (prune l') (allocate_none os)

-- no node is new, and each stays
pub places_stay : {n : ℕ} (l l' : List Entry) {os : Places} → Placed n l os → new_nodes l l' ≡ [] →
    ((u b : ℕ) → has l' u b ≡ has l u b) → new_places l l' os ≡ os
places_stay l l' {os} pl e f =
    places_prune l l' os e
    ∙ prune_same l' os (λ p m. f p.tier p.number ∙ pl.sound p m)

-- the same nodes are new, and the same stay
pub places_alike : (l l₁ l₂ : List Entry) (os : Places) → new_nodes l l₂ ≡ new_nodes l l₁ →
    ((u b : ℕ) → has l₂ u b ≡ has l₁ u b) → new_places l l₂ os ≡ new_places l l₁ os
places_alike l l₁ l₂ os e f =
    ap₂ (λ (t : Node → Bool) (ps : List Node). P.prune t (allocate os ps)) (λ j p. f p.tier p.number j) e

-- a list that stays needs no node
pub none_new : (l : List Entry) → new_nodes l l ≡ []
none_new l = without_all (λ p. has l p.tier p.number) (each (nodes l) (λ p m. nodes_in_lem l m))

pub same_places : {n : ℕ} (l : List Entry) {os : Places} → Placed n l os → new_places l l os ≡ os
same_places l pl = places_stay l l pl (none_new l) (λ u b. refl)
