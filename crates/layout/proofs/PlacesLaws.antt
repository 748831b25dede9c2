-- Places after a command: every node of the new tree stands at one number, and a node that stays keeps its own.
-- (What holds of any placing is in blocks/proofs; here it is said of the nodes of a tree.)
use Prim.Native.Nat.{ℕ, ◌+◌, ◌≤◌}
use mathlib.Core.Path.{◌≡◌, refl}
use mathlib.Core.Bool.{true, false}
use mathlib.Core.List.{List}
use lib.Dec.{eqb}
use lib.ListN.{length}
use borrow.Author.Tests.{eqb-true, eq-eqb}
use Rattle.blocks.specs.Lists.{All, In}
use Rattle.blocks.proofs.BoolLaws.{both_l, both_r}
use Rattle.blocks.proofs.ListLaws.{All-without, look, each, in_without, distinct_without}
use Rattle.blocks.proofs.PlacingLaws as P
use Rattle.blocks.proofs.PlaceNumberLaws as N
use Rattle.model.specs.declared.Entry.{Entry}
use Rattle.tree.specs.Tree.{height, Node, nodes, new_nodes, needed}
use Rattle.tree.proofs.NodeListLaws.{in_nodes, nodes_in_lem, distinct_to}
use Rattle.layout.specs.Places.{same, has_node, new_places, number_of, prune, Places, free_count, Placed}
pub use Rattle.blocks.proofs.ListLaws.{distinct_without}
pub use Rattle.blocks.proofs.PlacingLaws.{all_places}

pub same_is : (p q : Node) → same p q ≡ true → p ≡ q
same_is p q t =
    let a : p.tier ≡ q.tier = eqb-true _ _ (both_l (eqb p.tier q.tier) (eqb p.number q.number) t) in
    let b : p.number ≡ q.number = eqb-true _ _ (both_r (eqb p.tier q.tier) (eqb p.number q.number) t) in
    λ i. record { tier = a i; number = b i }

pub same_refl : (p : Node) → same p p ≡ true
same_refl p = rw (eq-eqb p.tier _ refl, eq-eqb p.number _ refl)

pub number_prune : (p : Node) (l : List Entry) (os : Places) → has_node l p ≡ true →
    number_of p (prune l os) ≡ number_of p os
number_prune p l os t = N.number_prune same same_is same_refl p (has_node l) os t

-- the nodes that a change of the list needs
pub new_nodes_lem : (l l' : List Entry) → P.New (has_node l) (has_node l') (new_nodes l l')
new_nodes_lem l l' =
    let fresh : All (λ p. (has_node l p ≡ false) × In p (nodes l')) (new_nodes l l') = All-without (has_node l)
    (each (nodes l') (λ p m. m)) in
    record {
      was_not = λ p m. (look fresh m).0;
      is_now = λ p m. nodes_in_lem l' (look fresh m).1;
      every = λ p t o. in_without (has_node l) (in_nodes l' p.tier p.number t) o;
      once = distinct_without (has_node l) (distinct_to l' (height l'));
    }

module _ (n : ℕ) (l : List Entry) (os : Places) (pl : Placed n l os) (l' : List Entry) where
  pub placed_new : needed l l' ≤ free_count os → Placed n l' (new_places l l' os)
  placed_new le = P.placed_new os (new_nodes_lem l l') pl le

  -- a node that stays keeps its number
  pub number_stays : (p : Node) → has_node l p ≡ true → has_node l' p ≡ true →
      number_of p (new_places l l' os) ≡ number_of p os
  number_stays p t t' = N.number_stays same same_is same_refl (new_nodes_lem l l') pl p t t'

-- COUNT
pub free_places : (n : ℕ) (l : List Entry) (os : Places) → Placed n l os → free_count os + length (nodes l) ≡ n
free_places n l os pl = N.free_places same same_is same_refl (has_node l) (nodes l)
    (λ p t. in_nodes l p.tier p.number t) (λ p m. nodes_in_lem l m) (distinct_to l (height l)) pl
