-- The numbers of the nodes after a command: where each stands, what stood there before, and that numbers differ.
use Prim.Native.Nat.{ℕ, ◌≤◌, ◌<◌}
use mathlib.Core.Path.{◌≡◌, sym, ap}
use mathlib.Core.Bool.{true, false}
use mathlib.Core.List.{List}
use mathlib.Core.Option.{none, some}
use lib.ListN.{get_or}
use Rattle.blocks.proofs.PlacingLaws as P
use Rattle.blocks.proofs.PlaceNumberLaws as N
use Rattle.model.specs.declared.Entry.{Entry}
use Rattle.tree.specs.Tree.{has, Node, new_nodes, needed}
use Rattle.layout.specs.Places.{same, Places, Placed, number_in, free_count, allocate, keep_if, new_places}
use Rattle.layout.proofs.PlacesLaws.{same_is, same_refl, new_nodes_lem, placed_new, number_stays}
use Rattle.layout.proofs.NumberLaws.{nd, in_standing, number_of_lem}

-- a node of the tree stands at its number
module _ (n : ℕ) (l : List Entry) (os : Places) (pl : Placed n l os) where
  pub stands_at : (u b : ℕ) → has l u b ≡ true → (number_in os u b < n) ×
      (get_or os (number_in os u b) none ≡ some (nd u b))
  stands_at u b t = N.stands_at same same_is same_refl pl (nd u b) t

module _ (n : ℕ) (l : List Entry) (os : Places) (pl : Placed n l os) (l' : List Entry)
    (enough : needed l l' ≤ free_count os) where
  abbrev os' : Places
  os' = new_places l l' os

  abbrev pl' : Placed n l' os'
  pl' = placed_new n l os pl l' enough

  -- the number of a node of the new tree
  pub new_at : (u b : ℕ) → has l' u b ≡ true → (number_in os' u b < n) ×
      (get_or os' (number_in os' u b) none ≡ some (nd u b))
  new_at u b t = stands_at n l' os' pl' u b t

  pub kept : (u b : ℕ) → has l u b ≡ true → has l' u b ≡ true → number_in os' u b ≡ number_in os u b
  kept u b t t' = number_stays n l os pl l' (nd u b) t t'

  -- what stood there before
  pub was : (u b : ℕ) → has l' u b ≡ true → has l u b ≡ true → get_or os (number_in os' u b) none ≡ some (nd u b)
  was u b t' t = N.was same same_is same_refl (new_nodes_lem l l') pl (nd u b) t' t

  pub was_not : (u b : ℕ) → has l' u b ≡ true → has l u b ≡ false → get_or os (number_in os' u b) none ≡ none
  was_not u b t' t = N.was_not same same_is same_refl (new_nodes_lem l l') pl enough (nd u b) t' t

  -- a number at which something stands
  pub new_number_of : (m : ℕ) (p : Node) → get_or os' m none ≡ some p →
      (m ≡ number_in os' p.tier p.number) × (has l' p.tier p.number ≡ true)
  new_number_of m p e = (sym (number_of_lem p os' m pl'.once e), pl'.sound p (in_standing p os' m e))

  -- a number at which nothing stands: nothing stood there, or a node that is no more
  pub number_none : (m : ℕ) → get_or os' m none ≡ none → keep_if l' (get_or os m none) ≡ none
  number_none m e = P.number_none os (new_nodes_lem l l') m e

  pub distinct_numbers : (u b u' b' : ℕ) → has l' u b ≡ true → has l' u' b' ≡ true →
      number_in os' u b ≡ number_in os' u' b' → (u ≡ u') × (b ≡ b')
  distinct_numbers u b u' b' t t' e =
      let r : nd u b ≡ nd u' b' = N.distinct_numbers same same_is same_refl pl' (nd u b) (nd u' b') t t' e in
      (ap (λ (p : Node). p.tier) r, ap (λ (p : Node). p.number) r)

-- a free place that a new node takes is in use after the command
pub new_stays : (l l' : List Entry) (os : Places) (m : ℕ) → get_or os m none ≡ none →
    (get_or (allocate os (new_nodes l l')) m none ≡ none → ⊥) → get_or (new_places l l' os) m none ≡ none → ⊥
new_stays l l' os m free taken e = P.new_stays os (new_nodes_lem l l') m free taken e
