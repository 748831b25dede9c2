-- What stands at each number, and at which number a node stands.
use Prim.Native.Nat.{ℕ, ◌<◌}
use mathlib.Core.Path.{◌≡◌}
use mathlib.Core.Bool.{true}
use mathlib.Core.List.{List}
use mathlib.Core.Option.{Option, none, some}
use lib.ListN.{length, get_or}
use Rattle.blocks.specs.Lists.{In, Distinct}
use Rattle.blocks.proofs.PlacingLaws as P
use Rattle.blocks.proofs.PlaceNumberLaws as N
use Rattle.model.specs.declared.Entry.{Entry}
use Rattle.tree.specs.Tree.{Node}
use Rattle.layout.specs.Places.{Places, has_node, standing, prune, keep_if, same, number_of}
use Rattle.layout.proofs.PlacesLaws.{same_is, same_refl}
pub use Rattle.blocks.proofs.PlacingLaws.{in_standing, allocate_stays, allocate_get, allocate_none}
pub use Rattle.layout.proofs.PlacesLaws.{same_refl}

abbrev pub nd : ℕ → ℕ → Node
nd u b = record { tier = u; number = b }

pub number_at : (p : Node) (os : Places) → In p (standing os) →
    (number_of p os < length os) × (get_or os (number_of p os) none ≡ some p)
number_at p os m = N.number_at same same_is same_refl p os m

pub number_of_lem : (p : Node) (os : Places) (m : ℕ) → Distinct (standing os) → get_or os m none ≡ some p →
    number_of p os ≡ m
number_of_lem p os m d e = N.number_of_lem same same_is same_refl p os m d e

pub prune_get : (l : List Entry) (os : Places) (m : ℕ) → get_or (prune l os) m none ≡ keep_if l (get_or os m none)
prune_get l os m = P.prune_get (has_node l) os m

pub keep_some : (l : List Entry) (o : Option Node) (p : Node) → keep_if l o ≡ some p → (o ≡ some p) ×
    (has_node l p ≡ true)
keep_some l o p e = P.keep_some (has_node l) o p e

pub prune_same : (l : List Entry) (os : Places) → ((p : Node) → In p (standing os) → has_node l p ≡ true) →
    prune l os ≡ os
prune_same l os f = P.prune_same (has_node l) os f
