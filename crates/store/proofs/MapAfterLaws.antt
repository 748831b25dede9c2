-- The map of the free nodes after a store: the new nodes left it before any was freed.
use Prim.Native.Nat.{ℕ, ◌≤◌, ◌<◌}
use mathlib.Core.Path.{◌≡◌, ap, ◌∙◌}
use mathlib.Core.Bool.{Bool, true, false}
use mathlib.Core.List.{List}
use mathlib.Core.Option.{none}
use native.Mathlib.Omega.{arith}
use lib.ListN.{length, get_or}
use Rattle.blocks.specs.Choice.{either}
use Rattle.blocks.proofs.BoolLaws.{by_t, iff, clash, either_e, either_no, either_yes}
use Rattle.blocks.proofs.PlacingLaws.{allocate_size, prune_get}
use Rattle.model.specs.declared.Entry.{Entry}
use Rattle.model.specs.Model.{Valid}
use Rattle.tree.specs.Tree.{new_nodes, needed}
use Rattle.layout.specs.Places.{Places, has_node, keep_if, free_count, allocate, new_places, render}
use Rattle.layout.specs.WellFormed.{WellFormed}
use Rattle.layout.proofs.NewNumberLaws.{new_stays}
use Rattle.layout.proofs.PlacesLaws.{placed_new}
use Rattle.freemap.specs.FreeMap.{MapOf}
use Rattle.freenodes.specs.FreeNodes.{FreeMap}
use Rattle.freemap.proofs.MapLaws.{map_as}
use Rattle.plan.specs.Plan.{free_place}
use Rattle.plan.proofs.FreeNumbers.{size_is}
use Rattle.blocks.proofs.FreeNumberLaws.{place_is, is_place}
use Rattle.plan.proofs.MapNumbers.{places_map}

module _ {ws : List ℕ} (s : WellFormed ws) (l' : List Entry) (enough : needed s.list l' ≤ free_count s.places) where
  abbrev os : Places
  os = s.places

  abbrev os₁ : Places
  os₁ = allocate os (new_nodes s.list l')

  abbrev os' : Places
  os' = new_places s.list l' os

  -- the pool after
  abbrev pub after : Valid l' → {ws' : List ℕ} → ws' ≡ render l' os' s.n → WellFormed ws'
  after valid e = record {
    n = s.n;
    list = l';
    places = os';
    least = s.least;
    most = s.most;
    valid = valid;
    placed = placed_new s.n s.list os s.placed l' enough;
    words_are = e;
  }

  size_then : length os₁ ≡ s.n
  size_then = allocate_size os (new_nodes s.list l') ∙ size_is s

  size_after : length os' ≡ s.n
  size_after = (placed_new s.n s.list os s.placed l' enough).size

  -- the nodes of q are those that a store frees
  module _ (q : ℕ → Bool) (freed : (m : ℕ) → q m ≡ true → (m < s.n) × (get_or os' m none ≡ none))
      (gone : (m : ℕ) → m < s.n → get_or os' m none ≡ none → q m ≡ false → get_or os m none ≡ none) where
    free_after : (m : ℕ) → either (free_place os₁ m) (q m) ≡ free_place os' m
    free_after m = iff (either (free_place os₁ m) (q m)) (free_place os' m)
        (λ t. either_e (free_place os₁ m) (q m) t
        (λ a. let (h, e) = place_is os₁ m a in
        is_place os' m (omega (arith, size_then, size_after)) (prune_get (has_node l') os₁ m ∙ ap (keep_if l') e))
        (λ a. let (h, e) = freed m a in is_place os' m (omega (arith, size_after)) e))
        (λ t. let (h, e) = place_is os' m t in
        let lt : m < s.n = omega (arith, size_after) in
        by_t (q m) (λ z. rw z (either_yes (free_place os₁ m)))
        (λ z. rw z (either_no (free_place os₁ m) ∙ by_t (free_place os₁ m) (λ y. y)
        (λ y. absurd (new_stays s.list l' os m (gone m lt e z)
        (λ d. clash (is_place os₁ m (omega (arith, size_then)) d) y) e)))))

    pub map_after : Valid l' → {ws' ms : List ℕ} → ws' ≡ render l' os' s.n →
        MapOf (λ m. either (free_place os₁ m) (q m)) ms → FreeMap ws' ms
    map_after valid e M = places_map (after valid e) (map_as M (free_place os') (λ m _. free_after m))
