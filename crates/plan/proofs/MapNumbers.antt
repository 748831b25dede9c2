-- Free numbers of a pool by the map of its free nodes.
use Prim.Native.Nat.{ℕ, zero, suc, ◌≤◌, ◌<◌}
use mathlib.Core.Path.{◌≡◌, sym, ap, ◌∙◌}
use mathlib.Core.Bool.{Bool}
use mathlib.Core.List.{List}
use native.Mathlib.Omega.{arith}
use lib.Dec.{ltb, leb, eqb}
use lib.ListN.{length, get_or}
use borrow.Author.Tests.{eqb-true, eqb-false, ltb-true, lt-ltb}
use Rattle.blocks.specs.Choice.{both}
use Rattle.blocks.proofs.BoolLaws.{by_t, iff, both_i, both_l, both_r}
use Rattle.tree.specs.Tree.{Node}
use Rattle.layout.specs.Words.{count_word, shift_place}
use Rattle.layout.specs.Places.{Places, free_count, allocate}
use Rattle.layout.specs.WellFormed.{WellFormed}
use Rattle.layout.proofs.RenderWordLaws.{pool_anchor}
use Rattle.freemap.specs.FreeMap as F
use Rattle.freemap.specs.FreeMap.{map_nodes, map_count, tally, MapOf}
use Rattle.freemap.proofs.CountLaws.{count_zero, count_suc}
use Rattle.freemap.proofs.MapLaws.{map_as}
use Rattle.freemap.proofs.DrawLaws as D
use Rattle.freenodes.specs.FreeNodes.{free_in, FreeMap}
use Rattle.plan.specs.Plan.{free_at, free_before, free_place, left_free, Drawn, Draws}
use Rattle.blocks.proofs.FreeNumberLaws.{place_is, is_place, to_suc, to_all, next_none, left_new_at}
use Rattle.plan.proofs.FreeNumbers.{free_zero, zero_free, size_is}

-- COUNTING
to_count : (os : Places) (m : ℕ) → tally (free_place os) m ≡ free_before os m
to_count os zero = count_zero (free_place os)
to_count os (suc m) = omega (arith, count_suc (free_place os) m, to_count os m, to_suc os m)

pub count_free : (os : Places) {ms : List ℕ} → length os ≤ map_nodes → MapOf (free_place os) ms → get_or ms map_count 0 ≡ free_count os
count_free os h M = M.count_is ∙ (to_count os map_nodes ∙ to_all os map_nodes h)

-- NUMBERS DRAWN are those that new nodes take
module _ (os : Places) (k : ℕ) (nums ms : List ℕ) where
  pub drawn_places : F.Drawn (free_place os) k nums ms → Drawn os k nums ms
  drawn_places d = record {
    numbers = λ j l. let (a, b) = place_is os (get_or nums j 0) (d.is_free j l) in
        sym (ap (free_at os) (sym (d.before j l) ∙ to_count os (get_or nums j 0)) ∙ (next_none os (get_or nums j 0) a b).1);
    left = map_as d.left (left_free os k)
        (λ x _. ap (λ (c : ℕ). both (free_place os x) (leb k c)) (to_count os x));
  }

pub drawn_none : (os : Places) (nums ms : List ℕ) → MapOf (free_place os) ms → Drawn os 0 nums ms
drawn_none os nums ms M = drawn_places os 0 nums ms (D.drawn_none (free_place os) nums ms M)

-- what drawing comes to
pub draws_places : (os : Places) (need : ℕ) (nums ms ms' : List ℕ) (r : Bool) → length os ≤ map_nodes →
    MapOf (free_place os) ms → F.Draws (free_place os) need nums ms ms' r → Draws os need nums ms ms' r
draws_places os need nums ms ms' r h M d = record {
  enough = λ z. omega (arith, d.enough z, count_free os h M);
  drawn = λ z. drawn_places os need nums ms' (d.drawn z);
  short = λ z. omega (arith, d.short z, count_free os h M);
  same = d.same;
}

-- WHAT IS LEFT when as many new nodes have their numbers
pub left_new : (os : Places) (ps : List Node) (ms : List ℕ) → MapOf (left_free os (length ps)) ms →
    MapOf (free_place (allocate os ps)) ms
left_new os ps ms M = map_as M (free_place (allocate os ps)) (λ m _. left_new_at os ps m)

-- A POOL'S MAP is that of its places
module _ {ws : List ℕ} (s : WellFormed ws) where
  size_word : get_or ws count_word 0 ≡ s.n
  size_word = pool_anchor s count_word (omega arith)

  pub free_words : (m : ℕ) → free_in ws m ≡ free_place s.places m
  free_words m = iff (free_in ws m) (free_place s.places m)
      (λ t. let h : m < s.n = omega (
        arith,
        size_word,
        ltb-true m (get_or ws count_word 0) (both_l (ltb m (get_or ws count_word 0)) (eqb (get_or ws (shift_place m) 0) 0) t),
      ) in
      is_place s.places m (omega (arith, size_is s)) (free_zero s m h
      (eqb-true _ _ (both_r (ltb m (get_or ws count_word 0)) (eqb (get_or ws (shift_place m) 0) 0) t))))
      (λ t. let (a, b) = place_is s.places m t in
      let h : m < s.n = omega (arith, size_is s) in
      both_i (lt-ltb m (get_or ws count_word 0) (omega (arith, size_word)))
      (by_t (eqb (get_or ws (shift_place m) 0) 0) (λ y. y) (λ y. absurd (zero_free s m h (eqb-false _ _ y) b))))

  pub map_places : {ms : List ℕ} → FreeMap ws ms → MapOf (free_place s.places) ms
  map_places f = map_as f.is (free_place s.places) (λ m _. free_words m)

  pub places_map : {ms : List ℕ} → MapOf (free_place s.places) ms → FreeMap ws ms
  places_map M = record { is = map_as M (free_in ws) (λ m _. sym (free_words m)) }

  pub places_fit : length s.places ≤ map_nodes
  places_fit = omega (arith, size_is s, s.most)
