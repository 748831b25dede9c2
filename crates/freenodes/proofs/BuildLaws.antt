-- The map of a pool is made node by node.
use Prim.Native.Nat.{ℕ, ◌+◌}
use mathlib.Core.Path.{◌≡◌, ap}
use mathlib.Core.Bool.{Bool, false}
use mathlib.Core.List.{List}
use native.Mathlib.Omega.{arith}
use lib.Dec.{eqb, ltb}
use lib.ListN.{get_or}
use borrow.Author.Tests.{eqb-true, eqb-false, ltb-true, lt-ltb, le-ltb}
use Rattle.blocks.specs.Choice.{both}
use Rattle.blocks.proofs.BoolLaws.{by_t, iff}
use Rattle.layout.specs.Words.{shift_place}
use Rattle.freemap.specs.FreeMap.{put, BlankMap, MapOf, Sound}
use Rattle.freemap.proofs.MapLaws.{map_as, map_none}
use Rattle.freenodes.specs.FreeNodes.{free_to, free_in, FreeMap}

-- the map of a pool is a map
pub free_sound : {ws ms : List ℕ} → FreeMap ws ms → Sound ms
free_sound {ws} F = record { free = free_in ws; is = F.is }

-- THE MAP OF A POOL, node by node
pub build_start : (ws ms : List ℕ) → BlankMap ms → MapOf (free_to 0 ws) ms
build_start ws ms b = map_none (free_to 0 ws) ms b.long b.zeros (λ x _. rw (le-ltb x 0 (omega arith)))

pub build_step : (ws : List ℕ) {ms ms' : List ℕ} (m w : ℕ) → w ≡ get_or ws (shift_place m) 0 →
    ((f : ℕ → Bool) → f m ≡ false → MapOf f ms → MapOf (put f m (eqb w 0)) ms') → MapOf (free_to m ws) ms →
    MapOf (free_to (m + 1) ws) ms'
build_step ws m w e step M =
    map_as (step (free_to m ws) (rw (le-ltb m m (omega arith))) M) (free_to (m + 1) ws)
    (λ x _. by_t (eqb x m)
    (λ t. let q : x ≡ m = eqb-true _ _ t in rw (t, q, lt-ltb m (m + 1) (omega arith), e))
    (λ t. let ne : x ≡ m → ⊥ = eqb-false _ _ t in
    rw t (ap (λ (b : Bool). both b (eqb (get_or ws (shift_place x) 0) 0)) (iff (ltb x m) (ltb x (m + 1))
    (λ y. lt-ltb x (m + 1) (omega (arith, ltb-true x m y)))
    (λ y. lt-ltb x m (omega (arith, ltb-true x (m + 1) y)))))))
