-- A pool has few entries: each takes a slot of a node, or is the head.
use Prim.Native.Nat.{ℕ, suc, ◌+◌, ◌*◌, ◌-◌, ◌/◌, ◌^◌, ◌≤◌, ◌<◌, max}
use mathlib.Core.Path.{◌≡◌, refl, ap, ◌∙◌}
use mathlib.Core.Bool.{true}
use mathlib.Core.List.{List}
use native.Mathlib.Omega.{arith}
use lib.Dec.{eqb}
use lib.ListN.{length}
use borrow.Author.Tests.{eqb-true, eqb-false, lt-ltb, eq-eqb}
use Rattle.blocks.specs.Lists.{In, here, there}
use Rattle.blocks.specs.Blocks.{block}
use Rattle.blocks.proofs.BoolLaws.{by_t}
use Rattle.blocks.proofs.ListLaws.{All-map, look, in_any}
use Rattle.blocks.proofs.BlockLaws.{pow_pos, block_at}
use Rattle.model.specs.declared.Entry.{Entry}
use Rattle.model.specs.Model.{Sorted, done, more, Valid, within}
use Rattle.model.proofs.ValidLaws.{sorted_ok}
use Rattle.tree.specs.Tree.{slot_bits, slots, tier_order, height, has, fits}
use Rattle.tree.proofs.HeightLaws.{height_fits, fits_order, fits_base}
use Rattle.tree.proofs.NodeListLaws.{has_in}
use Rattle.layout.specs.Words.{max_nodes}
use Rattle.layout.specs.WellFormed.{WellFormed}
use Rattle.layout.proofs.PlacesLaws.{free_places}
use Rattle.lookup.specs.Views.{Stands}
use Rattle.lookup.proofs.StepLaws.{left, left_mono, left_slot, left_head, left_bound}
use Rattle.lookup.proofs.StandLaws.{after_is}

-- past an entry fewer slots are left
module _ {l : List Entry} (v : Valid l) {e : Entry} (m : In e l) where
  passed_under : 0 < height l → fits (height l) e ≡ true →
      left l (e.base + 2 ^ e.order) < left l e.base
  passed_under pos t =
      let u : ℕ = e.order / slot_bits in
      let o : e.order < max 1 (tier_order (height l)) = fits_order (height l) e t in
      let lo : tier_order u ≤ e.order = omega arith in
      let hi : e.order < tier_order (suc u) = omega arith in
      let st : Stands l u (block (tier_order u) e.base) e = record { inside = m; low = lo; high = hi; slot_is = refl } in
      let there : has l (suc u) (block (tier_order (suc u)) e.base) ≡ true = has_in l (suc u) _ (omega arith)
      (in_any (within (tier_order (suc u)) (block (tier_order (suc u)) e.base)) m
      (rw (lt-ltb e.order (tier_order (suc u)) hi) (eq-eqb (block (tier_order (suc u)) e.base) _ refl))) in
      let far : block (tier_order u) (e.base + 2 ^ e.order) ≡ block (tier_order u) e.base + 2 ^ (e.order - tier_order u) =
      ap (block (tier_order u)) (after_is v st) ∙ block_at (tier_order u) (block (tier_order u) e.base + 2 ^ (e.order - tier_order u)) in
      left_slot l u there (omega (arith, pow_pos e.order)) (omega (arith, pow_pos (e.order - tier_order u)))

  passed : left l (e.base + 2 ^ e.order) < left l e.base
  passed =
      let t : fits (height l) e ≡ true = look (height_fits (All-map (λ x o. (o.order_le, o.in_range)) (sorted_ok v))
      (omega arith)) m in
      by_t (eqb (height l) 0)
      (λ z. left_head l (eqb-true _ _ z) (omega (arith, pow_pos e.order)) (fits_base (height l) e t))
      (λ z. let ne : height l ≡ 0 → ⊥ = eqb-false _ _ z in passed_under (omega arith) t)

few_from : {l : List Entry} → Valid l → {n : ℕ} {s : List Entry} → Sorted n s → ((e : Entry) → In e s → In e l) →
    length s ≤ left l n
few_from v done f = omega arith
few_from {l} v (more {n} {e} {l = s} h ok r) f =
    omega (arith, few_from v r (λ x m. f x (there m)), passed v (f e here), left_mono l h)

-- so a count of entries does not overflow
pub entries_few : {ws : List ℕ} (s : WellFormed ws) → length s.list ≤ slots * max_nodes + 1
entries_few s =
    omega (
      arith,
      few_from s.valid s.valid (λ e m. m),
      left_bound s.list 0,
      free_places s.n s.list s.places s.placed,
      s.most,
    )
