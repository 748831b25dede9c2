use Prim.Native.Nat.{ℕ, suc, ◌-◌, ◌/◌}
use mathlib.Core.Path.{◌≡◌, refl, sym, ◌∙◌}
use mathlib.Core.List.{List}
use native.Mathlib.Omega.{arith}
use native.Mathlib.Numerals.{add-one}
use lib.ListN.{length}
use Rattle.tree.specs.Tree.{slots}
use Rattle.layout.specs.WellFormed.{WellFormed}
use Rattle.erase.specs.Leaving.{Cut, Cutting}
use Rattle.erase.proofs.LeavingLaws.{cut_fits, cut_empty, cut_filled, cut_done, cut_top, cut_next, over_fits, over_counted}
use Rattle.erase.proofs.FreedLaws.{freed_sheds, unlinked_sheds, sheds_given}
use Rattle.erase.proofs.prune_up.Invariants.{Kept, Bounds}
use Rattle.erase.proofs.prune_up.Goals as goal

bounds : {pool₀ pool : List ℕ} {i v n : ℕ} → Cutting i v n pool → length pool ≡ length pool₀ → Bounds pool₀ pool n v
bounds k e = let f = cut_fits k.formed k.state in
    record { node_in = f.0; node_lt = f.1; tier-lt = f.2; counted = f.3; same = e }

abbrev upper : goal.After-slice_known-in-loop-i-2-1 → ℕ
upper c = (c.owner_of-p.result - 1) / slots

step_cut : (c : goal.After-slice_known-in-loop-i-2-1) (ws : List ℕ) (s : WellFormed ws) →
    Cut s c.args.i c.loop-i.v c.loop-i.n
    c.loop-i.pool →
    Cut s c.args.i (suc c.loop-i.v) (upper c)
    c.unlink.new.pool
step_cut c ws s k =
    let g = cut_empty s k (sym c.filled_of.ensures ∙ c.if-filled_of-ne0.false) in
    cut_next s k g c.owner_of-p.result c.owner_of-p.ensures c.if-p-eq0.false c.unlink.auto.pool c.unlink.ensures.gone (c.unlink.ensures.cleared (over_fits s k g c.owner_of-p.result c.owner_of-p.ensures c.if-p-eq0.false).1)
    (c.unlink.ensures.counted (over_fits s k g c.owner_of-p.result c.owner_of-p.ensures c.if-p-eq0.false).1) c.unlink.ensures.rest

next : (c : goal.After-slice_known-in-loop-i-2-1) →
    Kept c.args.pool.now c.args.map.now c.args.i c.args.first c.args.tier c.unlink.new.pool
    c.give.new.map (upper c)
    (suc c.loop-i.v)
next c =
    let k' : Cutting c.args.i (suc c.loop-i.v) (upper c)
    c.unlink.new.pool =
    record { before = c.loop-i.invariant.1.before; formed = c.loop-i.invariant.1.formed; state = step_cut c c.loop-i.invariant.1.before c.loop-i.invariant.1.formed c.loop-i.invariant.1.state } in (
      bounds k' (c.unlink.auto.pool ∙ c.loop-i.invariant.0.same),
      k',
      c.give.auto.map ∙ c.loop-i.invariant.2,
      sheds_given (unlinked_sheds (omega arith) c.unlink.ensures) c.loop-i.invariant.3 refl c.loop-i.invariant.0.counted
          c.give.ensures,
      λ ws s x. step_cut c ws s (c.loop-i.invariant.4 ws s x),
    )

pub loop-i-init : goal.loop-i-init
loop-i-init c =
    (bounds c.requires.cutting refl, c.requires.cutting, refl, c.requires.free_map, λ ws s k. k)

pub returns-then-filled_of-ne0-clause-by_index : goal.returns-then-filled_of-ne0-clause-by_index
returns-then-filled_of-ne0-clause-by_index c =
    λ ws s k. let k' = c.loop-i.invariant.4 ws s k in
    cut_done s k' (cut_filled s k' (λ z. c.if-filled_of-ne0.true (c.filled_of.ensures ∙ z)))

pub returns-then-p-eq0-clause-free_map_2 : goal.returns-then-p-eq0-clause-free_map_2
returns-then-p-eq0-clause-free_map_2 c =
    sheds_given (freed_sheds c.free_head.ensures) c.loop-i.invariant.3 refl c.loop-i.invariant.0.counted c.give.ensures

pub returns-then-p-eq0-clause-by_index : goal.returns-then-p-eq0-clause-by_index
returns-then-p-eq0-clause-by_index c =
    λ ws s k. let k' = c.loop-i.invariant.4 ws s k in
    cut_top s k' (cut_empty s k' (sym c.filled_of.ensures ∙
    c.if-filled_of-ne0.false)) (sym c.owner_of-p.ensures ∙ c.if-p-eq0.true)
    c.free_head.auto.pool c.free_head.ensures.gone c.free_head.ensures.head c.free_head.ensures.rest

pub unlink-requires-clause-m_bound : goal.unlink-requires-clause-m_bound
unlink-requires-clause-m_bound c =
    let g = cut_empty c.loop-i.invariant.1.formed c.loop-i.invariant.1.state (sym c.filled_of.ensures ∙
    c.if-filled_of-ne0.false) in
    (over_fits c.loop-i.invariant.1.formed c.loop-i.invariant.1.state g c.owner_of-p.result c.owner_of-p.ensures c.if-p-eq0.false).0

pub unlink-requires-clause-bound : goal.unlink-requires-clause-bound
unlink-requires-clause-bound c =
    let g = cut_empty c.loop-i.invariant.1.formed c.loop-i.invariant.1.state (sym c.filled_of.ensures ∙
    c.if-filled_of-ne0.false) in
    over_counted c.loop-i.invariant.1.formed c.loop-i.invariant.1.state g c.owner_of-p.result c.owner_of-p.ensures c.if-p-eq0.false

pub loop-i-preserved : goal.loop-i-preserved
loop-i-preserved c =
    rw add-one (next c)
