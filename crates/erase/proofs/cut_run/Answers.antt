-- `cut_run`: empties the slots of the entry that covers i.
use Prim.Native.Nat.{◌+◌}
use mathlib.Core.Path.{◌≡◌, ◌∙◌}
use native.Mathlib.Omega.{arith}
use Rattle.blocks.specs.Blocks.{block}
use Rattle.blocks.proofs.BlockLaws.{pow_pos}
use Rattle.tree.specs.Tree.{tier_order}
use Rattle.layout.specs.WellFormed.{WellFormed, num}
use Rattle.lookup.specs.Views.{Holds}
use Rattle.erase.specs.Leaving.{Unmarked}
use Rattle.erase.proofs.LeavingLaws.{run_at, run_stands, run_fits, run_small, run_wide, run_counted_lem, cut_start}
use Rattle.erase.proofs.FreedLaws.{taken, taken_map}
use Rattle.erase.proofs.cut_run.Goals as goal

order : (c : goal.After-order_of-k) (s : WellFormed c.args.pool.now)
    (h : Holds s.list (num s) c.args.i
    c.args.at.node c.args.at.tier
    c.args.at.slot) → Unmarked s.list c.args.i →
    h.entry.order ≡ tier_order c.args.at.tier + c.order_of-k.result
order c s h un =
    c.order_of-k.ensures.order_value s c.args.at.tier
    (block (tier_order c.args.at.tier) h.entry.base)
    h.entry (run_at s h un) h.slot_is (run_stands s h un)

order_2 : (c : goal.After-uncount-arg-1) (s : WellFormed c.args.pool.now)
    (h : Holds s.list (num s) c.args.i
    c.args.at.node c.args.at.tier
    c.args.at.slot) → Unmarked s.list c.args.i →
    h.entry.order ≡ tier_order c.args.at.tier + c.order_of-k.result
order_2 c s h un =
    c.order_of-k.ensures.order_value s c.args.at.tier
    (block (tier_order c.args.at.tier) h.entry.base)
    h.entry (run_at s h un) h.slot_is (run_stands s h un)

order_3 : (c : goal.After-empty_slots-arg-1) (s : WellFormed c.args.pool.now)
    (h : Holds s.list (num s) c.args.i
    c.args.at.node c.args.at.tier
    c.args.at.slot) → Unmarked s.list c.args.i →
    h.entry.order ≡ tier_order c.args.at.tier + c.order_of-k.result
order_3 c s h un =
    c.order_of-k.ensures.order_value s c.args.at.tier
    (block (tier_order c.args.at.tier) h.entry.base)
    h.entry (run_at s h un) h.slot_is (run_stands s h un)

order_4 : (c : goal.After-slice_known-3-1) (s : WellFormed c.args.pool.now)
    (h : Holds s.list (num s) c.args.i
    c.args.at.node c.args.at.tier
    c.args.at.slot) → Unmarked s.list c.args.i →
    h.entry.order ≡ tier_order c.args.at.tier + c.order_of-k.result
order_4 c s h un =
    c.order_of-k.ensures.order_value s c.args.at.tier
    (block (tier_order c.args.at.tier) h.entry.base)
    h.entry (run_at s h un) h.slot_is (run_stands s h un)

pub order_of-k-requires-clause-n_in_bounds : goal.order_of-k-requires-clause-n_in_bounds
order_of-k-requires-clause-n_in_bounds c =
    let f = run_fits c.requires.formed c.requires.holds c.requires.unmarked in
    f.0

pub pow2-c-requires : goal.pow2-c-requires
pow2-c-requires c =
    run_small c.requires.formed c.requires.holds c.requires.unmarked _ (order c c.requires.formed c.requires.holds c.requires.unmarked)

pub uncount-requires-clause-n_bound : goal.uncount-requires-clause-n_bound
uncount-requires-clause-n_bound c =
    let f = run_fits c.requires.formed c.requires.holds c.requires.unmarked in
    let w = run_counted_lem c.requires.formed c.requires.holds c.requires.unmarked _
    (order_2 c c.requires.formed c.requires.holds c.requires.unmarked) in
    omega (arith, f.0)

pub uncount-requires-clause-c_bound : goal.uncount-requires-clause-c_bound
uncount-requires-clause-c_bound c =
    let f = run_fits c.requires.formed c.requires.holds c.requires.unmarked in
    let w = run_counted_lem c.requires.formed c.requires.holds c.requires.unmarked _
    (order_2 c c.requires.formed c.requires.holds c.requires.unmarked) in
    omega (arith, c.pow2-c.ensures, pow_pos c.order_of-k.result)

pub empty_slots-requires-clause-n_bound : goal.empty_slots-requires-clause-n_bound
empty_slots-requires-clause-n_bound c =
    let f = run_fits c.requires.formed c.requires.holds c.requires.unmarked in
    let w = run_wide c.requires.formed c.requires.holds c.requires.unmarked _
    (order_3 c c.requires.formed c.requires.holds c.requires.unmarked) in
    omega (arith, f.0, c.uncount.auto.pool)

pub empty_slots-requires-clause-c_bound : goal.empty_slots-requires-clause-c_bound
empty_slots-requires-clause-c_bound c =
    let f = run_fits c.requires.formed c.requires.holds c.requires.unmarked in
    let w = run_wide c.requires.formed c.requires.holds c.requires.unmarked _
    (order_3 c c.requires.formed c.requires.holds c.requires.unmarked) in
    omega (arith, c.pow2-c.ensures)

pub returns-clause-cut : goal.returns-clause-cut
returns-clause-cut c =
    let w = run_wide c.requires.formed c.requires.holds c.requires.unmarked _
    (order_4 c c.requires.formed c.requires.holds c.requires.unmarked) in
    let d = run_counted_lem c.requires.formed c.requires.holds c.requires.unmarked _
    (order_4 c c.requires.formed c.requires.holds c.requires.unmarked) in
    let f = run_fits c.requires.formed c.requires.holds c.requires.unmarked in
    let a = c.args in
    let t = taken {ws = a.pool.now} a.at.node a.at.slot c.pow2-c.result _
    c.uncount.ensures c.empty_slots.ensures f.0 (omega arith)
    (omega arith) in
    (λ s h un. cut_start s h un _ (order_4 c s h un)
    (c.empty_slots.auto.pool ∙ c.uncount.auto.pool)
    (omega (arith, t.counted)) (λ j a b. t.emptied j a (omega arith)) t.before (λ j a. t.after j (omega arith)))

pub returns-clause-by_index : goal.returns-clause-by_index
returns-clause-by_index c =
    let w = run_wide c.requires.formed c.requires.holds c.requires.unmarked _
    (order_4 c c.requires.formed c.requires.holds c.requires.unmarked) in
    let d = run_counted_lem c.requires.formed c.requires.holds c.requires.unmarked _
    (order_4 c c.requires.formed c.requires.holds c.requires.unmarked) in
    let f = run_fits c.requires.formed c.requires.holds c.requires.unmarked in
    let a = c.args in
    let t = taken {ws = a.pool.now} a.at.node a.at.slot c.pow2-c.result _
    c.uncount.ensures c.empty_slots.ensures f.0 (omega arith)
    (omega arith) in
    λ ms F. taken_map a.at.node a.at.slot _ (omega arith) t F
