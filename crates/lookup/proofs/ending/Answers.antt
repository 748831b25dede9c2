-- `ending`: where the way down to index i ends: the one descent of load, store, mark, unmark and erase.
use Prim.Native.Nat.{suc, ◌<◌}
use mathlib.Core.Path.{◌≡◌}
use mathlib.Core.Bool.{true}
use Rattle.blocks.specs.Blocks.{block}
use Rattle.tree.specs.Tree.{height, tier_order, top_tier}
use Rattle.layout.specs.WellFormed.{WellFormed, num}
use Rattle.lookup.specs.Find.{headed}
use Rattle.lookup.specs.Views.{is_head_lem, AtNode}
use Rattle.lookup.proofs.HeadLaws.{entered_outside, entered_head_entry, entered_under, locate_outside}
use Rattle.lookup.proofs.ending.Goals as goal

under : (c : goal.In-Under) (s : WellFormed c.args.pool.now) →
    (height s.list ≡ suc c.in-Under.v) × (c.in-Under.v < top_tier) ×
    (headed s.list c.args.i ≡ true) ×
    AtNode s.list (num s) c.in-Under.v (block (tier_order (suc c.in-Under.v))
    c.args.i)
    c.in-Under.n
under c s = entered_under (c.enter-k.ensures s) _ _ c.in-Under.is

pub ending_under-requires-clause-top_lt_top_tier : goal.ending_under-requires-clause-top_lt_top_tier
ending_under-requires-clause-top_lt_top_tier c =
    let t = c.requires in
    (under c t).1

pub ending_under-requires-clause-at_node : goal.ending_under-requires-clause-at_node
ending_under-requires-clause-at_node c =
    let t = c.requires in
    (λ s. (under c s).3)

pub ending_under-requires-clause-list_value : goal.ending_under-requires-clause-list_value
ending_under-requires-clause-list_value c =
    let t = c.requires in
    (λ s. (under c s).0)

pub returns-in-Outside : goal.returns-in-Outside
returns-in-Outside c =
    λ s. locate_outside s.list s.valid _
    (entered_outside (c.enter-k.ensures s) c.in-Outside.is)

pub returns-in-HeadEntry : goal.returns-in-HeadEntry
returns-in-HeadEntry c =
    λ s.
    let (z, h, q, o, e) = entered_head_entry (c.enter-k.ensures s) _ c.in-HeadEntry.is in
    is_head_lem _ z q
