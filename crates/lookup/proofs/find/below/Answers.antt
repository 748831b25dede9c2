-- `below`: whether the way down to p goes on through its slot in node n: it leads to a node and has the filter's
use Prim.Native.Nat.{ℕ, ◌%◌}
use mathlib.Core.Logic.{inl, inr}
use mathlib.Core.Path.{◌≡◌, ap, ◌∙◌}
use native.Mathlib.Omega.{arith}
use Rattle.blocks.specs.Choice.{pick}
use Rattle.blocks.specs.Blocks.{block}
use Rattle.blocks.proofs.BoolLaws.{by_t}
use Rattle.tree.specs.Tree.{slot_mark, tier_order, slots}
use Rattle.layout.specs.WellFormed.{WellFormed}
use Rattle.lookup.proofs.WordLaws.{node_fits_lem, mark_read}
use Rattle.lookup.proofs.WayLaws.{at_slot, is_node_lem, is_gap, is_entry_lem, down_any, down_mark, down_lacks, down_leaf}
use Rattle.lookup.proofs.find.below.Goals as goal

marked : (c : goal.Then-mark_bit-eq1) (s : WellFormed c.args.pool.now) → c.mark_bit.result ≡ pick (slot_mark s.list
    c.args.filter
    c.args.v
    (block (tier_order c.args.v)
    c.args.p)) 1 0
marked c s = c.mark_bit.ensures ∙ mark_read s _ _ _ (omega arith) (at_slot _ (c.requires.at_node s)) (ap (λ (x : ℕ). x % slots) c.block_of.ensures)

marked_2 : (c : goal.Else-mark_bit-eq1) (s : WellFormed c.args.pool.now) → c.mark_bit.result ≡ pick (slot_mark s.list
    c.args.filter
    c.args.v
    (block (tier_order c.args.v)
    c.args.p)) 1 0
marked_2 c s = c.mark_bit.ensures ∙ mark_read s _ _ _ (omega arith) (at_slot _ (c.requires.at_node s)) (ap (λ (x : ℕ). x % slots) c.block_of.ensures)

pub returns-then-filter-eq-ANY_MARK : goal.returns-then-filter-eq-ANY_MARK
returns-then-filter-eq-ANY_MARK c =
    λ s. let (t, q) = is_node_lem _ (c.look-k.ensures s)
    c.in-Below.is in down_any _ _ _ _ _ _ t q c.if-filter-eq-ANY_MARK.true

pub mark_bit-requires-clause-m_in_bounds : goal.mark_bit-requires-clause-m_in_bounds
mark_bit-requires-clause-m_in_bounds c =
    let s = c.requires.well_formed in
    omega (arith, (node_fits_lem s (c.requires.at_node s)).0)

pub returns-then-mark_bit-eq1 : goal.returns-then-mark_bit-eq1
returns-then-mark_bit-eq1 c =
    λ s.
    let (t, q) = is_node_lem _ (c.look-k.ensures s)
    c.in-Below.is in
    down_mark _ _ _ _ _ _ t q (by_t _ (λ e. e) (λ e. absurd
    (omega (arith, c.if-mark_bit-eq1.true, rw e at (marked c s)))))

pub returns-else-mark_bit-eq1 : goal.returns-else-mark_bit-eq1
returns-else-mark_bit-eq1 c =
    λ s.
    let (t, q) = is_node_lem _ (c.look-k.ensures s)
    c.in-Below.is in
    down_lacks _ _ _ _ _ 0 t c.if-filter-eq-ANY_MARK.false
    (by_t _ (λ e. absurd (c.if-mark_bit-eq1.false (rw e at (marked_2 c s)))) (λ e. e))

pub returns-in-Gap : goal.returns-in-Gap
returns-in-Gap c =
    λ s. elim c.in-Gap.is [
      | inl e ↦ down_leaf _ _ _ _ _ 0 (is_gap (c.look-k.ensures s) e).0
      | inr x ↦ down_leaf _ _ _ _ _ 0 (is_entry_lem _ (c.look-k.ensures s) x.1).1
    ]
