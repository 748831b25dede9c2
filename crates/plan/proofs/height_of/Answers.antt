-- `height_of`: the tier of the head.
use native.Mathlib.Omega.{arith}
use mathlib.Core.Path.{◌≡◌, sym, ap, ◌∙◌}
use Prim.Native.Nat.{ℕ}
use lib.ListN.{get_or}
use Rattle.layout.specs.Words.{shift_place}
use Rattle.plan.proofs.WalkLaws.{head_fields, head_none}
use Rattle.tree.proofs.HeightLaws.{height_most}
use Rattle.layout.proofs.RenderWordLaws.{pool_length_lem}
use Rattle.plan.proofs.height_of.Goals as goal

word : (c : goal.After-shift_of) → c.shift_of.result ≡
    get_or c.args.pool.now (shift_place c.node_number.result) 0
word c = c.shift_of.ensures

pub returns-then-not-is_node : goal.returns-then-not-is_node
returns-then-not-is_node c =
    λ s. head_none s (sym c.is_node.ensures ∙ c.if-not-is_node.true)

pub shift_of-requires : goal.shift_of-requires
shift_of-requires c =
    let h = head_fields c.requires
    (sym c.is_node.ensures ∙ c.if-not-is_node.false) in
    let k = pool_length_lem c.requires in
    omega (arith, h.0, c.node_number.ensures)

pub overflow_add-result : goal.overflow_add-result
overflow_add-result c =
    let h = head_fields c.requires
    (sym c.is_node.ensures ∙ c.if-not-is_node.false) in
    let k = height_most c.requires.list in
    let e = word c ∙ (ap (λ (m : ℕ). get_or c.args.pool.now
    (shift_place m) 0) c.node_number.ensures ∙ h.1) in
    omega (arith, e)

pub returns : goal.returns
returns c =
    λ s.
    let h = head_fields s (sym c.is_node.ensures ∙ c.if-not-is_node.false) in
    let e = word c ∙ (ap (λ (m : ℕ). get_or c.args.pool.now
    (shift_place m) 0) c.node_number.ensures ∙ h.1) in
    omega (arith, e, h.2)
