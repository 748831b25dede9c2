-- `count_path`: the node of tier top, and, where that is not the entry's, those below it.
use Prim.Native.Nat.{ℕ, ◌+◌, ◌-◌, ◌/◌}
use mathlib.Core.Path.{◌≡◌, ◌∙◌}
use mathlib.Core.List.{List}
use native.Mathlib.Omega.{arith}
use lib.ListN.{get_or, set}
use borrow.Author.Tests.{eq-eqb, ne_eqb}
use Rattle.tree.specs.Tree.{slot_bits}
use Rattle.layout.specs.Words.{filled_place}
use Rattle.write.specs.Writes.{width, ones, path_counts}
use Rattle.write.proofs.count_path.Goals as goal

module _ (ws ps : List ℕ) (k top f : ℕ) {c : ℕ} (c-is : c ≡ width k) where
  one-node : {ws₁ : List ℕ} → k / slot_bits + 1 ≡ top → ws₁ ≡ set ws (filled_place (get_or ps top 0)) (f + c) →
      ws₁ ≡ path_counts ws ps k top f
  unfolding path_counts
  one-node t e = e ∙ rw (eq-eqb _ _ t, c-is)

  more-nodes : {ws₁ ws₂ ws₃ : List ℕ} → (k / slot_bits + 1 ≡ top → ⊥) → ws₁ ≡ set ws (filled_place (get_or ps top 0)) (f + 1) →
      ws₂ ≡ set ws₁ (filled_place (get_or ps (k / slot_bits + 1) 0)) c →
      ws₃ ≡ ones ps ws₂ (k / slot_bits + 1 + 1) (top - (k / slot_bits + 1 + 1)) → ws₃ ≡ path_counts ws ps k top f
  unfolding path_counts
  more-nodes t e₁ e₂ e₃ =
      let two : k / slot_bits + 1 + 1 ≡ k / slot_bits + 2 = omega arith in
      e₃ ∙ rw (ne_eqb _ _ t, two, e₂, e₁, c-is)

pub returns-then-t-top : goal.returns-then-t-top
returns-then-t-top c =
    one-node c.args.pool.now c.args.path.now c.args.order c.args.top c.args.f c.width_of-c.ensures.0 c.if-t-top.true
    c.put_filled.ensures

pub returns : goal.returns
returns c =
    more-nodes c.args.pool.now c.args.path.now c.args.order c.args.top c.args.f c.width_of-c.ensures.0 c.if-t-top.false
    c.put_filled-2.ensures c.put_filled-3.ensures c.count_ones.ensures
