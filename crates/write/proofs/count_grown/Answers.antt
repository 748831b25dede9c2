-- `count_grown`: the path alone, or the path and the chain.
use Prim.Native.Nat.{ℕ, ◌+◌, ◌-◌}
use mathlib.Core.Path.{◌≡◌, ◌∙◌}
use mathlib.Core.List.{List}
use borrow.Author.Tests.{eq-eqb, ne_eqb}
use Rattle.write.specs.Writes.{ones, path_counts, grown_counts}
use Rattle.write.proofs.count_grown.Goals as goal

module _ (ws ps cs : List ℕ) (k h top head : ℕ) where
  no_chain : {ws₁ : List ℕ} → head ≡ 0 → ws₁ ≡ path_counts ws ps k top 0 → ws₁ ≡ grown_counts ws ps cs k h top head
  unfolding grown_counts
  no_chain t e = e ∙ rw (eq-eqb _ _ t)

  with-chain : {ws₁ ws₂ : List ℕ} → (head ≡ 0 → ⊥) → ws₁ ≡ path_counts ws ps k top 1 →
      ws₂ ≡ ones cs ws₁ (h + 1) (top - (h + 1)) → ws₂ ≡ grown_counts ws ps cs k h top head
  unfolding grown_counts
  with-chain t e₁ e₂ = e₂ ∙ rw (ne_eqb _ _ t, e₁)

pub returns-then-heads-eq0 : goal.returns-then-heads-eq0
returns-then-heads-eq0 c =
    no_chain c.args.pool.now c.args.path.now c.args.chain.now c.args.order c.args.heads.old c.args.heads.new c.args.heads.word
    c.if-heads-eq0.true c.count_path.ensures

pub returns : goal.returns
returns c =
    with-chain c.args.pool.now c.args.path.now c.args.chain.now c.args.order c.args.heads.old c.args.heads.new c.args.heads.word
    c.if-heads-eq0.false c.count_path-2.ensures c.count_ones.ensures
