-- Nodes that a store frees, the chain over the old head, and that clearing needs no node.
use Prim.Native.Nat.{ℕ, ◌^◌, ◌≤◌, ◌<◌}
use mathlib.Core.Path.{◌≡◌, sym, subst, ◌∙◌}
use mathlib.Core.Bool.{true, false}
use mathlib.Core.List.{List, []}
use native.Mathlib.Omega.{arith}
use lib.Dec.{leb}
use borrow.Author.Tests.{leb-true, leb-false, le-leb}
use Rattle.blocks.specs.Lists.{any, All}
use Rattle.blocks.specs.Blocks.{block}
use Rattle.blocks.proofs.BoolLaws.{clash, by_t, is_false, both_l, both_r, either_yes}
use Rattle.blocks.proofs.ListLaws.{each, without_all}
use Rattle.blocks.proofs.BlockLaws.{block_up}
use Rattle.model.specs.declared.Entry.{Entry}
use Rattle.model.specs.Model.{within, max_order}
use Rattle.model.specs.ByBlock.{clear, new_entry, store_new}
use Rattle.model.proofs.InsertLaws.{any_insert}
use Rattle.model.proofs.RangeLaws.{Room, Inside}
use Rattle.tree.specs.Tree.{height, has, nodes, new_nodes, tier_order}
use Rattle.tree.proofs.StoreLaws.{within_only, within_path}
use Rattle.tree.proofs.HeightLaws.{height_store}
use Rattle.tree.proofs.NodeListLaws.{nodes_in_lem}
use Rattle.tree.proofs.EraseLaws.{gone, has_clear}

-- a node that a store gives up lies inside the run
module _ (i k w : ℕ) (l : List Entry) (i< : i < 2 ^ 64) (k≤ : k ≤ max_order) (room : All (Room i k) l) where
  pub store_lost : (u b : ℕ) → has l u b ≡ true → has (store_new l i k w) u b ≡ false →
      (tier_order u ≤ k) × Inside i k (tier_order u) b
  unfolding has
  store_lost u b t n =
      let le : u ≤ height l = leb-true _ _ (both_l (leb u (height l)) (any (within (tier_order u) b) l) t) in
      let n₁ : any (within (tier_order u) b) (store_new l i k w) ≡ false = rw
      (le-leb u (height (store_new l i k w)) (rw (height_store i k w l i< k≤ room) (omega arith))) at n in
      let n₂ : any (within (tier_order u) b) (clear l i k) ≡ false = is_false
      (λ c. clash {b = any (within (tier_order u) b) (store_new l i k w)}
      (any_insert (within (tier_order u) b) (new_entry l i k w) (clear l i k) ∙ rw (c, either_yes)) n₁) in
      let (x, m, s, r) = gone i k l (within (tier_order u) b)
      (both_r (leb u (height l)) (any (within (tier_order u) b) l) t) n₂ in
      let at : block (tier_order u) x.base ≡ b = within_only (tier_order u) b x s in
      let low : tier_order u ≤ k = by_t (leb (tier_order u) k) (leb-true _ _)
      (λ f. let g : k < tier_order u = leb-false _ _ f in
      absurd (clash (within_path i k w l (tier_order u) g)
      (subst (λ (c : ℕ). any (within (tier_order u) c) (store_new l i k w) ≡ false)
      (sym at ∙ block_up {j = k} {k = tier_order u} x.base i (omega arith) r) n₁))) in
      (low, λ y e. block_up {j = tier_order u} {k = k} y x.base low (e ∙ sym at) ∙ r)

-- clearing needs no node
pub clear_new : (i k : ℕ) (l : List Entry) → new_nodes l (clear l i k) ≡ []
clear_new i k l = without_all (λ p. has l p.tier p.number)
    (each (nodes (clear l i k)) (λ p m. has_clear i k l p.tier p.number (nodes_in_lem (clear l i k) m)))
