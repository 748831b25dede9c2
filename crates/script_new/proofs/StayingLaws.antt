-- A node of the tree after a store of a new entry that is not on the path nor between the heads: it lies apart from the
-- range, was there before, and was and is not the head.
use Prim.Native.Nat.{ℕ, ◌/◌, ◌≤◌, ◌<◌}
use mathlib.Core.Path.{◌≡◌, refl, sym, ap, subst, ◌∙◌}
use mathlib.Core.Bool.{true, false}
use mathlib.Core.Logic.{inl, inr, ◌≢◌}
use mathlib.Core.List.{List}
use mathlib.Core.Option.{Option}
use native.Mathlib.Omega.{arith}
use native.Mathlib.Nat.{le_refl}
use Rattle.blocks.specs.Lists.{nonempty}
use Rattle.blocks.specs.Blocks.{block}
use Rattle.blocks.proofs.BoolLaws.{by_t}
use Rattle.blocks.proofs.ListLaws.{any_in_lem, look}
use Rattle.model.specs.declared.Entry.{Entry}
use Rattle.model.specs.Model.{Valid, within}
use Rattle.model.specs.ByBlock.{store_new}
use Rattle.model.proofs.RangeLaws.{Apart, Inside}
use Rattle.tree.specs.Tree.{slot_bits, tier_order, height, has}
use Rattle.tree.proofs.HeightLaws.{height_fits, fits_base}
use Rattle.tree.proofs.NodeListLaws.{has_within, has_tier}
use Rattle.tree.proofs.StoreLaws.{within_only}
use Rattle.tree.proofs.ChangeLaws.{store_lost}
use Rattle.layout.specs.WellFormed.{WellFormed}
use Rattle.lookup.proofs.StepLaws.{in_nonempty}
use Rattle.plan.specs.Plan.{NewStore}
use Rattle.plan.proofs.AfterStoreLaws.{rooms, has_path, has_zero, new_lies, fresh_node, path_zero, apart_zero}
use Rattle.script_rows.proofs.HeadLaws.{lows}
use Rattle.script_new.specs.New.{NewList, Chained, InChain}

-- the head is the node of block 0
pub head_zero : {l : List Entry} → Valid l → (c : ℕ) → has l (height l) c ≡ true → c ≡ 0
head_zero {l} v c t =
    let (x, m, e) = any_in_lem (within (tier_order (height l)) c) l (has_within l (height l) c t) in
    sym (within_only (tier_order (height l)) c x e) ∙ fits_base (height l) x (look (height_fits (lows v) (le_refl (height l))) m)

-- a tree with a node has an entry
node_entry : (l : List Entry) (u c : ℕ) → has l u c ≡ true → nonempty l ≡ true
node_entry l u c t = in_nonempty (any_in_lem (within (tier_order u) c) l (has_within l u c t)).1

-- the node (u, c) is as it was: not the head, and apart from the range
pub record Staying (i k : ℕ) (l l' : List Entry) (u c : ℕ) : Type 0 where
  pub apart : Apart i k (tier_order u) c
  pub before : has l u c ≡ true
  pub not_old : u ≢ height l
  pub not_new : u ≢ height l'

module _ {ws : List ℕ} (s : WellFormed ws) {i k w m : ℕ} {o : Option Entry} {l' : List Entry}
    (new : NewStore s.list i k w) (nl : NewList s i k w m o l') where
  abbrev l : List Entry
  l = s.list

  abbrev l₁ : List Entry
  l₁ = store_new l i k w

  -- NODES WITH A ROW are there
  pub path_there_lem : (u : ℕ) → k / slot_bits < u → u ≤ height l' → has l' u (block (tier_order u) i) ≡ true
  path_there_lem u a z = nl.same_has u (block (tier_order u) i) ∙ has_path new u (omega arith) (omega (arith, nl.same_height))

  pub chain_there : Chained s i k l' → (u : ℕ) → InChain s l' u → has l' u 0 ≡ true
  chain_there c u q =
      let e : height l' ≡ height l₁ = nl.same_height in
      let g : height l < height l' = c.grows in
      let b : u < height l' = q.below in
      nl.same_has u 0 ∙ has_zero new (omega arith) u q.from_head q.node (omega arith) c.some_old c.beside

  -- A NODE THAT IS GONE lay inside the range
  pub lost : (u c : ℕ) → has l u c ≡ true → has l' u c ≡ false → (tier_order u ≤ k) × Inside i k (tier_order u) c
  lost u c t n = store_lost i k w l new.index_fits new.order_le (rooms new) u c t (sym (nl.same_has u c) ∙ n)

  -- THE OTHERS
  module _ (u c : ℕ) (t : has l' u c ≡ true) (no_path : k / slot_bits < u → u ≤ height l' → c ≡ block (tier_order u) i → ⊥)
      (no_chain : Chained s i k l' → InChain s l' u → c ≡ 0 → ⊥) where
    le : u ≤ height l'
    le = (has_tier l' u c t).1

    t₁ : has l₁ u c ≡ true
    t₁ = sym (nl.same_has u c) ∙ t

    is_apart : Apart i k (tier_order u) c
    is_apart = elim (new_lies new u c t₁) [
      | inl p ↦ absurd (let g : k < tier_order u = p.0 in no_path (omega arith) le p.1)
      | inr a ↦ a
    ]

    -- the new head is on the path
    not_top : u ≢ height l'
    not_top e =
        let z : c ≡ 0 = head_zero nl.valid c (subst (λ (v : ℕ). has l' v c ≡ true) e t) in
        let y : block (tier_order u) i ≡ 0 = ap (λ (v : ℕ). block (tier_order v) i) (e ∙ nl.same_height) ∙ path_zero new in
        is_apart i (y ∙ sym z) refl

    -- a node of block 0 from the old head up is between the heads
    not_between : height l ≤ u → nonempty l ≡ true → c ≡ 0 → ⊥
    not_between h e z =
        let b : u < height l' = omega (arith, le, not_top) in
        let q : height l' ≡ height l₁ = nl.same_height in
        no_chain (record {
          grows = omega arith;
          some_old = e;
          beside = apart_zero new (omega arith) u (subst (λ (d : ℕ). Apart i k (tier_order u) d) z is_apart);
        })
        (record { from_head = h; node = (has_tier l' u c t).0; below = b }) z

    was_there : has l u c ≡ true
    was_there =
        by_t (has l u c) (λ y. y)
        (λ f. absurd (elim (fresh_node new u c t₁ f) [
          | inl p ↦ is_apart i (sym p.2) refl
          | inr p ↦ not_between (let h : height l < u = p.0 in omega arith) p.1 p.2
        ]))

    not_head : u ≢ height l
    not_head e = not_between (omega arith) (node_entry l u c was_there)
        (head_zero s.valid c (subst (λ (v : ℕ). has l v c ≡ true) e was_there))

    pub staying : Staying i k l l' u c
    staying = record { apart = is_apart; before = was_there; not_old = not_head; not_new = not_top }
