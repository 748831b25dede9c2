-- The list of a tree's nodes: who is in it, and that none is in it twice.
use Prim.Native.Nat.{ℕ, ◌≤◌, ◌<◌}
use mathlib.Core.Path.{◌≡◌, sym, ◌∙◌}
use mathlib.Core.Bool.{Bool, true}
use mathlib.Core.List.{List}
use native.Mathlib.Omega.{arith}
use lib.Dec.{leb, ltb}
use borrow.Author.Tests.{leb-true, ltb-true, le-leb}
use Rattle.blocks.specs.Lists.{any, In, Distinct}
use Rattle.blocks.proofs.BoolLaws.{both_l, both_r}
use Rattle.blocks.proofs.ListLaws.{any_in_lem}
use Rattle.model.specs.declared.Entry.{Entry}
use Rattle.model.specs.Model.{within}
use Rattle.tree.specs.Tree.{has, height, Node, blocks, nodes_to, nodes, tier_order, top_tier}
use Rattle.blocks.proofs.Ascending.{Asc, mem}
use Rattle.tree.proofs.HeightLaws.{height_most}
use Rattle.blocks.proofs.TierLaws as T

-- an entry is finer than a block of a higher order
abbrev pub finer : ℕ → Entry → Bool
finer j e = ltb e.order j

pub asc_blocks : (u : ℕ) (l : List Entry) → Asc 0 (blocks u l)
asc_blocks u l = T.asc_blocks (λ e. e.base) finer (tier_order u) l

pub mem_blocks : (u b : ℕ) (l : List Entry) → mem b (blocks u l) ≡ any (within (tier_order u) b) l
mem_blocks u b l = T.mem_blocks (λ e. e.base) finer (tier_order u) b l

-- nothing is of a lower order than a block of tier 0
within_some : (l : List Entry) (u b : ℕ) → any (within (tier_order u) b) l ≡ true → 1 ≤ u
within_some l u b t =
    let (x, m, s) = any_in_lem (within (tier_order u) b) l t in
    let o : x.order < tier_order u = ltb-true _ _ (both_l (ltb x.order (tier_order u)) _ s) in omega arith

in_nodes_to : (l : List Entry) (h u b : ℕ) → u ≤ h → any (within (tier_order u) b) l ≡ true →
    In (record { tier = u; number = b }) (nodes_to h l)
in_nodes_to l h u b le t = T.in_nodes_from (λ v. blocks v l) h u b (within_some l u b t) le (mem_blocks u b l ∙ t)

pub nodes_to_in : (l : List Entry) (h : ℕ) {p : Node} → In p (nodes_to h l) →
    (p.tier ≤ h) × (any (within (tier_order p.tier) p.number) l ≡ true)
nodes_to_in l h {p} m = let (a, t) = T.nodes_from_in (λ v. blocks v l) h m in
    (a, sym (mem_blocks p.tier p.number l) ∙ t)

pub in_nodes : (l : List Entry) (u b : ℕ) → has l u b ≡ true → In (record { tier = u; number = b }) (nodes l)
unfolding has
in_nodes l u b t = in_nodes_to l (height l) u b (leb-true _ _ (both_l (leb u (height l)) _ t))
    (both_r (leb u (height l)) _ t)

pub nodes_in_lem : (l : List Entry) {p : Node} → In p (nodes l) → has l p.tier p.number ≡ true
unfolding has
nodes_in_lem l {p} m = let (a, b) = nodes_to_in l (height l) m in rw (le-leb p.tier (height l) a, b)

pub distinct_to : (l : List Entry) (h : ℕ) → Distinct (nodes_to h l)
distinct_to l h = T.distinct_from (λ v. blocks v l) (λ u. asc_blocks u l) h

-- WHAT A NODE SAYS
-- it is over some entry of a lower order
pub has_within : (l : List Entry) (u b : ℕ) → has l u b ≡ true → any (within (tier_order u) b) l ≡ true
unfolding has
has_within l u b t = both_r (leb u (height l)) (any (within (tier_order u) b) l) t

pub has_le : (l : List Entry) (u b : ℕ) → has l u b ≡ true → u ≤ height l
unfolding has
has_le l u b t = leb-true _ _ (both_l (leb u (height l)) _ t)

pub has_in : (l : List Entry) (u b : ℕ) → u ≤ height l → any (within (tier_order u) b) l ≡ true → has l u b ≡ true
unfolding has
has_in l u b h t = rw (le-leb u (height l) h, t)

pub has_some : (l : List Entry) (u b : ℕ) → has l u b ≡ true → 1 ≤ u
has_some l u b t = within_some l u b (has_within l u b t)

pub has_tier : (l : List Entry) (u b : ℕ) → has l u b ≡ true → (0 < u) × (u ≤ height l)
has_tier l u b t = (has_some l u b t, has_le l u b t)

pub has_low : (l : List Entry) (u b : ℕ) → has l u b ≡ true → u ≤ top_tier
has_low l u b t = omega (arith, has_le l u b t, height_most l)
