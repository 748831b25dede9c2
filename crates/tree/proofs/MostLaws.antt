-- No store needs more than 21 nodes (R111): two of each tier up to 10, the chain to the new block and the one to the
-- old head, and one of tier 11, where both are block 0.
use Prim.Native.Nat.{ℕ, zero, suc, ◌*◌, ◌^◌, ◌≤◌, ◌<◌}
use mathlib.Core.Path.{◌≡◌, refl, sym, ap, subst}
use mathlib.Core.Bool.{Bool, true, false}
use mathlib.Core.List.{List, [], ◌∷◌, map}
use native.Mathlib.Omega.{arith}
use native.Mathlib.Nat.{div-eq_of_lt}
use lib.Dec.{leb, ltb, eqb, T}
use lib.ListN.{length, length-append}
use borrow.Author.Tests.{leb-true, leb-false, eqb-true}
use Rattle.blocks.specs.Blocks.{block}
use Rattle.blocks.specs.Choice.{both}
use Rattle.blocks.specs.Lists.{any}
use Rattle.blocks.proofs.BoolLaws.{by_t, both_r, T_true}
use Rattle.blocks.proofs.ListLaws.{All-map}
use Rattle.model.specs.declared.Entry.{Entry}
use Rattle.model.specs.Model.{
  Valid,
  max_order,
  aligned,
  matched_mark,
  storable,
  reserved_word,
  enterable,
  over,
  store,
  with_mark,
}
use Rattle.model.specs.Model as M
use Rattle.model.specs.ByBlock as B
use Rattle.model.specs.ByBlock.{store_new, with_word}
use Rattle.model.proofs.ValidLaws.{sorted_ok, store_at_valid}
use Rattle.model.proofs.AlignedLaws.{store_is, bare_is}
use Rattle.tree.specs.Tree.{at, add_if, height, tier_order, needed}
use Rattle.tree.proofs.HeightLaws.{fits_most, height_le}
use Rattle.tree.proofs.NewNodeLaws.{chained, missing, fresh_at, fresh_to, new_nodes_lem}
use Rattle.tree.proofs.RelabelLaws.{new_nodes_map, new_nodes_then}

at_length : (u : ℕ) (s : List ℕ) → length (at u s) ≡ length s
at_length u [] = refl
at_length u (x ∷ s) = ap suc (at_length u s)

two : (a b : Bool) (c : ℕ) → length (add_if a 0 (add_if b c [])) ≤ 2
two true true c =
    by_t (ltb 0 c) (λ t. rw t (omega arith))
    (λ t. by_t (eqb 0 c) (λ e. rw (t, e) (omega arith)) (λ e. rw (t, e) (omega arith)))
two true false c = omega arith
two false true c = omega arith
two false false c = omega arith

one : (a b : Bool) → length (add_if a 0 (add_if b 0 [])) ≤ 1
one true true = omega arith
one true false = omega arith
one false true = omega arith
one false false = omega arith

-- the new nodes of a store that makes an entry
module _ (l : List Entry) (i k : ℕ) where
  fresh_length : (u : ℕ) → length (fresh_to l i k u) ≤ 2 * u
  fresh_length zero = omega arith
  fresh_length (suc u) =
      let a = length-append (at (suc u) (fresh_at l i k (suc u))) (fresh_to l i k u) in
      let b = at_length (suc u) (fresh_at l i k (suc u)) in
      let c = two (chained l i k (suc u)) (missing l i k (suc u)) (block (tier_order (suc u)) i) in
      omega (arith, a, b, c, fresh_length u)

  fresh_top : i < 2 ^ 64 → length (fresh_to l i k 11) ≤ 21
  fresh_top h =
      let z : block (tier_order 11) i ≡ 0 = div-eq_of_lt (omega arith) in
      let a = length-append (at 11 (fresh_at l i k 11)) (fresh_to l i k 10) in
      let b = at_length 11 (fresh_at l i k 11) in
      let c : length (add_if (chained l i k 11) 0 (add_if (missing l i k 11) (block (tier_order 11) i) [])) ≤ 1 =
      subst (λ (x : ℕ). length (add_if (chained l i k 11) 0 (add_if (missing l i k 11) x [])) ≤ 1) (sym z)
      (one (chained l i k 11) (missing l i k 11)) in
      omega (arith, a, b, c, fresh_length 10)

  fresh_most : (u : ℕ) → i < 2 ^ 64 → u ≤ 11 → length (fresh_to l i k u) ≤ 21
  fresh_most u h le =
      by_t (leb u 10) (λ t. omega (arith, fresh_length u, leb-true u 10 t))
      (λ t. let e : u ≡ 11 = omega (arith, leb-false u 10 t) in
      subst (λ (x : ℕ). length (fresh_to l i k x) ≤ 21) (sym e) (fresh_top h))

by_block : {l : List Entry} (i k w : ℕ) → Valid l → i < 2 ^ 64 → k ≤ max_order → T (enterable k w) → w < 2 ^ 64 →
    needed l (B.store l i k w) ≤ 21
by_block {l} i k w v i< k≤ st w< =
    by_t (any (over i k) l)
    (λ t. let z : needed l (map (with_word i w) l) ≡ 0 =
    ap length (new_nodes_map (with_word i w) (λ x. refl) (λ x. refl) l) in
    rw t (omega (arith, z)))
    (λ t. let vs : Valid (store_new l i k w) = store_at_valid i k w l v t i< k≤ st w< in
    let h : height (store_new l i k w) ≤ 11 =
    height_le (All-map (λ x ok. fits_most x (ok.order_le, ok.in_range)) (sorted_ok vs)) in
    let e : needed l (store_new l i k w) ≡ length (fresh_to l i k (height (store_new l i k w))) =
    ap length (new_nodes_lem i k w l (All-map (λ x ok. (ok.order_le, ok.in_range)) (sorted_ok v))) in
    rw t (omega (arith, e, fresh_most l i k (height (store_new l i k w)) i< h)))

-- R111
pub needed_most : {l : List Entry} (i k w : ℕ) → aligned k i ≡ true → Valid l → i < 2 ^ 64 → k ≤ max_order →
    T (enterable k w) → w < 2 ^ 64 → needed l (store l i k w) ≤ 21
needed_most {l} i k w al v i< k≤ st w< =
    by_t (any (over i k) l)
    (λ t. let z : needed l (map (M.with_word i w) l) ≡ 0 =
    ap length (new_nodes_map (M.with_word i w) (λ x. refl) (λ x. refl) l) in
    rw t (omega (arith, z)))
    (λ t. by_t (storable w) (λ s. stored s) (λ s. rw (bare_is i k al l w (order_0 s) t) by_blocks))
  where
    by_blocks : needed l (B.store l i k w) ≤ 21
    by_blocks = by_block i k w v i< k≤ st w<

    stored : storable w ≡ true → needed l (store l i k w) ≤ 21
    stored s =
        rw (
          store_is i k al l w s,
          new_nodes_then (with_mark i matched_mark false) (λ x. refl) (λ x. refl) l (B.store l i k w),
        ) by_blocks

    order_0 : storable w ≡ false → k ≡ 0
    order_0 s = let h : T (both (eqb w reserved_word) (eqb k 0)) = rw s at st in
        eqb-true k 0 (both_r (eqb w reserved_word) _ (T_true _ h))
