-- The nodes that a store makes, tier by tier: one of block 0 above the old head, where anything stays, and one on
-- the path.
use Prim.Native.Nat.{ℕ, zero, suc, ◌*◌, ◌^◌, ◌<◌}
use mathlib.Core.Path.{◌≡◌, refl, sym, ap, ◌∙◌}
use mathlib.Core.Bool.{Bool, true, false, not}
use mathlib.Core.List.{List, [], ◌∷◌, ◌++◌}
use native.Mathlib.Omega.{arith}
use native.Mathlib.Nat.{le_refl}
use lib.Dec.{ltb, eqb}
use borrow.Author.Tests.{eqb-true, ltb-true, ltb-false, lt-ltb, le-leb, lt-leb}
use Rattle.blocks.specs.Choice.{both, either}
use Rattle.blocks.specs.Lists.{any, without, All, nonempty}
use Rattle.blocks.specs.Blocks.{block}
use Rattle.blocks.proofs.BoolLaws.{clash, by_t, both_no, both_yes, either_comm, either_yes, either_no}
use Rattle.blocks.proofs.ListLaws.{All-map, All-without, any_same, any_split}
use Rattle.blocks.proofs.BlockLaws.{block_up, block_at}
use Rattle.model.specs.declared.Entry.{Entry}
use Rattle.model.specs.Model.{starts, within}
use Rattle.model.specs.ByBlock.{clear, new_entry, store_new}
use Rattle.model.proofs.InsertLaws.{any_insert}
use Rattle.tree.specs.Tree.{height, has, add_if, blocks, Node, at, nodes_to, new_nodes, tier_order}
use Rattle.tree.proofs.HeightLaws.{Low, height_fits, fits_order, fits_base, zero_up}
use Rattle.blocks.proofs.Ascending.{mem_add_if, ext, mem_without, asc_without, asc_add_if, asc_end}
use Rattle.tree.proofs.NodeListLaws.{mem_blocks, asc_blocks}

module _ (l : List Entry) (i k : ℕ) where
  -- the head grows over what stays, and the path's node of tier u is not there
  abbrev pub chained : ℕ → Bool
  chained u = both (ltb (height l) u) (nonempty (clear l i k))

  abbrev pub missing : ℕ → Bool
  missing u = both (ltb k (tier_order u)) (not (has l u (block (tier_order u) i)))

  abbrev pub fresh_at : ℕ → List ℕ
  fresh_at u = add_if (chained u) 0 (add_if (missing u) (block (tier_order u) i) [])

  abbrev pub fresh_to : ℕ → List Node
  fresh_to zero = []
  fresh_to (suc u) = at (suc u) (fresh_at (suc u)) ++ fresh_to u

without_append : {A : Type 0} (p : A → Bool) (s t : List A) → without p (s ++ t) ≡ without p s ++ without p t
without_append p [] t = refl
without_append p (x ∷ s) t = by_t (p x) (λ e. rw (e, without_append p s t)) (λ e. rw (e, without_append p s t))

without_at : (p : Node → Bool) (u : ℕ) (s : List ℕ) → without p (at u s) ≡ at u
    (without (λ b. p (record { tier = u; number = b })) s)
without_at p u [] = refl
without_at p u (b ∷ s) = by_t (p (record { tier = u; number = b })) (λ e. rw (e, without_at p u s))
    (λ e. rw (e, without_at p u s))

pub any_const : (t : Bool) (l : List Entry) → any (λ x. t) l ≡ both (nonempty l) t
any_const t [] = refl
any_const true (x ∷ l) = refl
any_const false (x ∷ l) = any_const_no l
  where
    any_const_no : (l : List Entry) → any (λ x. false) l ≡ false
    any_const_no [] = refl
    any_const_no (x ∷ l) = any_const_no l

known : (W W₀ e a K : Bool) → (e ≡ true → W₀ ≡ W) → (K ≡ true → W ≡ true) →
    both (not W) (either (both a e) K) ≡ either (both (both a (not W₀)) e) false
known true W₀ true a K f g = rw (f refl, both_no a)
known true W₀ false a K f g = rw (both_no (both a (not W₀)))
known false W₀ true a true f g = absurd (clash (g refl) refl)
known false W₀ true a false f g = rw (f refl) (ap (λ t. either t false) (sym (both_yes (both a true))))
known false W₀ false a true f g = absurd (clash (g refl) refl)
known false W₀ false a false f g = rw (both_no (both a (not W₀)), both_no a)

module _ (i k w : ℕ) (l : List Entry) (low : All Low l) where
  new_within : (u b : ℕ) → within (tier_order u) b (new_entry l i k w) ≡ both (ltb k (tier_order u))
      (eqb (block (tier_order u) i) b)
  new_within u b =
      by_t (ltb k (tier_order u)) (λ t. rw (
        t,
        block_up {k = tier_order u} (block k i * 2 ^ k) i
            (let h : k < tier_order u = ltb-true _ _ t in omega arith) (block_at k (block k i)),
      )) (λ t. rw t)

  -- above the old head everything that stays lies in block 0
  chain : (u b : ℕ) → height l < u → any (within (tier_order u) b) (clear l i k) ≡ both (nonempty (clear l i k))
      (eqb 0 b)
  chain u b h =
      any_same (within (tier_order u) b) (λ x. eqb 0 b)
      (All-map (λ x f. rw (
        lt-ltb x.order (tier_order u) (omega (arith, fits_order (height l) x f.1)),
        zero_up {j = tier_order (height l)} {k = tier_order u} x.base (omega arith)
            (fits_base (height l) x f.1),
      ))
      (All-without (starts k (block k i)) (height_fits low (le_refl _))))
      ∙ any_const (eqb 0 b) (clear l i k)

  fresh_mem : (u b : ℕ) → both (not (has l u b)) (any (within (tier_order u) b) (store_new l i k w)) ≡ either
      (both (chained l i k u) (eqb 0 b)) (either (both (missing l i k u) (eqb (block (tier_order u) i) b)) false)
  unfolding has
  fresh_mem u b =
      rw (any_insert, new_within u b)
      (by_t (ltb (height l) u)
      (λ t. rw (
        t,
        lt-leb u (height l) (ltb-true _ _ t),
        chain u b (ltb-true _ _ t),
        both_yes (ltb k (tier_order u)),
        either_no (both (ltb k (tier_order u)) (eqb (block (tier_order u) i) b)),
      )
      (either_comm (both (ltb k (tier_order u)) (eqb (block (tier_order u) i) b))
      (both (nonempty (clear l i k)) (eqb 0 b))))
      (λ t. rw (t, le-leb u (height l) (ltb-false _ _ t))
      (known (any (within (tier_order u) b) l) (any (within (tier_order u) (block (tier_order u) i)) l)
      (eqb (block (tier_order u) i) b) (ltb k (tier_order u)) (any (within (tier_order u) b) (clear l i k))
      (λ e. ap (λ c. any (within (tier_order u) c) l) (eqb-true (block (tier_order u) i) b e))
      (λ e. sym (any_split (within (tier_order u) b) (starts k (block k i)) l) ∙ rw (e, either_yes)))))

  fresh_at_lem : (u : ℕ) → without (λ b. has l u b) (blocks u (store_new l i k w)) ≡ fresh_at l i k u
  fresh_at_lem u =
      ext (asc_without (λ b. has l u b) (asc_blocks u (store_new l i k w)))
      (asc_add_if (chained l i k u) 0 (asc_add_if (missing l i k u) _ asc_end))
      (λ b. rw (
        mem_without (λ b. has l u b) b,
        mem_blocks u b,
        mem_add_if (chained l i k u) b 0,
        mem_add_if (missing l i k u) b,
      ) (fresh_mem u b))

  fresh_to_lem : (u : ℕ) → without (λ p. has l p.tier p.number) (nodes_to u (store_new l i k w)) ≡ fresh_to l i k u
  fresh_to_lem zero = refl
  fresh_to_lem (suc u) = rw (without_append, without_at, fresh_at_lem (suc u), fresh_to_lem u)

  pub new_nodes_lem : new_nodes l (store_new l i k w) ≡ fresh_to l i k (height (store_new l i k w))
  new_nodes_lem = fresh_to_lem (height (store_new l i k w))
