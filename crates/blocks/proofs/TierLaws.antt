-- Nodes by block, over the bits of a slot and over what lies in a block: once for trees of 64 slots and of 16.
use Prim.Native.Nat.{ℕ, zero, suc, ◌*◌, ◌/◌, ◌^◌, ◌≤◌, ◌<◌}
use mathlib.Core.Path.{◌≡◌, refl, sym, ap, subst, ◌∙◌}
use mathlib.Core.Bool.{Bool, true}
use mathlib.Core.List.{List, [], ◌∷◌, ◌++◌, map}
use mathlib.Core.Logic.{◌⊎◌, inl, inr}
use native.Mathlib.Omega.{arith}
use native.Mathlib.Nat.{mul-suc, div-div-eq-div-mul, le_refl}
use lib.Dec.{eqb}
use borrow.Author.Tests.{eqb-true, eqb-false, eq-eqb}
use Rattle.blocks.specs.Choice.{both, either}
use Rattle.blocks.specs.Lists.{any, All, In, here, there, Distinct, d_end, d_more}
use Rattle.blocks.specs.Blocks.{block}
use Rattle.blocks.proofs.BoolLaws.{clash, by_t, both_l, both_r, either_e, either_yes}
use Rattle.blocks.proofs.ListLaws.{any_more, look, each, in_left, in_right, in_append}
use Rattle.blocks.proofs.BlockLaws.{pow-add, block_up}
use Rattle.blocks.specs.Tiers.{blocks_of, Node, at, nodes_from}
use Rattle.blocks.proofs.Ascending.{Asc, asc_end, asc_more, asc_add_if, mem, mem_add_if, mem_low}

-- the block above
pub tier_up : (bits u x : ℕ) → block (bits * suc u) x ≡ block (bits * u) x / 2 ^ bits
tier_up bits u x =
    ap (λ (j : ℕ). x / 2 ^ j) (mul-suc bits u) ∙ ap (λ (d : ℕ). x / d) (sym (pow-add (bits * u) bits)) ∙ sym
    (div-div-eq-div-mul x (2 ^ (bits * u)) (2 ^ bits))

-- WHAT LIES IN A BLOCK
-- `base x` is where an element lies, `finer j x` that it is finer than a block of order j
module _ {A : Type 0} (base : A → ℕ) (finer : ℕ → A → Bool) where
  -- it lies in block c of order j, and is finer
  abbrev pub lies : ℕ → ℕ → A → Bool
  lies j c x = both (finer j x) (eqb (block j (base x)) c)

  pub lies_only : (j c : ℕ) (x : A) → lies j c x ≡ true → block j (base x) ≡ c
  lies_only j c x t = eqb-true _ _ (both_r (finer j x) _ t)

  pub lies_finer : (j c : ℕ) (x : A) → lies j c x ≡ true → finer j x ≡ true
  lies_finer j c x t = both_l (finer j x) _ t

  -- what lies on the way to an index lies on the way above
  pub lies_above : (i : ℕ) {j k : ℕ} (l : List A) → j ≤ k → ((x : A) → finer j x ≡ true → finer k x ≡ true) →
      any (lies j (block j i)) l ≡ true → any (lies k (block k i)) l ≡ true
  lies_above i {j} {k} l h f t = any_more (lies j (block j i)) (lies k (block k i)) l
      (λ x s. rw (
        f x (lies_finer j (block j i) x s),
        eq-eqb _ _ (block_up {j = j} {k = k} (base x) i h (lies_only j (block j i) x s)),
      )) t

  -- what lies in a slot of a node lies in the node's block
  pub lies_up : (bits u b : ℕ) (l : List A) →
      ((x : A) → finer (bits * u) x ≡ true → finer (bits * suc u) x ≡ true) →
      any (lies (bits * u) b) l ≡ true → any (lies (bits * suc u) (b / 2 ^ bits)) l ≡ true
  lies_up bits u b l f t = any_more (lies (bits * u) b) (lies (bits * suc u) (b / 2 ^ bits)) l
      (λ x s. rw (
        f x (lies_finer (bits * u) b x s),
        eq-eqb (block (bits * suc u) (base x)) (b / 2 ^ bits)
            (tier_up bits u (base x) ∙ ap (λ (c : ℕ). c / 2 ^ bits) (lies_only (bits * u) b x s)),
      )) t

  -- THE BLOCKS OF A TIER
  pub asc_blocks : (j : ℕ) (l : List A) → Asc 0 (blocks_of base finer j l)
  asc_blocks j [] = asc_end
  asc_blocks j (x ∷ l) = asc_add_if (finer j x) _ (asc_blocks j l)

  pub mem_blocks : (j b : ℕ) (l : List A) → mem b (blocks_of base finer j l) ≡ any (lies j b) l
  mem_blocks j b [] = refl
  mem_blocks j b (x ∷ l) = mem_add_if (finer j x) b (block j (base x)) (blocks_of base finer j l) ∙ ap
      (either (lies j b x)) (mem_blocks j b l)

  -- a map that leaves everything where it lies leaves the blocks
  pub blocks_map : (f : A → A) → ((x : A) → base (f x) ≡ base x) → ((j : ℕ) (x : A) → finer j (f x) ≡ finer j x) →
      (j : ℕ) (l : List A) → blocks_of base finer j (map f l) ≡ blocks_of base finer j l
  blocks_map f fb ff j [] = refl
  blocks_map f fb ff j (x ∷ l) = rw (fb x, ff j x, blocks_map f fb ff j l)

-- THE NODES, where `bs u` are the blocks of tier u
pub in_at : (u b : ℕ) (s : List ℕ) → mem b s ≡ true → In (record { tier = u; number = b }) (at u s)
in_at u b [] t = absurd (clash t refl)
in_at u b (c ∷ s) t =
    either_e (eqb c b) (mem b s) t (λ e. subst (λ (d : ℕ). In (record { tier = u; number = d }) (at u (c ∷ s)))
    (eqb-true _ _ e) here) (λ e. there (in_at u b s e))

pub at_in : (u : ℕ) (s : List ℕ) {p : Node} → In p (at u s) → (p.tier ≡ u) × (mem p.number s ≡ true)
at_in u [] {p = p} x' = elim x' [ ]
at_in u (c ∷ s) here = (refl, rw (eq-eqb c c refl))
at_in u (c ∷ s) (there m) = let (e, t) = at_in u s m in (e, rw (t, either_yes))

distinct_at : (u : ℕ) {n : ℕ} {s : List ℕ} {r : List Node} → Asc n s → All (λ p. p.tier < u) r → Distinct r →
    Distinct (at u s ++ r)
distinct_at u asc_end a d = d
distinct_at u {r} (asc_more {x} {s} h c) a d = d_more (λ k. out (in_append (at u s) k)) (distinct_at u c a d)
  where
    out : In (record { tier = u; number = x }) (at u s) ⊎ In (record { tier = u; number = x }) r → ⊥
    out (inl k) = clash (at_in u s k).1 (mem_low x (le_refl _) c)
    out (inr k) = omega (arith, look a k)

module _ (bs : ℕ → List ℕ) where
  pub in_nodes_from : (h u b : ℕ) → 0 < u → u ≤ h → mem b (bs u) ≡ true →
      In (record { tier = u; number = b }) (nodes_from bs h)
  in_nodes_from zero u b pos le t = absurd (omega arith)
  in_nodes_from (suc h) u b pos le t =
      by_t (eqb u (suc h))
      (λ e. subst (λ (v : ℕ). In (record { tier = u; number = b }) (at v (bs v) ++ nodes_from bs h)) (eqb-true _ _ e)
      (in_left (nodes_from bs h) (in_at u b (bs u) t)))
      (λ e. let ne : u ≡ suc h → ⊥ = eqb-false _ _ e in in_right (at (suc h) (bs (suc h)))
      (in_nodes_from h u b pos (omega arith) t))

  pub nodes_from_in : (h : ℕ) {p : Node} → In p (nodes_from bs h) →
      (p.tier ≤ h) × (mem p.number (bs p.tier) ≡ true)
  nodes_from_in zero m = elim m [ ]
  nodes_from_in (suc h) {p} m = go (in_append (at (suc h) (bs (suc h))) m) (λ k. nodes_from_in h k)
    where
      go : In p (at (suc h) (bs (suc h))) ⊎ In p (nodes_from bs h) →
          (In p (nodes_from bs h) → (p.tier ≤ h) × (mem p.number (bs p.tier) ≡ true)) →
          (p.tier ≤ suc h) × (mem p.number (bs p.tier) ≡ true)
      go (inl k) f = let (e, t) = at_in (suc h) (bs (suc h)) k in (omega arith, rw e t)
      go (inr k) f = let (le, t) = f k in (omega arith, t)

  pub distinct_from : ((u : ℕ) → Asc 0 (bs u)) → (h : ℕ) → Distinct (nodes_from bs h)
  distinct_from a zero = d_end
  distinct_from a (suc h) = distinct_at (suc h) (a (suc h))
      (each (nodes_from bs h) (λ p k. omega (arith, (nodes_from_in h k).0))) (distinct_from a h)

pub nodes_from_same : (bs cs : ℕ → List ℕ) → ((u : ℕ) → bs u ≡ cs u) → (h : ℕ) → nodes_from bs h ≡ nodes_from cs h
nodes_from_same bs cs f zero = refl
nodes_from_same bs cs f (suc h) = rw (f (suc h), nodes_from_same bs cs f h)
