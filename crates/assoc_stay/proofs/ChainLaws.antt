-- The order in which new parts take numbers: parts in that order, with the same members, are the same list. So the new parts
-- of a call are known by who they are.
use Prim.Native.Nat.{ℕ, zero, suc, ◌≤◌, ◌<◌}
use mathlib.Core.Path.{◌≡◌, refl, sym, ap, ap₂, ◌∙◌, subst}
use mathlib.Core.Bool.{Bool, true, false}
use mathlib.Core.List.{List, [], ◌∷◌, ◌++◌}
use mathlib.Core.Option.{Option, none, some}
use mathlib.Core.Logic.{◌⊎◌, inl, inr}
use native.Mathlib.Omega.{arith}
use lib.Dec.{ltb}
use borrow.Author.Tests.{ltb-true, ltb-false}
use Rattle.blocks.specs.Lists.{without, In, here, there}
use Rattle.blocks.proofs.BoolLaws.{clash, by_t}
use Rattle.blocks.proofs.ListLaws.{in_cons, in_without, All-without, look, each, in_append}
use Rattle.blocks.proofs.Ascending.{Asc, asc_end, asc_more, mem, mem_low}
use Rattle.assoc_tree.specs.Keys.{Item, Sorted}
use Rattle.assoc_tree.specs.Parts.{Part, top, block_of, part_at, cons_if, parts_in, blocks, parts_to, parts, has, new_parts, top_tier}
use Rattle.assoc_tree.proofs.PartLaws.{asc_blocks, part_at_lem, tier_in, to_in, in_parts, parts_in_lem}

-- wider first, then the lower block
abbrev pub Before : Part → Part → Type 0
Before p q = (top q < top p) ⊎ ((top p ≡ top q) × (block_of (top p) p.base < block_of (top q) q.base))

pub data Chain : List Part → Type 0 where
  c_end : Chain []
  c_more : {p : Part} {ps : List Part} → ((q : Part) → In q ps → Before p q) → Chain ps → Chain (p ∷ ps)

not_both : (p q : Part) → Before p q → Before q p → ⊥
not_both p q (inl a) (inl b) = omega arith
not_both p q (inl a) (inr b) = omega (arith, b.0)
not_both p q (inr a) (inl b) = omega (arith, a.0)
not_both p q (inr a) (inr b) = omega (arith, a.1, b.1)

pub not_self : (p : Part) → Before p p → ⊥
not_self p b = not_both p p b b

pub chain_ext : {s t : List Part} → Chain s → Chain t → ((p : Part) → In p s → In p t) → ((p : Part) → In p t → In p s) → s ≡ t
chain_ext c_end c_end f g = refl
chain_ext c_end (c_more {p} b d) f g = elim (g p here) [ ]
chain_ext (c_more {p} b d) c_end f g = elim (f p here) [ ]
chain_ext (c_more {p} {ps = s} b d) (c_more {p = q} {ps = t} a c) f g =
    let e : p ≡ q = heads (in_cons (f p here)) (in_cons (g q here)) in
    ap₂ ◌∷◌ e (chain_ext d c (λ r i. rest_f e r i (in_cons (f r (there i)))) (λ r i. rest_g e r i (in_cons (g r (there i)))))
  where
    heads : (p ≡ q) ⊎ In p t → (q ≡ p) ⊎ In q s → p ≡ q
    heads (inl e) m = e
    heads (inr i) (inl e) = sym e
    heads (inr i) (inr j) = absurd (not_both p q (b q j) (a p i))

    rest_f : p ≡ q → (r : Part) → In r s → (r ≡ q) ⊎ In r t → In r t
    rest_f e r i (inr j) = j
    rest_f e r i (inl j) = absurd (not_self p (subst (Before p) (j ∙ sym e) (b r i)))

    rest_g : p ≡ q → (r : Part) → In r t → (r ≡ p) ⊎ In r s → In r s
    rest_g e r i (inr j) = j
    rest_g e r i (inl j) = absurd (not_self q (subst (Before q) (j ∙ e) (a r i)))

pub chain_without : (q : Part → Bool) {s : List Part} → Chain s → Chain (without q s)
chain_without q c_end = c_end
chain_without q (c_more {p} {ps} b d) =
    by_t (q p) (λ t. rw t (chain_without q d))
    (λ t. rw t (c_more (λ r i. b r (look (All-without q (each ps (λ x k. k))) i).1) (chain_without q d)))

-- THE PARTS OF A TREE stand in this order
mem_high : {n : ℕ} {cs : List ℕ} (c : ℕ) → Asc n cs → mem c cs ≡ true → n ≤ c
mem_high {n} c a m = by_t (ltb c n) (λ t. absurd (clash m (mem_low c (ltb-true _ _ t) a))) (λ t. ltb-false _ _ t)

module _ (l : List Item) where
  pub chain_tier : (v : ℕ) {n : ℕ} {cs : List ℕ} (r : List Part) → Asc n cs → ((p : Part) → In p r → top p < v) → Chain r →
      Chain (parts_in l v cs ++ r)
  chain_tier v r asc_end f d = d
  chain_tier v r (asc_more {x = c} {s = cs} h a) f d = go (part_at l v c) refl (chain_tier v r a f d)
    where
      go : (o : Option Part) → part_at l v c ≡ o → Chain (parts_in l v cs ++ r) → Chain (cons_if l o (parts_in l v cs) ++ r)
      go none e t = t
      go (some p) e t = c_more (λ q i. after q (in_append (parts_in l v cs) i)) t
        where
          after : (q : Part) → In q (parts_in l v cs) ⊎ In q r → Before p q
          after q (inl i) =
              let (b, m, g) = tier_in l v cs q i in
              let (tp, bp, x) = part_at_lem l v c p e in
              let (tq, bq, y) = part_at_lem l v b q g in
              let bp' : block_of (top p) p.base ≡ c = ap (λ (u : ℕ). block_of u p.base) tp ∙ bp in
              let bq' : block_of (top q) q.base ≡ b = ap (λ (u : ℕ). block_of u q.base) tq ∙ bq in
              inr (tp ∙ sym tq, rw (bp', bq') (mem_high b a m))
          after q (inr i) = inl (omega (arith, f q i, (part_at_lem l v c p e).0))

  append-nil : (s : List Part) → s ++ [] ≡ s
  append-nil [] = refl
  append-nil (x ∷ s) = ap (λ (r : List Part). x ∷ r) (append-nil s)

  pub chain_to : (w : ℕ) → Chain (parts_to l w)
  chain_to zero = subst Chain (append-nil (parts_in l 0 (blocks 0 l))) (chain_tier 0 [] (asc_blocks 0 l) (λ p i. elim i [ ]) c_end)
  chain_to (suc w) = chain_tier (suc w) (parts_to l w) (asc_blocks (suc w) l) (λ p i. omega (arith, (to_in l w p i).0)) (chain_to w)

  pub chain_parts : Chain (parts l)
  chain_parts = chain_to top_tier

-- NEW PARTS by who they are
pub new_are : (l l' : List Item) (ts : List Part) → Sorted 0 l' → Chain ts →
    ((p : Part) → In p ts → (has l' p ≡ true) × (has l p ≡ false)) →
    ((p : Part) → has l' p ≡ true → has l p ≡ false → In p ts) → new_parts l l' ≡ ts
new_are l l' ts s c f g = chain_ext (chain_without (has l) (chain_parts l')) c
    (λ p i. let (b, m) = look (All-without (has l) (each (parts l') (λ x j. j))) i in g p (parts_in_lem l' p m) b)
    (λ p i. let (a, b) = f p i in in_without (has l) (in_parts l' s p a) b)
