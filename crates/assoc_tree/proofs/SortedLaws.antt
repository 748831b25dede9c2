-- Sorted lists: one key more, a part of one, and that the members fix the list.
use Prim.Native.Nat.{ℕ, suc, ◌≤◌}
use mathlib.Core.Path.{◌≡◌, refl, sym, ap, ap₂, ◌∙◌, subst}
use mathlib.Core.Bool.{Bool, true}
use mathlib.Core.List.{List, [], ◌∷◌}
use mathlib.Core.Logic.{◌⊎◌, inl, inr}
use native.Mathlib.Omega.{arith}
use native.Mathlib.Nat.{le_trans}
use lib.Dec.{ltb, eqb}
use borrow.Author.Tests.{eqb-true, eqb-false, ltb-true, ltb-false}
use Rattle.blocks.specs.Lists.{In, here, there, keep}
use Rattle.blocks.proofs.BoolLaws.{by_t}
use Rattle.blocks.proofs.ListLaws.{in_cons}
use Rattle.assoc_tree.specs.Keys.{Item, insert, is_item, Sorted, done, more}
use Rattle.assoc_tree.proofs.KeyLaws.{sorted_in}

-- SORTED LISTS
pub sorted_low : {n m : ℕ} {l : List Item} → m ≤ n → Sorted n l → Sorted m l
sorted_low h done = done
sorted_low h (more g t s) = more (le_trans h g) t s

pub sorted_insert : {n : ℕ} {l : List Item} (e : Item) → n ≤ e.key → is_item e ≡ true → Sorted n l → Sorted n (insert e l)
sorted_insert e h t done = more h t done
sorted_insert e h t (more {x} {l} g u s) =
    by_t (ltb e.key x.key) (λ c. rw c (more h t (more (ltb-true _ _ c) u s)))
    (λ c. by_t (eqb e.key x.key)
    (λ d. rw (c, d) (more h t (subst (λ (y : ℕ). Sorted (suc y) l) (sym (eqb-true _ _ d)) s)))
    (λ d. rw (c, d) (more g u (sorted_insert e (let ne : e.key ≡ x.key → ⊥ = eqb-false _ _ d in
    omega (arith, ltb-false e.key x.key c)) t s))))

pub in_insert : (e : Item) (l : List Item) {x : Item} → In x (insert e l) → (x ≡ e) ⊎ In x l
in_insert e [] m = elim (in_cons m) [ inl a ↦ inl a | inr b ↦ inr b ]
in_insert e (y ∷ l) {x} m =
    by_t (ltb e.key y.key) (λ c. elim (in_cons (rw c at m)) [ inl a ↦ inl a | inr b ↦ inr b ])
    (λ c. by_t (eqb e.key y.key) (λ d. elim (in_cons (rw (c, d) at m)) [ inl a ↦ inl a | inr b ↦ inr (there b) ])
    (λ d. elim (in_cons (rw (c, d) at m)) [
      | inl a ↦ inr (subst (λ (z : Item). In z (y ∷ l)) (sym a) here)
      | inr b ↦ elim (in_insert e l b) [ inl a ↦ inl a | inr k ↦ inr (there k) ]
    ]))

pub insert_in : (e : Item) (l : List Item) → In e (insert e l)
insert_in e [] = here
insert_in e (y ∷ l) =
    by_t (ltb e.key y.key) (λ c. rw c here)
    (λ c. by_t (eqb e.key y.key) (λ d. rw (c, d) here) (λ d. rw (c, d) (there (insert_in e l))))

pub insert_stays : (e : Item) (l : List Item) {x : Item} → In x l → (x.key ≡ e.key → ⊥) → In x (insert e l)
insert_stays e [] {x = x} m n = elim m [ ]
insert_stays e (y ∷ l) {x} m n =
    by_t (ltb e.key y.key) (λ c. rw c (there m))
    (λ c. by_t (eqb e.key y.key)
    (λ d. rw (c, d) (elim (in_cons m) [
      | inl a ↦ absurd (n (ap (λ (z : Item). z.key) a ∙ sym (eqb-true _ _ d)))
      | inr b ↦ there b
    ]))
    (λ d. rw (c, d) (elim (in_cons m) [
      | inl a ↦ subst (λ (z : Item). In z (y ∷ insert e l)) (sym a) here
      | inr b ↦ there (insert_stays e l b n)
    ])))

-- the same members, the same list
pub sorted_ext : {n m : ℕ} {l t : List Item} → Sorted n l → Sorted m t → ((x : Item) → In x l → In x t) → ((x : Item) → In x t → In x l) →
    l ≡ t
sorted_ext done done f g = refl
sorted_ext done (more {x} h u s) f g = elim (g x here) [ ]
sorted_ext (more {x} h u s) done f g = elim (f x here) [ ]
sorted_ext (more {x} {l} h u s) (more {x = y} {l = t} k v r) f g =
    let q : x ≡ y = first_same (in_cons (f x here)) (in_cons (g y here)) in
    ap₂ ◌∷◌ q (sorted_ext s r
    (λ z i. rest_f z i (in_cons (f z (there i)))) (λ z i. rest_g z i (in_cons (g z (there i)))))
  where
    first_same : (x ≡ y) ⊎ In x t → (y ≡ x) ⊎ In y l → x ≡ y
    first_same (inl a) b = a
    first_same (inr a) (inl b) = sym b
    first_same (inr a) (inr b) = absurd (omega (arith, (sorted_in r a).0, (sorted_in s b).0))

    rest_f : (z : Item) → In z l → (z ≡ y) ⊎ In z t → In z t
    rest_f z i (inr a) = a
    rest_f z i (inl a) =
        let e : z.key ≡ y.key = ap (λ (w : Item). w.key) a in
        elim (in_cons (f x here)) [
          | inl b ↦ (let d : x.key ≡ y.key = ap (λ (w : Item). w.key) b in absurd (omega (arith, (sorted_in s i).0)))
          | inr b ↦ absurd (omega (arith, (sorted_in s i).0, (sorted_in r b).0))
        ]

    rest_g : (z : Item) → In z t → (z ≡ x) ⊎ In z l → In z l
    rest_g z i (inr a) = a
    rest_g z i (inl a) =
        let e : z.key ≡ x.key = ap (λ (w : Item). w.key) a in
        elim (in_cons (g y here)) [
          | inl b ↦ (let d : y.key ≡ x.key = ap (λ (w : Item). w.key) b in absurd (omega (arith, (sorted_in r i).0)))
          | inr b ↦ absurd (omega (arith, (sorted_in r i).0, (sorted_in s b).0))
        ]

pub sorted_keep : (p : Item → Bool) {k : ℕ} {l : List Item} → Sorted k l → Sorted k (keep p l)
sorted_keep p done = done
sorted_keep p (more {x} h t s) =
    by_t (p x) (λ c. rw c (more h t (sorted_keep p s))) (λ c. rw c (sorted_low (omega arith) (sorted_keep p s)))
