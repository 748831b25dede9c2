-- Laws of lists and of searches in them.
use Prim.Native.Nat.{ℕ, zero, suc, ◌≤◌}
use mathlib.Core.Path.{◌≡◌, refl, subst}
use mathlib.Core.Bool.{Bool, true, false}
use mathlib.Core.List.{List, [], ◌∷◌, ◌++◌}
use mathlib.Core.Option.{none, some}
use mathlib.Core.Logic.{◌⊎◌, inl, inr}
use native.Mathlib.Omega.{arith}
use lib.Dec.{eqb}
use lib.ListN.{length, get_or}
use borrow.Author.Tests.{eqb-true, eq-eqb}
use Rattle.blocks.specs.Choice.{both, either}
use Rattle.blocks.specs.Lists.{any, equal, keep, without, first, In, All, end, also, here, there, Distinct, d_end, d_more}
use Rattle.blocks.proofs.BoolLaws.{clash, by_t, both_i, both_l, both_r, either_swap, either_yes, is_false, either_e}

module _ {A : Type 0} where
  pub All-of : {P : A → Type 0} → ((x : A) → P x) → (l : List A) → All P l
  All-of f [] = end
  All-of f (x ∷ l) = also (f x) (All-of f l)

  pub All-map : {P Q : A → Type 0} {l : List A} → ((x : A) → P x → Q x) → All P l → All Q l
  All-map f end = end
  All-map f (also h a) = also (f _ h) (All-map f a)

  pub All-without : {P : A → Type 0} (p : A → Bool) {l : List A} → All P l →
      All (λ x. (p x ≡ false) × P x) (without p l)
  All-without p end = end
  All-without p (also {x} {l} h a) = by_t (p x) (λ e. rw e (All-without p a))
      (λ e. rw e (also (e, h) (All-without p a)))

  pub All-keep : {P : A → Type 0} (p : A → Bool) {l : List A} → All P l → All (λ x. (p x ≡ true) × P x) (keep p l)
  All-keep p end = end
  All-keep p (also {x} {l} h a) = by_t (p x) (λ e. rw e (also (e, h) (All-keep p a))) (λ e. rw e (All-keep p a))

  pub any_none : (p : A → Bool) {l : List A} → All (λ x. p x ≡ true → ⊥) l → any p l ≡ false
  any_none p end = refl
  any_none p (also {x} h a) = rw (is_false h, any_none p a)

  pub any_no : (p : A → Bool) (l : List A) → any p l ≡ false → All (λ x. p x ≡ false) l
  any_no p [] t = end
  any_no p (x ∷ l) t = by_t (p x) (λ e. absurd (clash (rw e) t)) (λ e. also e (any_no p l (rw e at t)))

  pub first_no : (p : A → Bool) (l : List A) → first p l ≡ none → All (λ x. p x ≡ false) l
  first_no p [] t = end
  first_no p (x ∷ l) t =
      by_t (p x) (λ e. let z : ◌≡◌ {A = ℕ} 0 1 = cc e in absurd (omega arith)) (λ e. also e (first_no p l (rw e at t)))

  pub first_same : (p q : A → Bool) {l : List A} → All (λ x. p x ≡ q x) l → first p l ≡ first q l
  first_same p q end = refl
  first_same p q (also h a) = rw (h, first_same p q a)

  pub All-both : {P Q : A → Type 0} {l : List A} → All P l → All Q l → All (λ x. P x × Q x) l
  All-both end end = end
  All-both (also p a) (also q b) = also (p, q) (All-both a b)

  pub any_yes : (p : A → Bool) {P : A → Type 0} {l : List A} → All P l → any p l ≡ true → (x : A) × (p x ≡ true) × P x
  any_yes p end t = absurd (clash t refl)
  any_yes p (also {x} {l} h a) t = either_e (p x) (any p l) t (λ s. (x, s, h)) (λ s. any_yes p a s)

  pub any_without : (p q : A → Bool) {l : List A} → All (λ x. p x ≡ true → q x ≡ true → ⊥) l →
      any p (without q l) ≡ any p l
  any_without p q end = refl
  any_without p q (also {x} {l} h a) =
      by_t (q x) (λ e. rw (e, is_false (λ t. h t e), any_without p q a)) (λ e. rw (e, any_without p q a))

  pub any_same : (p q : A → Bool) {l : List A} → All (λ x. p x ≡ q x) l → any p l ≡ any q l
  any_same p q end = refl
  any_same p q (also h a) = rw (h, any_same p q a)

  pub any_split : (p q : A → Bool) (l : List A) → either (any p (keep q l)) (any p (without q l)) ≡ any p l
  any_split p q [] = refl
  any_split p q (x ∷ l) =
      by_t (q x) (λ e. by_t (p x) (λ d. rw (e, d)) (λ d. rw (e, d) (any_split p q l)))
      (λ e. rw (e, either_swap, any_split p q l))

  pub any_keep_both : (p q : A → Bool) (l : List A) → any p (keep q l) ≡ any (λ x. both (q x) (p x)) l
  any_keep_both p q [] = refl
  any_keep_both p q (x ∷ l) = by_t (q x) (λ e. rw (e, any_keep_both p q l)) (λ e. rw (e, any_keep_both p q l))

  pub first_none : (p : A → Bool) {l : List A} → All (λ x. p x ≡ true → ⊥) l → first p l ≡ none
  first_none p end = refl
  first_none p (also {x} h a) = rw (is_false h, first_none p a)

  pub first_yes : (p : A → Bool) {P : A → Type 0} {e : A} {l : List A} → All P l → first p l ≡ some e →
      (p e ≡ true) × P e
  first_yes p end q = let z : ◌≡◌ {A = ℕ} 0 1 = cc in absurd (omega arith)
  first_yes p {P} {e} (also {x} {l} h a) q =
      by_t (p x) (λ t. let d : x ≡ e = cc t in (rw (← d) t, subst P d h)) (λ t. first_yes p a (rw t at q))

  pub first_without : (p q : A → Bool) {l : List A} → All (λ x. p x ≡ true → q x ≡ true → ⊥) l →
      first p (without q l) ≡ first p l
  first_without p q end = refl
  first_without p q (also {x} {l} h a) =
      by_t (q x) (λ e. rw (e, is_false (λ t. h t e), first_without p q a)) (λ e. rw (e, first_without p q a))

pub without_all : {A : Type 0} (q : A → Bool) {l : List A} → All (λ x. q x ≡ true) l → without q l ≡ []
without_all q end = refl
without_all q (also h a) = rw h (without_all q a)

pub without_none : {A : Type 0} (q : A → Bool) {l : List A} → All (λ x. q x ≡ false) l → without q l ≡ l
without_none q end = refl
without_none q (also {x} h a) = rw (h, without_none q a)

pub without_same : {A : Type 0} (p q : A → Bool) {l : List A} → All (λ x. p x ≡ q x) l → without p l ≡ without q l
without_same p q end = refl
without_same p q (also h a) = rw (h, without_same p q a)

pub keep_none : {A : Type 0} (q : A → Bool) {l : List A} → All (λ x. q x ≡ false) l → keep q l ≡ []
keep_none q end = refl
keep_none q (also h a) = rw (h, keep_none q a)

pub keep_same : {A : Type 0} (p q : A → Bool) {l : List A} → All (λ x. p x ≡ q x) l → keep p l ≡ keep q l
keep_same p q end = refl
keep_same p q (also h a) = rw (h, keep_same p q a)

-- by membership
module _ {A : Type 0} where
  pub in_cons : {x y : A} {l : List A} → In x (y ∷ l) → (x ≡ y) ⊎ In x l
  in_cons here = inl refl
  in_cons (there m) = inr m

  pub look : {P : A → Type 0} {l : List A} {x : A} → All P l → In x l → P x
  look {P = P} end x6 = elim x6 [ ]
  look (also h a) here = h
  look (also h a) (there m) = look a m

  pub each : {P : A → Type 0} (l : List A) → ((x : A) → In x l → P x) → All P l
  each [] f = end
  each (x ∷ l) f = also (f x here) (each l (λ y m. f y (there m)))

  pub in_without : (q : A → Bool) {l : List A} {x : A} → In x l → q x ≡ false → In x (without q l)
  in_without q here t = rw t here
  in_without q (there {y = y} m) t = by_t (q y) (λ e. rw e (in_without q m t)) (λ e. rw e (there (in_without q m t)))

  pub without_in : (q : A → Bool) {l : List A} {x : A} → In x (without q l) → In x l
  without_in q {l} m = (look (All-without q (each l (λ x k. k))) m).1

  pub any_in_lem : (p : A → Bool) (l : List A) → any p l ≡ true → (x : A) × In x l × (p x ≡ true)
  any_in_lem p [] t = absurd (clash t refl)
  any_in_lem p (x ∷ l) t = either_e (p x) (any p l) t (λ s. (x, here, s))
      (λ s. let (y, m, e) = any_in_lem p l s in (y, there m, e))

  pub in_any : (p : A → Bool) {l : List A} {x : A} → In x l → p x ≡ true → any p l ≡ true
  in_any p here t = rw t
  in_any p (there m) t = rw (in_any p m t, either_yes)

  pub in_left : {x : A} {s : List A} (t : List A) → In x s → In x (s ++ t)
  in_left t here = here
  in_left t (there m) = there (in_left t m)

  pub in_right : {x : A} (s : List A) {t : List A} → In x t → In x (s ++ t)
  in_right [] m = m
  in_right (y ∷ s) m = there (in_right s m)

  pub in_append : {x : A} (s : List A) {t : List A} → In x (s ++ t) → In x s ⊎ In x t
  in_append [] m = inr m
  in_append (y ∷ s) here = inl here
  in_append (y ∷ s) (there m) = elim (in_append s m) [ inl a ↦ inl (there a) | inr b ↦ inr b ]

  -- a weaker test
  pub any_more : (p q : A → Bool) (l : List A) → ((x : A) → p x ≡ true → q x ≡ true) → any p l ≡ true → any q l ≡ true
  any_more p q l f t = let (x, m, s) = any_in_lem p l t in in_any q m (f x s)

  pub distinct_without : (q : A → Bool) {ps : List A} → Distinct ps → Distinct (without q ps)
  distinct_without q d_end = d_end
  distinct_without q (d_more {p} {ps} n d) =
      by_t (q p) (λ t. rw t (distinct_without q d))
      (λ t. rw t (d_more (λ m. n (without_in q m)) (distinct_without q d)))

-- no word stands after the last
pub get_or_out : (xs : List ℕ) (i : ℕ) → length xs ≤ i → get_or xs i 0 ≡ 0
get_or_out [] i h = refl
get_or_out (x ∷ xs) zero h = absurd (omega arith)
get_or_out (x ∷ xs) (suc i) h = get_or_out xs i (omega arith)

-- THE TEST `equal` is equality
pub equal_self : (xs : List ℕ) → equal xs xs ≡ true
equal_self [] = refl
equal_self (x ∷ xs) = both_i (eq-eqb x x refl) (equal_self xs)

pub equal_is : {xs ys : List ℕ} → xs ≡ ys → equal xs ys ≡ true
equal_is {xs} e = subst (λ (ys : List ℕ). equal xs ys ≡ true) e (equal_self xs)

pub is_equal : (xs ys : List ℕ) → equal xs ys ≡ true → xs ≡ ys
is_equal [] [] t = refl
is_equal [] (y ∷ ys) t = absurd (clash t refl)
is_equal (x ∷ xs) [] t = absurd (clash t refl)
is_equal (x ∷ xs) (y ∷ ys) t =
    let a : x ≡ y = eqb-true x y (both_l (eqb x y) _ t) in
    let b : xs ≡ ys = is_equal xs ys (both_r (eqb x y) _ t) in cc
