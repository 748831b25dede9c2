-- Lists: what holds of every element and of some, and keeping by a test.
use mathlib.Core.Path.{◌≡◌, refl}
use mathlib.Core.Bool.{Bool, true, false}
use mathlib.Core.List.{List, [], ◌∷◌, ◌++◌}
use mathlib.Core.Option.{Option, none, some}
use mathlib.Core.Logic.{◌⊎◌, inl, inr, ⊎_elim}
use Rattle.blocks.proofs.BoolLaws.{by_t, clash}
use Rattle.blocks.specs.Choice.{either}
use Rattle.blocks.specs.Lists.{any, keep, first}

abbrev pub Every : {A : Type 0} → (A → Type 0) → List A → Type 0
Every P [] = Unit {0}
Every P (x ∷ xs) = P x × Every P xs

pub no_both : {C : Type 0} {t : Bool} → t ≡ true → t ≡ false → C
no_both p q = absurd (clash p q)

module _ {A : Type 0} where
  pub all_append : (P : A → Type 0) (xs ys : List A) → Every P xs → Every P ys → Every P (xs ++ ys)
  all_append P [] ys p q = q
  all_append P (x ∷ xs) ys p q = (p.0, all_append P xs ys p.1 q)

  pub all_map : (P Q : A → Type 0) → ((x : A) → P x → Q x) → (xs : List A) → Every P xs → Every Q xs
  all_map P Q f [] p = tt
  all_map P Q f (x ∷ xs) p = (f x p.0, all_map P Q f xs p.1)

  pub all_with : (P Q R : A → Type 0) → ((x : A) → P x → Q x → R x) → (xs : List A) → Every P xs → Every Q xs →
      Every R xs
  all_with P Q R f [] p q = tt
  all_with P Q R f (x ∷ xs) p q = (f x p.0 q.0, all_with P Q R f xs p.1 q.1)

  pub keep_append : (p : A → Bool) (xs ys : List A) → keep p (xs ++ ys) ≡ keep p xs ++ keep p ys
  keep_append p [] ys = refl
  keep_append p (x ∷ xs) ys = by_t (p x) (λ e. rw (e, keep_append p xs ys)) (λ e. rw (e, keep_append p xs ys))

  pub keep_all : (p : A → Bool) (xs : List A) → Every (λ x. p x ≡ true) xs → keep p xs ≡ xs
  keep_all p [] h = refl
  keep_all p (x ∷ xs) h = rw (h.0, keep_all p xs h.1)

  pub keep_none : (p : A → Bool) (xs : List A) → Every (λ x. p x ≡ false) xs → keep p xs ≡ []
  keep_none p [] h = refl
  keep_none p (x ∷ xs) h = rw (h.0, keep_none p xs h.1)

  -- a finer test after a coarser one
  pub keep_keep : (p q : A → Bool) → ((x : A) → p x ≡ true → q x ≡ true) → (xs : List A) →
      keep p (keep q xs) ≡ keep p xs
  keep_keep p q h [] = refl
  keep_keep p q h (x ∷ xs) =
      by_t (p x)
      (λ e. let f = h x e in rw (f, e, keep_keep p q h xs))
      (λ e. by_t (q x) (λ f. rw (f, e, keep_keep p q h xs)) (λ f. rw (f, e, keep_keep p q h xs)))

  pub any_append : (p : A → Bool) (xs ys : List A) → any p (xs ++ ys) ≡ either (any p xs) (any p ys)
  any_append p [] ys = refl
  any_append p (x ∷ xs) ys = by_t (p x) (λ e. rw e) (λ e. rw (e, any_append p xs ys))

  abbrev pub or_else : Option A → Option A → Option A
  or_else none o = o
  or_else (some x) o = some x

  pub first_append : (p : A → Bool) (xs ys : List A) → first p (xs ++ ys) ≡ or_else (first p xs) (first p ys)
  first_append p [] ys = refl
  first_append p (x ∷ xs) ys = by_t (p x) (λ e. rw e) (λ e. rw (e, first_append p xs ys))

  pub first_none : (p : A → Bool) (xs : List A) → Every (λ x. p x ≡ false) xs → first p xs ≡ none
  first_none p [] h = refl
  first_none p (x ∷ xs) h = rw (h.0, first_none p xs h.1)

abbrev pub Some : {A : Type 0} → (A → Type 0) → List A → Type 0
Some P [] = ⊥
Some P (x ∷ xs) = P x ⊎ Some P xs

module _ {A : Type 0} where
  pub some_left : (P : A → Type 0) (xs ys : List A) → Some P xs → Some P (xs ++ ys)
  some_left P [] ys x' = elim x' [ ]
  some_left P (x ∷ xs) ys (inl p) = inl p
  some_left P (x ∷ xs) ys (inr p) = inr (some_left P xs ys p)

  pub some_right : (P : A → Type 0) (xs ys : List A) → Some P ys → Some P (xs ++ ys)
  some_right P [] ys p = p
  some_right P (x ∷ xs) ys p = inr (some_right P xs ys p)

  pub some_with : (P Q R : A → Type 0) → ((x : A) → P x → Q x → R x) → (xs : List A) → Every P xs → Some Q xs →
      Some R xs
  some_with P Q R f [] a x'' = elim x'' [ ]
  some_with P Q R f (x ∷ xs) a (inl q) = inl (f x a.0 q)
  some_with P Q R f (x ∷ xs) a (inr q) = inr (some_with P Q R f xs a.1 q)

  pub some_map : (Q R : A → Type 0) → ((x : A) → Q x → R x) → (xs : List A) → Some Q xs → Some R xs
  some_map Q R f [] x' = elim x' [ ]
  some_map Q R f (x ∷ xs) (inl q) = inl (f x q)
  some_map Q R f (x ∷ xs) (inr q) = inr (some_map Q R f xs q)

  pub some_no : (P : A → Type 0) → ((x : A) → P x → ⊥) → (xs : List A) → Some P xs → ⊥
  some_no P f [] x' = elim x' [ ]
  some_no P f (x ∷ xs) (inl q) = f x q
  some_no P f (x ∷ xs) (inr q) = some_no P f xs q

  pub some_get : (C : Type 0) (xs : List A) → Some (λ x. C) xs → C
  some_get C [] x' = elim x' [ ]
  some_get C (x ∷ xs) (inl q) = q
  some_get C (x ∷ xs) (inr q) = some_get C xs q

  pub some_any : (p : A → Bool) (xs : List A) → Some (λ x. p x ≡ true) xs → any p xs ≡ true
  some_any p [] x' = elim x' [ ]
  some_any p (x ∷ xs) (inl q) = rw q
  some_any p (x ∷ xs) (inr q) = by_t (p x) (λ e. rw e) (λ e. rw e (some_any p xs q))

  pub any_some : (p : A → Bool) (xs : List A) → any p xs ≡ true → Some (λ x. p x ≡ true) xs
  any_some p [] e = no_both e refl
  any_some p (x ∷ xs) e = by_t (p x) (λ f. inl f) (λ f. inr (any_some p xs (rw f at e)))

  pub some_keep : (p : A → Bool) (Q : A → Type 0) (xs : List A) → Some (λ x. (p x ≡ true) × Q x) xs →
      Some Q (keep p xs)
  some_keep p Q [] x' = elim x' [ ]
  some_keep p Q (x ∷ xs) (inl q) = rw q.0 (inl q.1)
  some_keep p Q (x ∷ xs) (inr q) = by_t (p x) (λ e. rw e (inr (some_keep p Q xs q))) (λ e. rw e (some_keep p Q xs q))

  pub keep_some : (p : A → Bool) (Q : A → Type 0) (xs : List A) → Some Q (keep p xs) →
      Some (λ x. (p x ≡ true) × Q x) xs
  keep_some p Q [] q = elim q [ ]
  keep_some p Q (x ∷ xs) q =
      by_t (p x)
      (λ e. ⊎_elim (λ z. inl (e, z)) (λ z. inr (keep_some p Q xs z)) (un_or (rw e at q)))
      (λ e. inr (keep_some p Q xs (rw e at q)))
    where
      un_or : Q x ⊎ Some Q (keep p xs) → Q x ⊎ Some Q (keep p xs)
      un_or z = z
