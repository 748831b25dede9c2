-- The entries of a list between two indices.
use Prim.Native.Nat.{ℕ, ◌+◌, ◌^◌, ◌≤◌, ◌<◌}
use mathlib.Core.Path.{◌≡◌, refl, sym, ap, subst, ◌∙◌}
use mathlib.Core.Logic.{⊎_elim}
use mathlib.Core.Bool.{Bool, true, false}
use mathlib.Core.List.{List, [], ◌∷◌, ◌++◌}
use native.Mathlib.Omega.{arith}
use lib.Dec.{leb, ltb}
use lib.ListN.{length, length-append}
use borrow.Author.Tests.{ltb-true, ltb-false, leb-true, lt-ltb, le-ltb, le-leb, lt-leb}
use Rattle.blocks.specs.Choice.{both}
use Rattle.blocks.specs.Lists.{All, end, also, In, here, there, keep}
use Rattle.blocks.proofs.BoolLaws.{by_t, both_l, both_r}
use Rattle.blocks.proofs.BlockLaws.{pow_pos}
use Rattle.blocks.proofs.ListLaws.{each, in_cons, keep_none}
use Rattle.model.specs.declared.Entry.{Entry}
use Rattle.model.specs.Model.{Sorted, done, more, Valid, meets}
use Rattle.model.proofs.ValidLaws.{sorted_low}
use Rattle.listing.specs.Listing.{listed}
use Rattle.listing.specs.Visits.{between}

-- KEEPING
module _ {A : Type 0} (p : A → Bool) where
  pub keep_append : (s t : List A) → keep p (s ++ t) ≡ keep p s ++ keep p t
  keep_append [] t = refl
  keep_append (x ∷ s) t = by_t (p x) (λ e. rw e (ap (λ (y : List A). x ∷ y) (keep_append s t))) (λ e. rw e (keep_append s t))

  pub keep_all : {l : List A} → All (λ x. p x ≡ true) l → keep p l ≡ l
  keep_all end = refl
  keep_all (also {x} t a) = rw t (ap (λ (y : List A). x ∷ y) (keep_all a))

  pub keep_in : (l : List A) {x : A} → In x (keep p l) → In x l × (p x ≡ true)
  keep_in [] {x = x} m = elim m [ ]
  keep_in (y ∷ l) {x} m =
      by_t (p y)
      (λ t. ⊎_elim (λ e. subst (λ (z : A). In z (y ∷ l) × (p z ≡ true)) (sym e) (here, t))
      (λ i. let (j, q) = keep_in l i in (there j, q)) (in_cons (rw t at m)))
      (λ t. let (i, q) = keep_in l (rw t at m) in (there i, q))

  pub in_keep : {l : List A} {x : A} → In x l → p x ≡ true → In x (keep p l)
  in_keep here t = rw t here
  in_keep (there {y} m) t = by_t (p y) (λ e. rw e (there (in_keep m t))) (λ e. rw e (in_keep m t))

  pub keep_length : (l : List A) → length (keep p l) ≤ length l
  keep_length [] = omega arith
  keep_length (x ∷ l) = by_t (p x) (λ t. rw t (omega (arith, keep_length l))) (λ t. rw t (omega (arith, keep_length l)))

pub sorted_keep : (p : Entry → Bool) {n : ℕ} {l : List Entry} → Sorted n l → Sorted n (keep p l)
sorted_keep p done = done
sorted_keep p (more {e} h ok s) =
    by_t (p e) (λ t. rw t (more h ok (sorted_keep p s)))
    (λ t. rw t (sorted_low _ (omega arith) (sorted_keep p s)))

-- each entry of a sorted list lies at or above where it starts
pub sorted_above : {n : ℕ} {l : List Entry} {x : Entry} → Sorted n l → In x l → n ≤ x.base
sorted_above (done {n = n}) x8 = elim x8 [ ]
sorted_above (more h ok s) here = h
sorted_above (more {e} h ok s) (there m) = omega (arith, sorted_above s m, pow_pos e.order)

-- one entry alone passes a test
pub keep_one : (p : Entry → Bool) {n : ℕ} {l : List Entry} {e : Entry} → Sorted n l → In e l → p e ≡ true →
    ((x : Entry) → In x l → p x ≡ true → x ≡ e) → keep p l ≡ e ∷ []
keep_one p {e = e} (done {n = n}) x10 t only = elim x10 [ ]
keep_one p (more {e} {l} h ok s) here t only =
    rw t (ap (λ (y : List Entry). e ∷ y) (keep_none p (each l (λ x m. by_t (p x)
    (λ q. let same : x ≡ e = only x (there m) q in
    absurd (omega (arith, sorted_above s m, pow_pos e.order, ap (λ (y : Entry). y.base) same))) (λ q. q)))))
keep_one p {e = e} (more {e = y} {l} h ok s) (there m) t only =
    by_t (p y)
    (λ q. let same : y ≡ e = only y here q in
    absurd (omega (arith, sorted_above s m, pow_pos y.order, ap (λ (z : Entry). z.base) same)))
    (λ q. rw q (keep_one p s m t (λ x i. only x (there i))))

-- BETWEEN TWO INDICES
pub between_in : (l : List Entry) {e : Entry} (x y : ℕ) → In e (between l x y) → In e l × (x ≤ e.base) × (e.base < y)
between_in l {e} x y m =
    let (i, t) = keep_in (λ e. both (leb x e.base) (ltb e.base y)) l m in
    (i, leb-true _ _ (both_l (leb x e.base) (ltb e.base y) t), ltb-true _ _ (both_r (leb x e.base) (ltb e.base y) t))

spans : (x y : ℕ) (e : Entry) → x ≤ e.base → e.base < y → both (leb x e.base) (ltb e.base y) ≡ true
spans x y e a b = rw (le-leb x e.base a, lt-ltb e.base y b)

below_no : (x y : ℕ) (e : Entry) → e.base < x → both (leb x e.base) (ltb e.base y) ≡ false
below_no x y e h = rw (lt-leb x e.base h)

above_no : (x y : ℕ) (e : Entry) → y ≤ e.base → both (leb x e.base) (ltb e.base y) ≡ false
above_no x y e h = by_t (leb x e.base) (λ t. rw (t, le-ltb e.base y h)) (λ t. rw t)

-- none starts there
pub between_none : (l : List Entry) (x y : ℕ) → ((e : Entry) → In e l → x ≤ e.base → e.base < y → ⊥) →
    between l x y ≡ []
between_none l x y f =
    keep_none (λ e. both (leb x e.base) (ltb e.base y))
    (each l (λ e m. by_t (leb x e.base)
    (λ s. by_t (ltb e.base y) (λ t. absurd (f e m (leb-true _ _ s) (ltb-true _ _ t))) (λ t. rw (s, t)))
    (λ s. rw s)))

-- one starts there
pub between_one : {l : List Entry} {e : Entry} (x y : ℕ) → Valid l → In e l → x ≤ e.base → e.base < y →
    ((z : Entry) → In z l → x ≤ z.base → z.base < y → z ≡ e) → between l x y ≡ e ∷ []
between_one {e = e} x y v m a b only =
    keep_one (λ e. both (leb x e.base) (ltb e.base y)) v m (spans x y e a b)
    (λ z i t. only z i (leb-true _ _ (both_l (leb x z.base) (ltb z.base y) t))
    (ltb-true _ _ (both_r (leb x z.base) (ltb z.base y) t)))

-- one stretch after another
pub between_join : {n : ℕ} {l : List Entry} (x y z : ℕ) → x ≤ y → y ≤ z → Sorted n l →
    between l x y ++ between l y z ≡ between l x z
between_join x y z h g done = refl
between_join x y z h g (more {e} {l} k ok s) =
    by_t (ltb e.base x)
    (λ t. let lt : e.base < x = ltb-true _ _ t in
    rw (below_no x y e lt, below_no y z e (omega arith), below_no x z e lt) (between_join x y z h g s))
    (λ t. let ge : x ≤ e.base = ltb-false _ _ t in
    by_t (ltb e.base y)
    (λ u. let lt : e.base < y = ltb-true _ _ u in
    rw (spans x y e ge lt, below_no y z e lt, spans x z e ge (omega arith))
    (ap (λ (m : List Entry). e ∷ m) (between_join x y z h g s)))
    (λ u. let ge' : y ≤ e.base = ltb-false _ _ u in
    let none : between l x y ≡ [] = between_none l x y
    (λ f m a b. omega (arith, sorted_above s m, pow_pos e.order)) in
    let rest : between l y z ≡ between l x z = ap (λ (m : List Entry). m ++ between l y z) (sym none) ∙ between_join x y z h g s in
    by_t (ltb e.base z)
    (λ w. let lt : e.base < z = ltb-true _ _ w in
    rw (above_no x y e ge', none, spans y z e ge' lt, spans x z e ge lt) (ap (λ (m : List Entry). e ∷ m) rest))
    (λ w. let far : z ≤ e.base = ltb-false _ _ w in
    rw (above_no x y e ge', none, above_no y z e far, above_no x z e far) rest)))

-- THOSE THAT MEET A RANGE
pub meets_i : (a z : ℕ) (e : Entry) → e.base ≤ z → a < e.base + 2 ^ e.order → meets a z e ≡ true
meets_i a z e h g = rw (le-leb e.base z h, lt-ltb a (e.base + 2 ^ e.order) g)

pub beyond_no : (a z : ℕ) (e : Entry) → z < e.base → meets a z e ≡ false
beyond_no a z e h = rw (lt-leb e.base z h)

pub before_no : (a z : ℕ) (e : Entry) → e.base + 2 ^ e.order ≤ a → meets a z e ≡ false
before_no a z e h = by_t (leb e.base z) (λ t. rw (t, le-ltb a (e.base + 2 ^ e.order) h)) (λ t. rw t)

pub listed_join : {l : List Entry} (a z w x y : ℕ) → w ≤ x → x ≤ y → Valid l →
    listed (between l w x) a z ++ listed (between l x y) a z ≡ listed (between l w y) a z
listed_join {l} a z w x y h g v =
    sym (keep_append (meets a z) (between l w x) (between l x y)) ∙ ap (keep (meets a z)) (between_join w x y h g v)

-- past the last index none does
pub listed_past : (l : List Entry) (a z x y : ℕ) → z < x → listed (between l x y) a z ≡ []
listed_past l a z x y h =
    keep_none (meets a z) (each (between l x y) (λ e m. let (i, b, c) = between_in l x y m in beyond_no a z e (omega arith)))

-- how many lie below an index
pub below_join : {l : List Entry} (x y : ℕ) → x ≤ y → Valid l →
    length (between l 0 x) + length (between l x y) ≡ length (between l 0 y)
below_join {l} x y h v =
    sym (length-append (between l 0 x) (between l x y)) ∙ ap length (between_join 0 x y (omega arith) h v)
