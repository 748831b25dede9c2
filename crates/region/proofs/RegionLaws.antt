-- What each answer of the comparison means, both ways. Assumes nothing.
use mathlib.Core.Path.{◌≡◌, refl, sym, ap, ap₂, subst, ◌∙◌}
use mathlib.Core.Logic.{inl, inr}
use mathlib.Core.Bool.{Bool, true, false}
use mathlib.Core.List.{List, [], ◌∷◌}
use Prim.Native.Nat.{ℕ, ◌<◌}
use native.Mathlib.Omega.{arith}
use lib.Dec.{eqb}
use lib.ListN.{length, get_or}
use lib.Seq.{ext_get_or}
use lib.Pointwise.{pointwise}
use borrow.Author.Tests.{eqb-true, eqb-false, eq-eqb}
use Rattle.blocks.specs.Choice.{pick}
use Rattle.blocks.specs.Lists.{equal}
use Rattle.blocks.proofs.BoolLaws.{clash, by_t, is_false, either_e, either_yes}
use Rattle.blocks.proofs.ListLaws.{equal_self, is_equal}
use Rattle.crc32c.specs.Crc.{crc32c}
use Rattle.region.specs.Region.{Matching, Nothing, Matched, Different, any_empty, compare, number, compared}
use Rattle.region.specs.Claims.{Match, AnyEmpty}

-- ---- what the code decides

module _ (old new : List ℕ) where
  pub some_empty : any_empty old new ≡ true → compare old new ≡ Nothing
  unfolding compare
  some_empty t = rw t

  module _ (f : any_empty old new ≡ false) where
    none_empty : compare old new ≡ pick (equal old new) Matched Different
    unfolding compare
    none_empty = rw f

    pub are_equal : equal old new ≡ true → compare old new ≡ Matched
    are_equal t = none_empty ∙ ap (λ (q : Bool). pick q Matched Different) t

    pub not_equal : equal old new ≡ false → compare old new ≡ Different
    not_equal g = none_empty ∙ ap (λ (q : Bool). pick q Matched Different) g

-- what `==` of two slices tests
pub pointwise_equal : (xs ys : List ℕ) → pointwise eqb xs ys ≡ equal xs ys
pointwise_equal [] [] = refl
pointwise_equal [] (y ∷ ys) = refl
pointwise_equal (x ∷ xs) [] = refl
pointwise_equal (x ∷ xs) (y ∷ ys) = by_t (eqb x y) (λ t. rw t (pointwise_equal xs ys)) (λ t. rw t refl)

-- ---- the answers are three

apart : {a b : Matching} → a ≡ b → (number a ≡ number b → ⊥) → ⊥
apart e d = d (ap number e)

empty_yes : (old new : List ℕ) → AnyEmpty old new → any_empty old new ≡ true
empty_yes old new (inl e) = rw (eq-eqb (length old) 0 e)
empty_yes old new (inr e) = rw (eq-eqb (length new) 0 e) (either_yes (eqb (length old) 0))

empty_is : (old new : List ℕ) → any_empty old new ≡ true → AnyEmpty old new
empty_is old new t =
    either_e (eqb (length old) 0) (eqb (length new) 0) t (λ a. inl (eqb-true (length old) 0 a)) (λ b. inr (eqb-true (length new) 0 b))

nothing : (old new : List ℕ) → AnyEmpty old new → compare old new ≡ Nothing
nothing old new x = some_empty old new (empty_yes old new x)

pos : (n : ℕ) → (n ≡ 0 → ⊥) → 0 < n
pos n h = by_t (eqb n 0) (λ t. absurd (h (eqb-true n 0 t))) (λ f. omega (arith, eqb-false n 0 f))

-- both longer than 0
old_long : (old new : List ℕ) → any_empty old new ≡ false → 0 < length old
old_long old new f = pos (length old) (λ e. clash (empty_yes old new (inl e)) f)

new_long : (old new : List ℕ) → any_empty old new ≡ false → 0 < length new
new_long old new f = pos (length new) (λ e. clash (empty_yes old new (inr e)) f)

-- R165
pub nothing_exactly : (old new : List ℕ) → (compare old new ≡ Nothing → AnyEmpty old new) × (AnyEmpty old new → compare old new ≡ Nothing)
nothing_exactly old new = (
  λ e. by_t (any_empty old new) (empty_is old new) (λ g.
      by_t (equal old new)
      (λ t. absurd (apart (sym (are_equal old new g t) ∙ e) (λ z. omega arith)))
      (λ f. absurd (apart (sym (not_equal old new g f) ∙ e) (λ z. omega arith)))),
  nothing old new,
)

neither : (old new : List ℕ) → AnyEmpty old new → 0 < length old → 0 < length new → ⊥
neither old new (inl e) a b = omega arith
neither old new (inr e) a b = omega arith

match_equal : {old new : List ℕ} → Match old new → equal old new ≡ true
match_equal {old} {new} m = subst (λ (l : List ℕ). equal old l ≡ true) (ext_get_or 0 old new m.lengths m.bytes) (equal_self old)

-- R166
pub matched_exactly : (old new : List ℕ) → (compare old new ≡ Matched → Match old new) × (Match old new → compare old new ≡ Matched)
matched_exactly old new = (
  λ e. by_t (any_empty old new) (λ x. absurd (apart (sym (some_empty old new x) ∙ e) (λ z. omega arith))) (λ g.
      by_t (equal old new)
      (λ t.
      let q : old ≡ new = is_equal old new t in
      record {
        old_some = old_long old new g;
        new_some = new_long old new g;
        lengths = ap length q;
        bytes = λ i h. ap (λ (l : List ℕ). get_or l i 0) q;
      })
      (λ f. absurd (apart (sym (not_equal old new g f) ∙ e) (λ z. omega arith)))),
  λ m. are_equal old new (is_false (λ t. neither old new (empty_is old new t) m.old_some m.new_some)) (match_equal m),
)

pub matched_same : (old new : List ℕ) → compare old new ≡ Matched → old ≡ new
matched_same old new e = let m = (matched_exactly old new).0 e in ext_get_or 0 old new m.lengths m.bytes

-- R166: neither of the other two
pub different_exactly : (old new : List ℕ)
    → (compare old new ≡ Different → (AnyEmpty old new → ⊥) × (Match old new → ⊥))
    × ((AnyEmpty old new → ⊥) → (Match old new → ⊥) → compare old new ≡ Different)
different_exactly old new = (
  λ e. (
    λ x. apart (sym (nothing old new x) ∙ e) (λ z. omega arith),
    λ m. apart (sym ((matched_exactly old new).1 m) ∙ e) (λ z. omega arith),
  ),
  λ p q. by_t (any_empty old new) (λ x. absurd (p (empty_is old new x))) (λ g.
      by_t (equal old new) (λ t. absurd (q ((matched_exactly old new).0 (are_equal old new g t)))) (not_equal old new g)),
)

-- R167: an empty region matches nothing, another empty one least of all
pub empty_never_matched : (new : List ℕ) → (compare [] new ≡ Matched → ⊥) × (compare new [] ≡ Matched → ⊥)
empty_never_matched new = (
  λ e. apart (sym (nothing [] new (inl refl)) ∙ e) (λ z. omega arith),
  λ e. apart (sym (nothing new [] (inr refl)) ∙ e) (λ z. omega arith),
)

-- R168: a host reads 1 exactly if the regions match
pub one_is_matched : (c : Matching) → number c ≡ 1 → c ≡ Matched
one_is_matched Nothing e = absurd (omega arith)
one_is_matched Matched e = refl
one_is_matched Different e = absurd (omega arith)

pub verdicts_in_numbers : (number Nothing ≡ 0) × (number Matched ≡ 1) × (number Different ≡ 2)
verdicts_in_numbers = (refl, refl, refl)

-- R169: regions that match have one digest
pub compared_is : (old new : List ℕ) {v : Matching} {a b : ℕ} → v ≡ compare old new → a ≡ crc32c 0 old → b ≡ crc32c 0 new
    → record { verdict = v; old_crc = a; new_crc = b } ≡ compared old new
compared_is old new {v} {a} {b} ev ea eb =
    ap (λ (x : Matching). record { verdict = x; old_crc = a; new_crc = b }) ev
    ∙ ap₂ (λ (x y : ℕ). record { verdict = compare old new; old_crc = x; new_crc = y }) ea eb
