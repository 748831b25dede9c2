-- Nodes are freed, and the map of the free nodes follows.
use Prim.Native.Nat.{ℕ, ◌<◌}
use mathlib.Core.Path.{◌≡◌, refl, sym, ap, ap₂, subst, ◌∙◌}
use mathlib.Core.Bool.{Bool, true, false, not}
use mathlib.Core.List.{List}
use native.Mathlib.Omega.{arith}
use lib.Dec.{eqb, ltb}
use lib.ListN.{length, get_or}
use borrow.Author.Tests.{eqb-true, eqb-false, lt-ltb, ltb-true, ltb-false}
use Rattle.blocks.specs.Choice.{both, either}
use Rattle.blocks.proofs.BoolLaws.{by_t, clash, either_no, both_yes}
use Rattle.layout.specs.Words.{count_word, shift_place, last_place}
use Rattle.layout.specs.Fill.{cleared}
use Rattle.layout.proofs.FillLaws.{cleared_before, cleared_after, cleared_in}
use Rattle.freemap.specs.FreeMap.{put, MapOf, Sound}
use Rattle.freemap.proofs.MapLaws.{map_as}
use Rattle.freenodes.specs.FreeNodes.{free_in, freed_by, FreeMap, Follows}

-- THE MAP OF A POOL as its words change
pub map_stays : {ws ws' ms : List ℕ} → ws' ≡ ws → FreeMap ws ms → FreeMap ws' ms
map_stays {ms = ms} e F = subst (λ (x : List ℕ). FreeMap x ms) (sym e) F

module _ {ws ws' ms : List ℕ} (F : FreeMap ws ms) (count : get_or ws' count_word 0 ≡ get_or ws count_word 0) where
  -- no first word changes
  pub free_same : ((m : ℕ) → get_or ws' (shift_place m) 0 ≡ get_or ws (shift_place m) 0) → FreeMap ws' ms
  free_same same = record {
    is = map_as F.is (free_in ws') (λ m _. ap₂ (λ (a b : ℕ). both (ltb m a) (eqb b 0)) (sym count) (sym (same m)));
  }

  -- node n alone is freed, and given to the map
  pub free_given : {ms' : List ℕ} (n : ℕ) → n < get_or ws count_word 0 → get_or ws' (shift_place n) 0 ≡ 0 →
      ((m : ℕ) → (m ≡ n → ⊥) → get_or ws' (shift_place m) 0 ≡ get_or ws (shift_place m) 0) →
      ((f : ℕ → Bool) → MapOf f ms → MapOf (put f n true) ms') → FreeMap ws' ms'
  free_given n lt gone same gave = record {
    is = map_as (gave (free_in ws) F.is) (free_in ws')
        (λ m _. by_t (eqb m n)
        (λ t. let q : m ≡ n = eqb-true _ _ t in
        rw (t, q, gone, lt-ltb n (get_or ws' count_word 0) (omega arith)))
        (λ t. rw t (ap₂ (λ (a b : ℕ). both (ltb m a) (eqb b 0)) (sym count) (sym (same m (eqb-false _ _ t))))));
  }

-- FOLLOWING
not_both : (b : Bool) → both (not b) b ≡ false
not_both true = refl
not_both false = refl

pub follows_same : (ws ms : List ℕ) → Follows ws ws ms ms
follows_same ws ms = record {
  stays = λ m f. refl;
  maps = λ f M. map_as M (λ m. either (f m) (freed_by ws ws m))
      (λ m _. sym (rw (not_both (eqb (get_or ws (shift_place m) 0) 0)) (either_no (f m))));
}

-- what follows a map is one
pub follows_sound : {ws ws' ms ms' : List ℕ} → Follows ws ws' ms ms' → Sound ms → Sound ms'
follows_sound {ws} {ws'} a S = record {
  free = λ m. either (S.free m) (freed_by ws ws' m);
  is = a.maps S.free S.is;
}

-- freed by the first step or by the second
twice : (a b c f : Bool) → (a ≡ true → b ≡ true) → (b ≡ true → c ≡ true) →
    either (either f (both (not a) b)) (both (not b) c) ≡ either f (both (not a) c)
twice a b c true g h = refl
twice true true c false g h = refl
twice true false c false g h = absurd (clash (g refl) refl)
twice false true c false g h = rw (h refl)
twice false false c false g h = refl

pub follows_then : {ws ws₁ ws₂ ms ms₁ ms₂ : List ℕ} → Follows ws ws₁ ms ms₁ → Follows ws₁ ws₂ ms₁ ms₂ →
    Follows ws ws₂ ms ms₂
follows_then {ws} {ws₁} {ws₂} a b = record {
  stays = λ m f. let e : get_or ws₂ (shift_place m) 0 ≡ get_or ws₁ (shift_place m) 0 = b.stays m f in
      e ∙ a.stays m (λ z. f (e ∙ z));
  maps = λ f M. map_as (b.maps _ (a.maps f M)) (λ m. either (f m) (freed_by ws ws₂ m))
      (λ m _. twice (eqb (get_or ws (shift_place m) 0) 0) (eqb (get_or ws₁ (shift_place m) 0) 0)
      (eqb (get_or ws₂ (shift_place m) 0) 0) (f m) (zero_stays (a.stays m)) (zero_stays (b.stays m)));
}
  where
    -- a node that was free is free
    zero_stays : {x y : ℕ} → ((y ≡ 0 → ⊥) → y ≡ x) → eqb x 0 ≡ true → eqb y 0 ≡ true
    zero_stays {x} {y} f t = by_t (eqb y 0) (λ u. u)
        (λ u. let ne : y ≡ 0 → ⊥ = eqb-false y 0 u in absurd (ne (f ne ∙ eqb-true x 0 t)))

-- node n alone is freed
pub follows_node : {ws ws' ms ms' : List ℕ} (n w : ℕ) → w ≡ get_or ws (shift_place n) 0 → get_or ws' (shift_place n) 0 ≡ 0 →
    ((m : ℕ) → (m ≡ n → ⊥) → get_or ws' (shift_place m) 0 ≡ get_or ws (shift_place m) 0) →
    ((f : ℕ → Bool) → MapOf f ms → MapOf (put f n (either (f n) (not (eqb w 0)))) ms') → Follows ws ws' ms ms'
follows_node {ws} {ws'} n w e gone same gave = record {
  stays = λ m f. by_t (eqb m n)
      (λ t. let q : m ≡ n = eqb-true _ _ t in absurd (f (ap (λ (x : ℕ). get_or ws' (shift_place x) 0) q ∙ gone)))
      (λ t. same m (eqb-false _ _ t));
  maps = λ f M. map_as (gave f M) (λ m. either (f m) (freed_by ws ws' m))
      (λ m _. by_t (eqb m n)
      (λ t. let q : m ≡ n = eqb-true _ _ t in
      rw (t, q, gone, e) (ap (either (f n)) (sym (both_yes (not (eqb (get_or ws (shift_place n) 0) 0))))))
      (λ t. rw (t, same m (eqb-false _ _ t)) (sym (rw (not_both (eqb (get_or ws (shift_place m) 0) 0)) (either_no (f m))))));
}

pub follows_cleared : {ws ws' ms ms' : List ℕ} (n w : ℕ) → last_place n < length ws → w ≡ get_or ws (shift_place n) 0 →
    ws' ≡ cleared ws n →
    ((f : ℕ → Bool) → MapOf f ms → MapOf (put f n (either (f n) (not (eqb w 0)))) ms') → Follows ws ws' ms ms'
follows_cleared {ws} {ms = ms} {ms' = ms'} n w h e c gave = subst (λ (y : List ℕ). Follows ws y ms ms') (sym c)
    (follows_node n w e (cleared_in ws n (omega arith) (shift_place n) (omega arith) (omega arith)) same gave)
  where
    same : (m : ℕ) → (m ≡ n → ⊥) → get_or (cleared ws n) (shift_place m) 0 ≡ get_or ws (shift_place m) 0
    same m ne = by_t (ltb m n)
        (λ t. cleared_before ws n (shift_place m) (omega (arith, ltb-true m n t)))
        (λ t. cleared_after ws n (shift_place m) (omega (arith, ltb-false m n t)))
