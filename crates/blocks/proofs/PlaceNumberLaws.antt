-- The number at which each thing stands, before and after a change, over any kind of thing that a test tells apart.
use Prim.Native.Nat.{ℕ, zero, suc, ◌+◌, ◌≤◌, ◌<◌}
use mathlib.Core.Path.{◌≡◌, refl, sym, ap, subst, ◌∙◌}
use mathlib.Core.Bool.{Bool, true, false, not}
use mathlib.Core.List.{List, [], ◌∷◌}
use mathlib.Core.Option.{none, some}
use mathlib.Core.Logic.{◌⊎◌, inl, inr, ⊎_elim}
use native.Mathlib.Omega.{arith}
use native.Mathlib.Nat.{le_refl}
use lib.Dec.{eqb}
use lib.ListN.{length, get_or}
use borrow.Author.Tests.{eqb-true, eq-eqb, not-true}
use Rattle.blocks.specs.Lists.{any, without, In, here, there, Distinct, d_end, d_more}
use Rattle.blocks.specs.Placing.{
  PlacesOf,
  standing,
  free_count,
  allocate,
  keep_if,
  prune,
  number_of,
  all_stand,
  is_placed,
  Placed,
}
use Rattle.blocks.proofs.BoolLaws.{clash, by_t, is_false, both_l, both_r}
use Rattle.blocks.proofs.ListLaws.{in_cons, in_without, any_in_lem, in_any}
use Rattle.blocks.proofs.PlacingLaws.{all_places, in_standing, allocate_get, keep_some, prune_get, placed_new, New}

module _ {A : Type 0} (same : A → A → Bool) (same_is : (p q : A) → same p q ≡ true → p ≡ q)
    (same_refl : (p : A) → same p p ≡ true) where
  pub number_at : (p : A) (os : PlacesOf A) → In p (standing os) →
      (number_of same p os < length os) × (get_or os (number_of same p os) none ≡ some p)
  number_at p [] m = elim m [ ]
  number_at p (none ∷ os) m = let (a, b) = number_at p os m in (omega arith, b)
  number_at p (some q ∷ os) m =
      by_t (same q p) (λ t. rw t (omega arith, ap some (same_is q p t)))
      (λ t. rw t (go t (in_cons m) (λ k. number_at p os k)))
    where
      go : same q p ≡ false → (p ≡ q) ⊎ In p (standing os) →
          (In p (standing os) → (number_of same p os < length os) × (get_or os (number_of same p os) none ≡ some p)) →
          (suc (number_of same p os) < length (some q ∷ os)) ×
          (get_or (some q ∷ os) (suc (number_of same p os)) none ≡ some p)
      go t (inl e) f = absurd (clash (rw e (same_refl q)) t)
      go t (inr k) f = let (a, b) = f k in (omega arith, b)

  pub number_of_lem : (p : A) (os : PlacesOf A) (m : ℕ) → Distinct (standing os) → get_or os m none ≡ some p →
      number_of same p os ≡ m
  number_of_lem p [] m d e = let z : ◌≡◌ {A = ℕ} 0 1 = cc in absurd (omega arith)
  number_of_lem p (none ∷ os) zero d e = let z : ◌≡◌ {A = ℕ} 0 1 = cc in absurd (omega arith)
  number_of_lem p (none ∷ os) (suc m) d e = ap suc (number_of_lem p os m d e)
  number_of_lem p (some q ∷ os) zero d e = let g : q ≡ p = cc in rw (← g, same_refl q)
  number_of_lem p (some q ∷ os) (suc m) (d_more n d) e =
      rw (is_false {b = same q p} (λ t. n (subst (λ (r : A). In r (standing os)) (sym (same_is q p t))
      (in_standing p os m e)))) (ap suc (number_of_lem p os m d e))

  pub number_allocate : (p : A) (os : PlacesOf A) (ps : List A) → (In p ps → ⊥) →
      number_of same p (allocate os ps) ≡ number_of same p os
  number_allocate p [] ps f = refl
  number_allocate p (some q ∷ os) ps f = rw (number_allocate p os ps f)
  number_allocate p (none ∷ os) [] f = ap suc (number_allocate p os [] f)
  number_allocate p (none ∷ os) (q ∷ ps) f =
      rw (is_false {b = same q p} (λ t. f (subst (λ (r : A). In r (q ∷ ps)) (same_is q p t) here)))
      (ap suc (number_allocate p os ps (λ m. f (there m))))

  pub number_prune : (p : A) (has : A → Bool) (os : PlacesOf A) → has p ≡ true →
      number_of same p (prune has os) ≡ number_of same p os
  number_prune p has [] t = refl
  number_prune p has (none ∷ os) t = ap suc (number_prune p has os t)
  number_prune p has (some q ∷ os) t =
      by_t (has q) (λ s. rw (s, number_prune p has os t))
      (λ s. rw (
        s,
        is_false {b = same q p} (λ e. clash t (subst (λ (r : A). has r ≡ false) (same_is q p e) s)),
        number_prune p has os t,
      ))

  pub stands_at : {n : ℕ} {has : A → Bool} {os : PlacesOf A} → Placed n has os → (p : A) → has p ≡ true →
      (number_of same p os < n) × (get_or os (number_of same p os) none ≡ some p)
  stands_at {os} pl p t = let (a, e) = number_at p os (pl.full p t) in
      (subst (λ (x : ℕ). number_of same p os < x) pl.size a, e)

  -- things that stand at one number are the same
  pub distinct_numbers : {n : ℕ} {has : A → Bool} {os : PlacesOf A} → Placed n has os → (p q : A) → has p ≡ true →
      has q ≡ true → number_of same p os ≡ number_of same q os → p ≡ q
  distinct_numbers {os} pl p q t s e =
      let d : some p ≡ some q = sym (stands_at pl p t).1 ∙
      (ap (λ (m : ℕ). get_or os m none) e ∙ (stands_at pl q s).1) in cc

  -- A CHANGE
  module _ {n : ℕ} {has has' : A → Bool} {os : PlacesOf A} {ps : List A} (new : New has has' ps)
      (pl : Placed n has os) where
    abbrev os' : PlacesOf A
    os' = prune has' (allocate os ps)

    -- what stays keeps its number
    pub number_stays : (p : A) → has p ≡ true → has' p ≡ true → number_of same p os' ≡ number_of same p os
    number_stays p t t' = number_prune p has' (allocate os ps) t' ∙ number_allocate p os ps
        (λ m. clash t (new.was_not p m))

    -- what stood before where something stands
    pub was : (p : A) → has' p ≡ true → has p ≡ true → get_or os (number_of same p os') none ≡ some p
    was p t' t = rw (number_stays p t t') (number_at p os (pl.full p t)).1

    pub was_not : length ps ≤ free_count os → (p : A) → has' p ≡ true → has p ≡ false →
        get_or os (number_of same p os') none ≡ none
    was_not le p t' t =
        let e : keep_if has' (get_or (allocate os ps) (number_of same p os') none) ≡ some p = sym
        (prune_get has' (allocate os ps) (number_of same p os')) ∙ (stands_at (placed_new os new pl le) p t').1 in
        elim (allocate_get os ps (number_of same p os') p (keep_some has' _ p e).0) [
          | inl a ↦ absurd (clash (pl.sound p (in_standing p os _ a)) t)
          | inr b ↦ b.0
        ]

  -- COUNT
  pub pigeon : {s : List A} (t : List A) → Distinct s → ((p : A) → In p s → In p t) → length s ≤ length t
  pigeon t d_end f = omega arith
  pigeon t (d_more {p} {ps} n d) f =
      let less : suc (length (without (same p) t)) ≤ length t = shorter p t (f p here) in
      omega (
        arith,
        pigeon (without (same p) t) d (λ q m. in_without (same p) (f q (there m))
            (is_false (λ e. n (subst (λ (r : A). In r ps) (sym (same_is p q e)) m)))),
      )
    where
      no_longer : (q : A → Bool) (t : List A) → length (without q t) ≤ length t
      no_longer q [] = le_refl _
      no_longer q (x ∷ t) = by_t (q x) (λ e. rw e (omega (arith, no_longer q t)))
          (λ e. rw e (omega (arith, no_longer q t)))

      shorter : (p : A) (t : List A) → In p t → suc (length (without (same p) t)) ≤ length t
      shorter p [] x3 = elim x3 [ ]
      shorter p (x ∷ t) here = rw (same_refl x) (omega (arith, no_longer (same x) t))
      shorter p (x ∷ t) (there m) = by_t (same p x) (λ e. rw e (omega (arith, no_longer (same p) t)))
          (λ e. rw e (omega (arith, shorter p t m)))

  -- ALL THAT THERE ARE
  in_same : (p : A) (ps : List A) → any (same p) ps ≡ true → In p ps
  in_same p ps t = let (q, m, e) = any_in_lem (same p) ps t in subst (λ (r : A). In r ps) (sym (same_is p q e)) m

  same_in : {p : A} {ps : List A} → In p ps → any (same p) ps ≡ true
  same_in {p} m = in_any (same p) m (same_refl p)

  module _ (has : A → Bool) where
    stand_is : {ps : List A} → ((p : A) → In p ps → has p ≡ true) → Distinct ps → all_stand same has ps ≡ true
    stand_is f d_end = refl
    stand_is f (d_more {p} {ps} n d) =
        rw (f p here, is_false {b = any (same p) ps} (λ t. n (in_same p ps t))) (stand_is (λ q m. f q (there m)) d)

    is_stand : (ps : List A) → all_stand same has ps ≡ true → ((p : A) → In p ps → has p ≡ true) × Distinct ps
    is_stand [] t = ((λ p m. elim m [ ]), d_end)
    is_stand (p ∷ ps) t =
        let h : has p ≡ true = both_l (has p) _ t in
        let u = both_r (has p) _ t in
        let n : any (same p) ps ≡ false = not-true _ (both_l (not (any (same p) ps)) _ u) in
        let (f, d) = is_stand ps (both_r (not (any (same p) ps)) _ u) in (
          (λ q m. ⊎_elim (λ (e : q ≡ p). subst (λ (r : A). has r ≡ true) (sym e) h) (λ (k : In q ps). f q k) (in_cons m)),
          d_more (λ m. clash (same_in m) n) d,
        )

    module _ (all : List A) (in_all : (p : A) → has p ≡ true → In p all) where
      pub free_places : {n : ℕ} {os : PlacesOf A} → ((p : A) → In p all → has p ≡ true) → Distinct all →
          Placed n has os → free_count os + length all ≡ n
      free_places {os} all_in once pl =
          omega (
            arith,
            all_places os,
            pl.size,
            pigeon all pl.once (λ p m. in_all p (pl.sound p m)),
            pigeon (standing os) once (λ p m. pl.full p (all_in p m)),
          )

      pub placed_is : {n : ℕ} {os : PlacesOf A} → ((p : A) → In p all → has p ≡ true) → Distinct all →
          Placed n has os → is_placed same n (length all) has os ≡ true
      placed_is {n} {os} all_in once pl =
          rw (
            eq-eqb (length os) n pl.size,
            stand_is pl.sound pl.once,
            eq-eqb (length (standing os)) (length all)
                (omega (arith, all_places os, pl.size, free_places all_in once pl)),
          )

      pub is_placed_lem : (n : ℕ) (os : PlacesOf A) → is_placed same n (length all) has os ≡ true → Placed n has os
      is_placed_lem n os t =
          let u = both_r (eqb (length os) n) _ t in
          let (f, d) = is_stand (standing os) (both_l (all_stand same has (standing os)) _ u) in
          let count : length (standing os) ≡ length all = eqb-true _ _ (both_r (all_stand same has (standing os)) _ u) in
          record {
            size = eqb-true _ _ (both_l (eqb (length os) n) _ t);
            sound = f;
            full = λ p h. by_t (any (same p) (standing os)) (λ e. in_same p (standing os) e)
                (λ e. absurd (let more : length (p ∷ standing os) ≤ length all =
                pigeon all (d_more {p = p} (λ m. clash (same_in m) e) d) (λ q m. ⊎_elim
                (λ (z : q ≡ p). subst (λ (r : A). In r all) (sym z) (in_all p h))
                (λ (k : In q (standing os)). in_all q (f q k)) (in_cons m)) in omega arith));
            once = d;
          }
