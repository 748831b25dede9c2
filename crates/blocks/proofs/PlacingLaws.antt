-- What stands at each number after new things took theirs and others left, over any kind of thing.
use Prim.Native.Nat.{ℕ, zero, suc, ◌+◌, ◌≤◌}
use mathlib.Core.Path.{◌≡◌, refl, sym, ap, subst, ◌∙◌}
use mathlib.Core.Bool.{Bool, true, false}
use mathlib.Core.List.{List, [], ◌∷◌}
use mathlib.Core.Option.{Option, none, some}
use mathlib.Core.Logic.{◌⊎◌, inl, inr}
use native.Mathlib.Omega.{arith}
use lib.ListN.{length, get_or}
use Rattle.blocks.specs.Lists.{In, here, there, Distinct, d_end, d_more}
use Rattle.blocks.specs.Placing.{PlacesOf, standing, free_count, allocate, keep_if, prune, Placed}
use Rattle.blocks.proofs.BoolLaws.{clash, by_t}
use Rattle.blocks.proofs.ListLaws.{in_cons}

module _ {A : Type 0} where
  pub none_some : {p : A} {C : Type 0} → ◌≡◌ {A = Option A} none (some p) → C
  none_some e = let z : ◌≡◌ {A = ℕ} 0 1 = cc in absurd (omega arith)

  pub in_standing : (p : A) (os : PlacesOf A) (m : ℕ) → get_or os m none ≡ some p → In p (standing os)
  in_standing p [] m e = none_some e
  in_standing p (none ∷ os) zero e = none_some e
  in_standing p (none ∷ os) (suc m) e = in_standing p os m e
  in_standing p (some q ∷ os) zero e = let d : q ≡ p = cc in subst (λ (r : A). In r (q ∷ standing os)) d here
  in_standing p (some q ∷ os) (suc m) e = there (in_standing p os m e)

  pub all_places : (os : PlacesOf A) → free_count os + length (standing os) ≡ length os
  all_places [] = refl
  all_places (none ∷ os) = omega (arith, all_places os)
  all_places (some p ∷ os) = omega (arith, all_places os)

  -- ALLOCATE
  pub allocate_size : (os : PlacesOf A) (ps : List A) → length (allocate os ps) ≡ length os
  allocate_size [] ps = refl
  allocate_size (some q ∷ os) ps = ap suc (allocate_size os ps)
  allocate_size (none ∷ os) [] = ap suc (allocate_size os [])
  allocate_size (none ∷ os) (p ∷ ps) = ap suc (allocate_size os ps)

  pub allocate_old : (os : PlacesOf A) (ps : List A) {p : A} → In p (standing os) → In p (standing (allocate os ps))
  allocate_old [] ps m = m
  allocate_old (some q ∷ os) ps here = here
  allocate_old (some q ∷ os) ps (there m) = there (allocate_old os ps m)
  allocate_old (none ∷ os) [] m = allocate_old os [] m
  allocate_old (none ∷ os) (p ∷ ps) m = there (allocate_old os ps m)

  pub allocate_new : (os : PlacesOf A) (ps : List A) {p : A} → length ps ≤ free_count os → In p ps →
      In p (standing (allocate os ps))
  allocate_new [] [] le m = elim m [ ]
  allocate_new [] (p ∷ ps) le m = absurd (omega arith)
  allocate_new (some q ∷ os) ps le m = there (allocate_new os ps le m)
  allocate_new (none ∷ os) [] le m = elim m [ ]
  allocate_new (none ∷ os) (p ∷ ps) le here = here
  allocate_new (none ∷ os) (p ∷ ps) le (there m) = there (allocate_new os ps (omega arith) m)

  pub allocate_in : (os : PlacesOf A) (ps : List A) {p : A} → In p (standing (allocate os ps)) →
      In p (standing os) ⊎ In p ps
  allocate_in [] ps m = inl m
  allocate_in (some q ∷ os) ps here = inl here
  allocate_in (some q ∷ os) ps (there m) = elim (allocate_in os ps m) [ inl a ↦ inl (there a) | inr b ↦ inr b ]
  allocate_in (none ∷ os) [] m = allocate_in os [] m
  allocate_in (none ∷ os) (p ∷ ps) here = inr here
  allocate_in (none ∷ os) (p ∷ ps) (there m) = elim (allocate_in os ps m) [ inl a ↦ inl a | inr b ↦ inr (there b) ]

  pub allocate_once : (os : PlacesOf A) {ps : List A} → Distinct (standing os) → Distinct ps →
      ((p : A) → In p (standing os) → In p ps → ⊥) → Distinct (standing (allocate os ps))
  allocate_once [] d e f = d
  allocate_once (some q ∷ os) {ps} (d_more n d) e f = d_more {p = q}
      (λ m. elim (allocate_in os ps m) [ inl a ↦ n a | inr b ↦ f q here b ])
      (allocate_once os d e (λ p m. f p (there m)))
  allocate_once (none ∷ os) d d_end f = allocate_once os d d_end f
  allocate_once (none ∷ os) d (d_more {p} {ps} n e) f = d_more {p = p}
      (λ m. elim (allocate_in os ps m) [ inl a ↦ f p a here | inr b ↦ n b ])
      (allocate_once os d e (λ q m k. f q m (there k)))

  pub allocate_none : (os : PlacesOf A) → allocate os [] ≡ os
  allocate_none [] = refl
  allocate_none (none ∷ os) = ap (λ (r : PlacesOf A). none ∷ r) (allocate_none os)
  allocate_none (some p ∷ os) = ap (λ (r : PlacesOf A). some p ∷ r) (allocate_none os)

  pub allocate_stays : (os : PlacesOf A) (ps : List A) (m : ℕ) (q : A) → get_or os m none ≡ some q →
      get_or (allocate os ps) m none ≡ some q
  allocate_stays [] ps m q e = e
  allocate_stays (some r ∷ os) ps zero q e = e
  allocate_stays (some r ∷ os) ps (suc m) q e = allocate_stays os ps m q e
  allocate_stays (none ∷ os) ps zero q e = none_some e
  allocate_stays (none ∷ os) [] (suc m) q e = allocate_stays os [] m q e
  allocate_stays (none ∷ os) (p ∷ ps) (suc m) q e = allocate_stays os ps m q e

  pub allocate_get : (os : PlacesOf A) (ps : List A) (m : ℕ) (p : A) → get_or (allocate os ps) m none ≡ some p →
      (get_or os m none ≡ some p) ⊎ ((get_or os m none ≡ none) × In p ps)
  allocate_get [] ps m p e = inl e
  allocate_get (some r ∷ os) ps zero p e = inl e
  allocate_get (some r ∷ os) ps (suc m) p e = allocate_get os ps m p e
  allocate_get (none ∷ os) [] zero p e = inl e
  allocate_get (none ∷ os) [] (suc m) p e = allocate_get os [] m p e
  allocate_get (none ∷ os) (q ∷ ps) zero p e = let d : q ≡ p = cc in
      inr (refl, subst (λ (r : A). In r (q ∷ ps)) d here)
  allocate_get (none ∷ os) (q ∷ ps) (suc m) p e = elim (allocate_get os ps m p e)
      [ inl a ↦ inl a | inr b ↦ inr (b.0, there b.1) ]

  -- PRUNE
  module _ (has : A → Bool) where
    pub keep_some : (o : Option A) (p : A) → keep_if has o ≡ some p → (o ≡ some p) × (has p ≡ true)
    keep_some none p e = none_some e
    keep_some (some q) p e =
        by_t (has q) (λ t. let d : q ≡ p = cc t in (ap some d, rw (← d) t))
        (λ t. let z : ◌≡◌ {A = ℕ} 0 1 = cc t in absurd (omega arith))

    pub prune_size : (os : PlacesOf A) → length (prune has os) ≡ length os
    prune_size [] = refl
    prune_size (o ∷ os) = ap suc (prune_size os)

    pub prune_get : (os : PlacesOf A) (m : ℕ) → get_or (prune has os) m none ≡ keep_if has (get_or os m none)
    prune_get [] m = refl
    prune_get (o ∷ os) zero = refl
    prune_get (o ∷ os) (suc m) = prune_get os m

    pub prune_in : (os : PlacesOf A) (p : A) → In p (standing (prune has os)) → (has p ≡ true) × In p (standing os)
    prune_in [] p m = elim m [ ]
    prune_in (none ∷ os) p m = prune_in os p m
    prune_in (some q ∷ os) p m = by_t (has q) (λ t. go t (in_cons (rw t at m)) (prune_in os p))
        (λ t. let (a, b) = prune_in os p (rw t at m) in (a, there b))
      where
        go : has q ≡ true → (p ≡ q) ⊎ In p (standing (prune has os)) →
            (In p (standing (prune has os)) → (has p ≡ true) × In p (standing os)) →
            (has p ≡ true) × In p (q ∷ standing os)
        go t (inl e) f = rw e (t, here)
        go t (inr k) f = let (a, b) = f k in (a, there b)

    pub in_prune : (os : PlacesOf A) (p : A) → has p ≡ true → In p (standing os) → In p (standing (prune has os))
    in_prune [] p t m = elim m [ ]
    in_prune (none ∷ os) p t m = in_prune os p t m
    in_prune (some q ∷ os) p t here = rw t here
    in_prune (some q ∷ os) p t (there m) = by_t (has q) (λ s. rw s (there (in_prune os p t m)))
        (λ s. rw s (in_prune os p t m))

    pub prune_once : (os : PlacesOf A) → Distinct (standing os) → Distinct (standing (prune has os))
    prune_once [] d = d
    prune_once (none ∷ os) d = prune_once os d
    prune_once (some q ∷ os) (d_more n d) =
        by_t (has q) (λ t. rw t (d_more (λ m. n (prune_in os q m).1) (prune_once os d))) (λ t. rw t (prune_once os d))

    pub prune_same : (os : PlacesOf A) → ((p : A) → In p (standing os) → has p ≡ true) → prune has os ≡ os
    prune_same [] f = refl
    prune_same (none ∷ os) f = ap (λ (r : PlacesOf A). none ∷ r) (prune_same os f)
    prune_same (some p ∷ os) f = rw (f p here) (ap (λ (r : PlacesOf A). some p ∷ r)
        (prune_same os (λ q m. f q (there m))))

-- A CHANGE: what is new, each once, was not there and is there
pub record New {A : Type 0} (has has' : A → Bool) (ps : List A) : Type 0 where
  pub was_not : (p : A) → In p ps → has p ≡ false
  pub is_now : (p : A) → In p ps → has' p ≡ true
  pub every : (p : A) → has' p ≡ true → has p ≡ false → In p ps
  pub once : Distinct ps

module _ {A : Type 0} {has has' : A → Bool} (os : PlacesOf A) {ps : List A} (new : New has has' ps) where
  pub placed_new : {n : ℕ} → Placed n has os → length ps ≤ free_count os → Placed n has' (prune has' (allocate os ps))
  placed_new pl le = record {
    size = prune_size has' (allocate os ps) ∙ allocate_size os ps ∙ pl.size;
    sound = λ p m. (prune_in has' (allocate os ps) p m).0;
    full = λ p t. in_prune has' (allocate os ps) p t (by_t (has p)
        (λ o. allocate_old os ps (pl.full p o))
        (λ o. allocate_new os ps le (new.every p t o)));
    once = prune_once has' (allocate os ps) (allocate_once os pl.once new.once
        (λ p m k. clash (pl.sound p m) (new.was_not p k)));
  }

  -- a number at which nothing stands: nothing stood there, or something that is no more
  pub number_none : (m : ℕ) → get_or (prune has' (allocate os ps)) m none ≡ none → keep_if has' (get_or os m none) ≡ none
  number_none m e = go (get_or os m none) refl
    where
      go : (o : Option A) → get_or os m none ≡ o → keep_if has' o ≡ none
      go none q = refl
      go (some p) q = ap (keep_if has') (sym (allocate_stays os ps m p q)) ∙
          (sym (prune_get has' (allocate os ps) m) ∙ e)

  -- a free place that something new takes is in use after the change
  pub new_stays : (m : ℕ) → get_or os m none ≡ none → (get_or (allocate os ps) m none ≡ none → ⊥) →
      get_or (prune has' (allocate os ps)) m none ≡ none → ⊥
  new_stays m free taken e = go (get_or (allocate os ps) m none) refl
    where
      go : (o : Option A) → get_or (allocate os ps) m none ≡ o → ⊥
      go none d = taken d
      go (some p) d =
          let t : has' p ≡ true = elim (allocate_get os ps m p d) [
            | inl a ↦ none_some (sym free ∙ a)
            | inr b ↦ new.is_now p b.1
          ] in
          let x : keep_if has' (some p) ≡ none = ap (keep_if has') (sym d) ∙ (sym (prune_get has' (allocate os ps) m) ∙ e)
          in
          none_some (sym (rw t at x))
