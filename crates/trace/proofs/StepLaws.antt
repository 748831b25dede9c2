-- Lists of steps: the last step that made a test hold, the first that ended it, what none of them did, and what that keeps.
use Prim.Native.Nat.{ℕ}
use mathlib.Core.Path.{◌≡◌, refl, ap}
use mathlib.Core.Bool.{Bool, true, false, not}
use mathlib.Core.Logic.{◌⊎◌, inl, inr}
use mathlib.Core.List.{List, [], ◌∷◌, ◌++◌}
use Rattle.blocks.specs.Choice.{both}
use Rattle.blocks.specs.Lists.{All, end, also}
use Rattle.blocks.proofs.BoolLaws.{by_t, clash, is_false, both_i, both_l, both_r, not-true}
use Rattle.blocks.proofs.ListLaws.{any_more}
use Rattle.model.specs.declared.Entry.{Entry}
use Rattle.model.specs.Model.{Valid, Sorted.done, has_mark, matched_mark}
use Rattle.batch.specs.Fits.{Fits}
use Rattle.execute.proofs.ExecuteLaws.{execute_keeps}
use Rattle.trace.specs.Trace.{
  Step,
  Step.cleared,
  Step.ran,
  next,
  after,
  throughout,
  never,
  same,
  stands,
  matched,
  enter,
  take,
  match,
  unmatch,
}
use Rattle.trace.proofs.CommandLaws.{born, gone}
use Rattle.trace.proofs.MatchLaws.{mark_born, unmatched}
use Rattle.trace.proofs.ConverseLaws.{mark_gone}

pub after_append : (n : ℕ) (l : List Entry) (xs ys : List Step) → after n l (xs ++ ys) ≡ after n (after n l xs) ys
after_append n l [] ys = refl
after_append n l (x ∷ xs) ys = after_append n (next n l x) xs ys

pub first_moment : (n : ℕ) (q : List Entry → Bool) (l : List Entry) (ss : List Step) → throughout n q l ss ≡ true → q l ≡ true
first_moment n q l [] h = h
first_moment n q l (s ∷ ss) h = both_l (q l) (throughout n q (next n l s) ss) h

pub last_moment : (n : ℕ) (q : List Entry → Bool) (l : List Entry) (ss : List Step) → throughout n q l ss ≡ true →
    q (after n l ss) ≡ true
last_moment n q l [] h = h
last_moment n q l (s ∷ ss) h = last_moment n q (next n l s) ss (both_r (q l) (throughout n q (next n l s) ss) h)

-- THE CLAIMS, of any test
module _ (n : ℕ) (l : List Entry) (ss : List Step) where
  -- a step of them that passes, and the test holds at every moment since
  pub record Since (p : List Entry → Step → Bool) (q : List Entry → Bool) : Type 0 where
    pub before : List Step
    pub step : Step
    pub later : List Step
    pub among : ss ≡ before ++ (step ∷ later)
    pub passes : p (after n l before) step ≡ true
    pub holds : throughout n q (next n (after n l before) step) later ≡ true

  -- the test holds at every moment until a step of them that passes
  pub record Until (p : List Entry → Step → Bool) (q : List Entry → Bool) : Type 0 where
    pub before : List Step
    pub step : Step
    pub later : List Step
    pub among : ss ≡ before ++ (step ∷ later)
    pub held : throughout n q l before ≡ true
    pub passes : p (after n l before) step ≡ true

-- of lists that have some property, which steps keep
module _ (n : ℕ) (I : List Entry → Type 0) (F : Step → Type 0)
    (keep : (l : List Entry) (s : Step) → I l → F s → I (next n l s)) (p : List Entry → Step → Bool)
    (q : List Entry → Bool) where
  since : ((l : List Entry) → I l → (s : Step) → q (next n l s) ≡ true → q l ≡ false → p l s ≡ true) →
      (l : List Entry) → I l → {ss : List Step} → All F ss → q (after n l ss) ≡ true →
      Since n l ss p q ⊎ (throughout n q l ss ≡ true)
  since one l v end t = inr t
  since one l v (also {x = s} {l = ss} f fs) t =
      elim (since one (next n l s) (keep l s v f) fs t) [
        | inl x ↦ inl (record {
          before = s ∷ x.before;
          step = x.step;
          later = x.later;
          among = ap (λ (r : List Step). s ∷ r) x.among;
          passes = x.passes;
          holds = x.holds;
        })
        | inr h ↦ by_t (q l) (λ y. inr (both_i y h))
            (λ y. inl (record {
              before = [];
              step = s;
              later = ss;
              among = refl;
              passes = one l v s (first_moment n q (next n l s) ss h) y;
              holds = h;
            }))
      ]

  until : ((l : List Entry) → I l → (s : Step) → q l ≡ true → q (next n l s) ≡ false → p l s ≡ true) →
      (l : List Entry) → I l → {ss : List Step} → All F ss → q l ≡ true → q (after n l ss) ≡ false →
      Until n l ss p q
  until one l v end t f = absurd (clash t f)
  until one l v (also {x = s} {l = ss} g gs) t f =
      by_t (q (next n l s))
      (λ y. let x : Until n (next n l s) ss p q = until one (next n l s) (keep l s v g) gs y f in
      record {
        before = s ∷ x.before;
        step = x.step;
        later = x.later;
        among = ap (λ (r : List Step). s ∷ r) x.among;
        held = both_i t x.held;
        passes = x.passes;
      })
      (λ y. record { before = []; step = s; later = ss; among = refl; held = t; passes = one l v s t y })

  spared : ((l : List Entry) → I l → (s : Step) → p l s ≡ true → q (next n l s) ≡ false) →
      (l : List Entry) → I l → {ss : List Step} → All F ss → throughout n q l ss ≡ true → never n p l ss ≡ true
  spared one l v end t = refl
  spared one l v (also {x = s} {l = ss} f fs) t =
      let r : throughout n q (next n l s) ss ≡ true = both_r (q l) (throughout n q (next n l s) ss) t in
      let z : p l s ≡ false = is_false (λ y. clash (first_moment n q (next n l s) ss r) (one l v s y)) in
      both_i {a = not (p l s)} (rw z) (spared one (next n l s) (keep l s v f) fs r)

  remains : ((l : List Entry) → I l → (s : Step) → q l ≡ true → q (next n l s) ≡ false → p l s ≡ true) →
      (l : List Entry) → I l → {ss : List Step} → All F ss → q l ≡ true → never n p l ss ≡ true → throughout n q l ss ≡ true
  remains one l v end t h = t
  remains one l v (also {x = s} {l = ss} f fs) t h =
      let z : p l s ≡ false = not-true (p l s) (both_l (not (p l s)) (never n p (next n l s) ss) h) in
      let u : q (next n l s) ≡ true = by_t (q (next n l s)) (λ y. y) (λ y. absurd (clash (one l v s t y) z)) in
      both_i t (remains one (next n l s) (keep l s v f) fs u (both_r (not (p l s)) (never n p (next n l s) ss) h))

-- nothing asked
abbrev Any : {A : Type 0} → A → Type 0
Any x = Unit

all_any : (ss : List Step) → All Any ss
all_any [] = end
all_any (s ∷ ss) = also tt (all_any ss)

-- HOW A RECORD GOES, of any list and any steps
pub went : (n : ℕ) (l : List Entry) (ss : List Step) (e : Entry) → stands e l ≡ true → stands e (after n l ss) ≡ false →
    Until n l ss (take n e) (stands e)
went n l ss e t f = until n Any Any (λ k s v f. tt) (take n e) (stands e) (λ k v s. gone e n k s) l tt (all_any ss) t f

-- STEPS WHOSE FIELDS FIT keep a list valid
abbrev pub Fitting : Step → Type 0
Fitting cleared = Unit
Fitting (ran c) = Fits c

pub next_valid : (n : ℕ) (l : List Entry) (s : Step) → Valid l → Fitting s → Valid (next n l s)
next_valid n l cleared v f = done
next_valid n l (ran c) v f = (execute_keeps n l v c f).valid

pub after_valid : (n : ℕ) (l : List Entry) {ss : List Step} → Valid l → All Fitting ss → Valid (after n l ss)
after_valid n l v end = v
after_valid n l v (also {x = s} f fs) = after_valid n (next n l s) (next_valid n l s v f) fs

pub all_append : {A : Type 0} {P : A → Type 0} (xs : List A) {ys : List A} → All P (xs ++ ys) → All P xs × All P ys
all_append [] a = (end, a)
all_append (x ∷ xs) (also h a) = let (b, c) = all_append xs a in (also h b, c)

pub matched_stands : (e : Entry) (l : List Entry) → matched e l ≡ true → stands e l ≡ true
matched_stands e l t =
    any_more (λ x. both (same e x) (has_mark matched_mark x)) (same e) l (λ x h. both_l (same e x) (has_mark matched_mark x) h) t

module _ (n : ℕ) (l : List Entry) (v : Valid l) {ss : List Step} (fs : All Fitting ss) (e : Entry) where
  -- WHERE A RECORD COMES FROM
  pub came : stands e (after n l ss) ≡ true → Since n l ss (enter n e) (stands e) ⊎ (throughout n (stands e) l ss ≡ true)
  came t = since n Valid Fitting (next_valid n) (enter n e) (stands e) (born e n) l v fs t

  -- WHAT MARK 2 IS WORTH
  pub matched_since : matched e (after n l ss) ≡ true →
      Since n l ss (match n e) (matched e) ⊎ (throughout n (matched e) l ss ≡ true)
  matched_since t = since n Valid Fitting (next_valid n) (match n e) (matched e) (mark_born e n) l v fs t

  pub matched_spared : throughout n (matched e) l ss ≡ true → never n (unmatch n e) l ss ≡ true
  matched_spared h = spared n Valid Fitting (next_valid n) (unmatch n e) (matched e) (unmatched e n) l v fs h

  pub matched_remains : matched e l ≡ true → never n (unmatch n e) l ss ≡ true → throughout n (matched e) l ss ≡ true
  matched_remains t h =
      remains n Valid Fitting (next_valid n) (unmatch n e) (matched e) (λ k w s. mark_gone n k w e s) l v fs t h
