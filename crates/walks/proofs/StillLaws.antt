-- With no change in between, budgets alter neither what a walk reports nor the steps that lead to each report (R293).
use Prim.Native.Nat.{ℕ, zero, suc, ◌+◌, ◌≤◌, ◌<◌}
use mathlib.Core.Path.{◌≡◌, refl, sym, ap, subst, ◌∙◌}
use mathlib.Core.List.{List, [], ◌∷◌}
use mathlib.Core.Option.{Option, none, some}
use native.Mathlib.Omega.{arith}
use native.Mathlib.Nat.{add-zero, add-suc}
use lib.Dec.{leb, ltb}
use lib.ListN.{length}
use borrow.Author.Tests.{ltb-true, ltb-false}
use Rattle.blocks.specs.Lists.{All, end, also}
use Rattle.blocks.proofs.BoolLaws.{by_t, both_r}
use Rattle.blocks.proofs.ListLaws.{first_yes, each}
use Rattle.model.specs.declared.Entry.{Entry}
use Rattle.model.specs.Model.{Valid}
use Rattle.lookup.specs.declared.Turn.{Turn}
use Rattle.lookup.specs.declared.Turn.TheVariants.{Hit, Past, On}
use Rattle.lookup.specs.declared.Outcome.{Outcome}
use Rattle.lookup.specs.declared.Outcome.TheVariants.{Found, Ended, Paused}
use Rattle.lookup.specs.Find.{matches, meets, after, step, proceed, find_from, find}
use Rattle.lookup.specs.Steps.{steps, enough}
use Rattle.lookup.proofs.FindLaws.{resume, steps_budget, paused_passed, found_first}
use Rattle.lookup.proofs.BudgetLaws.{Comes, matched, ended, paused, matched_is, ended_is, comes}
use Rattle.lookup.proofs.StepLaws.{Fair, fair_hit, fair_past, fair_on, step_fair}
use Rattle.walks.specs.Walk.{walk, go_on, reporting, still, Unlimited, to_end, to_last, and_on}

-- what a find comes to, n steps later
abbrev later : ℕ → Outcome → Outcome
later n (Found e k) = Found e (n + k)
later n (Ended k) = Ended (n + k)
later n (Paused q k) = Paused q (n + k)

-- it is no pause
abbrev Stops : Outcome → Type 0
Stops (Found e n) = Unit
Stops (Ended n) = Unit
Stops (Paused q n) = ⊥

module _ (l : List Entry) (f z : ℕ) where
  shift : (k p n m : ℕ) → find_from l f z k p (n + m) ≡ later n (find_from l f z k p m)
  unfolding find_from
  shift zero p n m = refl
  shift (suc k) p n m = go (step l f z p) (λ q. subst (λ (x : ℕ). find_from l f z k q x ≡ later n (find_from l f z k q (suc m)))
      (add-suc n m) (shift k q n (suc m)))
    where
      go : (t : Turn) → ((q : ℕ) → find_from l f z k q (suc (n + m)) ≡ later n (find_from l f z k q (suc m))) →
          proceed t (λ q. find_from l f z k q (suc (n + m))) (suc (n + m)) ≡ later n (proceed t (λ q. find_from l f z k q (suc m)) (suc m))
      go (Hit e) r = rw add-suc
      go Past r = rw add-suc
      go (On q) r = r q

  from_now : (k p n : ℕ) → find_from l f z k p n ≡ later n (find l p z f k)
  from_now k p n = subst (λ (x : ℕ). find_from l f z k p x ≡ later n (find l p z f k)) (add-zero n) (shift k p n 0)

  -- a find that no budget limits comes to what a find that stops comes to
  settle : Valid l → (k p : ℕ) (o : Outcome) → p ≤ z → Stops o → find l p z f k ≡ o → find l p z f (enough l) ≡ o
  settle v k p o h s e = go (subst (Comes l p z f k) e (comes l v p z f k h)) s
    where
      go : {o : Outcome} → Comes l p z f k o → Stops o → find l p z f (enough l) ≡ o
      go (matched i b) s = sym (matched_is (comes l v p z f (enough l) h) i (steps_budget l p z f (enough l)))
      go (ended i b) s = sym (ended_is (comes l v p z f (enough l) h) i (steps_budget l p z f (enough l)))
      go (paused b q) s = absurd s

  idle : (p : ℕ) → find l p z f 0 ≡ Paused p 0
  unfolding find_from
  idle p = refl

  -- the finds since p₀ took n steps, and are at p
  whole : Valid l → (ks : List ℕ) (p₀ p n : ℕ) (os : List Outcome) → p₀ ≤ z → p ≤ z → find l p₀ z f n ≡ Paused p n →
      walk f z (still l ks) p n ≡ some os → Unlimited l f z p₀ os
  unfolding walk
  whole v [] p₀ p n os h g e w = let u : ◌≡◌ {A = ℕ} 0 1 = cc in absurd (omega arith)
  whole v (k ∷ ks) p₀ p n os h g e w =
      go (find l p z f k) refl w (λ a b c. whole v ks a b c)
    where
      both_finds : (o : Outcome) → find l p z f k ≡ o → find l p₀ z f (n + k) ≡ later n o
      both_finds o d = resume l f z n k p₀ 0 p n e ∙ from_now k p n ∙ ap (later n) d

      go : (o : Outcome) → find l p z f k ≡ o → go_on z n o (walk f z (still l ks)) ≡ some os →
          ((a b c : ℕ) (os : List Outcome) → a ≤ z → b ≤ z → find l a z f c ≡ Paused b c →
          walk f z (still l ks) b c ≡ some os → Unlimited l f z a os) → Unlimited l f z p₀ os
      go (Ended j) d w rec =
          let q : Ended (n + j) ∷ [] ≡ os = cc in
          subst (Unlimited l f z p₀) q (to_end h (settle v (n + k) p₀ (Ended (n + j)) h tt (both_finds (Ended j) d)))
      go (Paused q j) d w rec =
          let (a, b, c, u) = paused_passed l v p z f k g q j d in
          rec p₀ q (n + j) os h c (subst (λ (x : ℕ). find l p₀ z f (n + x) ≡ Paused q (n + j)) (sym a) (both_finds (Paused q j) d)) w
      go (Found x j) d w rec =
          let s : find l p₀ z f (enough l) ≡ Found x (n + j) = settle v (n + k) p₀ (Found x (n + j)) h tt (both_finds (Found x j) d) in
          by_t (ltb z (after x))
          (λ b. let r : some (Found x (n + j) ∷ []) ≡ some os = rw b at w in
          let q : Found x (n + j) ∷ [] ≡ os = cc in
          subst (Unlimited l f z p₀) q (to_last h s (ltb-true _ _ b)))
          (λ b. on (walk f z (still l ks) (after x) 0) refl (rw b at w) s (ltb-false _ _ b))
        where
          on : (r : Option (List Outcome)) → walk f z (still l ks) (after x) 0 ≡ r → reporting (Found x (n + j)) r ≡ some os →
              find l p₀ z f (enough l) ≡ Found x (n + j) → after x ≤ z → Unlimited l f z p₀ os
          on none q w s i = let u : ◌≡◌ {A = ℕ} 0 1 = cc in absurd (omega arith)
          on (some ps) q w s i =
              let u : Found x (n + j) ∷ ps ≡ os = cc in
              subst (Unlimited l f z p₀) u (and_on h s i (rec (after x) (after x) 0 ps i i (idle (after x)) q))

  one : {p : ℕ} {os ps : List Outcome} → Unlimited l f z p os → Unlimited l f z p ps → os ≡ ps
  one (to_end h e) (to_end g d) = ap (λ (o : Outcome). o ∷ []) (sym e ∙ d)
  one (to_end h e) (to_last g d i) = let u : ◌≡◌ {A = ℕ} 0 1 = cc in absurd (omega arith)
  one (to_end h e) (and_on g d i r) = let u : ◌≡◌ {A = ℕ} 0 1 = cc in absurd (omega arith)
  one (to_last h e j) (to_end g d) = let u : ◌≡◌ {A = ℕ} 0 1 = cc in absurd (omega arith)
  one (to_last h e j) (to_last g d i) = ap (λ (o : Outcome). o ∷ []) (sym e ∙ d)
  one (to_last {e = x} h e j) (and_on {e = y} g d i r) = let u : x ≡ y = cc in absurd (omega (arith, ap after u))
  one (and_on h e j s) (to_end g d) = let u : ◌≡◌ {A = ℕ} 0 1 = cc in absurd (omega arith)
  one (and_on {e = x} h e j s) (to_last {e = y} g d i) = let u : x ≡ y = cc in absurd (omega (arith, ap after u))
  one (and_on {n = n} {e = x} h e j s) (and_on {n = m} {e = y} {os = ps} g d i r) =
      let u : x ≡ y = cc in
      let w : Found x n ≡ Found y m = sym e ∙ d in
      rw w (ap (λ (t : List Outcome). Found y m ∷ t) (one s (subst (λ (a : Entry). Unlimited l f z (after a) ps) (sym u) r)))

  short : {p : ℕ} {os : List Outcome} → Unlimited l f z p os → All (λ o. steps o ≤ enough l) os
  short (to_end {p} h e) = also (subst (λ (o : Outcome). steps o ≤ enough l) e (steps_budget l p z f (enough l))) end
  short (to_last {p} h e i) = also (subst (λ (o : Outcome). steps o ≤ enough l) e (steps_budget l p z f (enough l))) end
  short (and_on {p} h e i r) = also (subst (λ (o : Outcome). steps o ≤ enough l) e (steps_budget l p z f (enough l))) (short r)

  -- EVERY WALK ENDS: a find with budget left goes on
  advance : Valid l → (k p q n : ℕ) → p ≤ z → find l p z f (suc k) ≡ Paused q n → p < q
  unfolding find_from
  advance v k p q n h e = go (step_fair l v f z p h) e
    where
      go : {t : Turn} → Fair l f z p t → proceed t (λ q. find_from l f z k q 1) 1 ≡ Paused q n → p < q
      go (fair_hit x c m) d = let u : ◌≡◌ {A = ℕ} 0 1 = cc in absurd (omega arith)
      go (fair_past s) d = let u : ◌≡◌ {A = ℕ} 0 1 = cc in absurd (omega arith)
      go (fair_on {q = r} a b c s) d = inner (find l r z f k) refl (sym (from_now k r 1) ∙ d)
        where
          inner : (o : Outcome) → find l r z f k ≡ o → later 1 o ≡ Paused q n → p < q
          inner (Found x j) i g = let u : ◌≡◌ {A = ℕ} 0 1 = cc in absurd (omega arith)
          inner (Ended j) i g = let u : ◌≡◌ {A = ℕ} 0 1 = cc in absurd (omega arith)
          inner (Paused y j) i g =
              let w : y ≡ q = cc in
              let (a', b', c', d') = paused_passed l v r z f k b y j i in
              omega arith

  found_past : Valid l → (k p n : ℕ) (e : Entry) → p ≤ z → find l p z f k ≡ Found e n → p < after e
  found_past v k p n e h d =
      let (m, i) = first_yes (meets f p z) (each l (λ x i. i)) (found_first l v p z f k h e n d) in
      ltb-true _ _ (both_r (leb e.base z) (ltb p (after e)) (both_r (matches f e) _ m))

  ends : Valid l → (ks : List ℕ) → All (λ k. 0 < k) ks → (p n : ℕ) → p ≤ z → z < p + length ks →
      (os : List Outcome) × (walk f z (still l ks) p n ≡ some os)
  unfolding walk
  ends v [] end p n h g = absurd (omega arith)
  ends v (zero ∷ ks) (also b bs) p n h g = absurd (omega arith)
  ends v (suc k ∷ ks) (also b bs) p n h g = go (find l p z f (suc k)) refl (λ q m. ends v ks bs q m)
    where
      go : (o : Outcome) → find l p z f (suc k) ≡ o → ((q m : ℕ) → q ≤ z → z < q + length ks →
          (os : List Outcome) × (walk f z (still l ks) q m ≡ some os)) →
          (os : List Outcome) × (go_on z n o (walk f z (still l ks)) ≡ some os)
      go (Ended j) d rec = (Ended (n + j) ∷ [], refl)
      go (Paused q j) d rec =
          let (a, b, c, u) = paused_passed l v p z f (suc k) h q j d in
          let w : p < q = advance v k p q j h d in
          rec q (n + j) c (omega arith)
      go (Found x j) d rec =
          let w : p < after x = found_past v (suc k) p j x h d in
          by_t (ltb z (after x)) (λ t. (Found x (n + j) ∷ [], rw t))
          (λ t. let i : after x ≤ z = ltb-false _ _ t in
          let (os, e) = rec (after x) 0 i (omega arith) in (Found x (n + j) ∷ os, rw (t, e)))

-- R293: any budgets yield what finds that no budget limits yield
pub as_unlimited : (l : List Entry) → Valid l → (f a z : ℕ) (ks : List ℕ) (os : List Outcome) → a ≤ z →
    walk f z (still l ks) a 0 ≡ some os → Unlimited l f z a os
as_unlimited l v f a z ks os h e = whole l f z v ks a a 0 os h h (idle l f z a) e

-- and so any two the same reports, with the same steps together for each
pub budgets_agree : (l : List Entry) → Valid l → (f a z : ℕ) (ks js : List ℕ) (os ps : List Outcome) → a ≤ z →
    walk f z (still l ks) a 0 ≡ some os → walk f z (still l js) a 0 ≡ some ps → os ≡ ps
budgets_agree l v f a z ks js os ps h e d =
    one l f z (as_unlimited l v f a z ks os h e) (as_unlimited l v f a z js ps h d)

-- each match, and the end, takes at most 64U + 2 steps together
pub few_steps : (l : List Entry) → Valid l → (f a z : ℕ) (ks : List ℕ) (os : List Outcome) → a ≤ z →
    walk f z (still l ks) a 0 ≡ some os → All (λ o. steps o ≤ enough l) os
few_steps l v f a z ks os h e = short l f z (as_unlimited l v f a z ks os h e)

-- a walk with budgets above 0 comes to its end
pub walk_ends : (l : List Entry) → Valid l → (f a z : ℕ) (ks : List ℕ) → All (λ k. 0 < k) ks → a ≤ z → z < a + length ks →
    (os : List Outcome) × (walk f z (still l ks) a 0 ≡ some os)
walk_ends l v f a z ks b h g = ends l f z v ks b a 0 h g
