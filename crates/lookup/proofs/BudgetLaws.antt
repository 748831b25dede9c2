-- What a find comes to, by its first match, the steps to it or to the end, and its budget (R62 to R66).
use Prim.Native.Nat.{ℕ, zero, suc, ◌+◌, ◌-◌, ◌≤◌, ◌<◌}
use mathlib.Core.Path.{◌≡◌, refl, sym, ap, subst, ◌∙◌}
use mathlib.Core.Logic.{◌⊎◌, inl, inr}
use mathlib.Core.List.{List}
use mathlib.Core.Option.{none, some}
use native.Mathlib.Omega.{arith}
use native.Mathlib.Nat.{le_refl, suc-add}
use lib.Dec.{leb}
use borrow.Author.Tests.{leb-true, leb-false}
use Rattle.blocks.proofs.BoolLaws.{by_t}
use Rattle.model.specs.declared.Entry.{Entry}
use Rattle.model.specs.Model.{Valid}
use Rattle.lookup.specs.declared.Turn.{Turn}
use Rattle.lookup.specs.declared.Turn.TheVariants.{Hit, Past, On}
use Rattle.lookup.specs.declared.Outcome.{Outcome}
use Rattle.lookup.specs.declared.Outcome.TheVariants.{Found, Ended, Paused}
use Rattle.lookup.specs.Find.{step, proceed, find_from, find, first_match}
use Rattle.lookup.specs.Steps.{steps, enough, steps_in, PausesAt}
use Rattle.lookup.proofs.FindLaws.{Right, right_found, right_ended, right_paused, find_right, steps_budget, resume, no_pause}

module _ (l : List Entry) (f last : ℕ) where
  counted : (k n : ℕ) (t : Turn) → ((q : ℕ) → suc n ≤ steps (find_from l f last k q (suc n))) →
      n < steps (proceed t (λ q. find_from l f last k q (suc n)) (suc n))
  counted k n (Hit e) g = le_refl (suc n)
  counted k n Past g = le_refl (suc n)
  counted k n (On q) g = g q

  taken : (k p n : ℕ) → n ≤ steps (find_from l f last k p n)
  unfolding find_from
  taken zero p n = le_refl n
  taken (suc k) p n = omega (arith, counted k n (step l f last p) (λ q. taken k q (suc n)))

  -- a find that has budget left takes a step
  taken_one : (k p n : ℕ) → n < steps (find_from l f last (suc k) p n)
  unfolding find_from
  taken_one k p n = counted k n (step l f last p) (λ q. taken k q (suc n))

  -- unless it pauses, a larger budget changes nothing
  larger : (k j p n : ℕ) → ((q : ℕ) × (m : ℕ) × (find_from l f last k p n ≡ Paused q m))
      ⊎ (find_from l f last (k + j) p n ≡ find_from l f last k p n)
  unfolding find_from
  larger zero j p n = inl (p, n, refl)
  larger (suc k) j p n = rw suc-add (go (step l f last p) (λ q. larger k j q (suc n)))
    where
      go : (t : Turn) → ((q : ℕ) → ((r : ℕ) × (m : ℕ) × (find_from l f last k q (suc n) ≡ Paused r m))
          ⊎ (find_from l f last (k + j) q (suc n) ≡ find_from l f last k q (suc n))) →
          ((r : ℕ) × (m : ℕ) × (proceed t (λ q. find_from l f last k q (suc n)) (suc n) ≡ Paused r m))
          ⊎ (proceed t (λ q. find_from l f last (k + j) q (suc n)) (suc n)
          ≡ proceed t (λ q. find_from l f last k q (suc n)) (suc n))
      go (Hit e) g = inr refl
      go Past g = inr refl
      go (On q) g = g q

-- what a find comes to, by its first match and the steps to it or to the end
pub data Comes (l : List Entry) (a z f k : ℕ) : Outcome → Type 0 where
  matched : {e : Entry} → first_match l a z f ≡ some e → steps_in l a z f ≤ k → Comes l a z f k (Found e (steps_in l a z f))
  ended : first_match l a z f ≡ none → steps_in l a z f ≤ k → Comes l a z f k (Ended (steps_in l a z f))
  paused : {p : ℕ} → k < steps_in l a z f → PausesAt l a z f k p → Comes l a z f k (Paused p k)

module _ {l : List Entry} {a z f k : ℕ} where
  -- which of them, by the condition
  pub matched_is : {o : Outcome} {e : Entry} → Comes l a z f k o → first_match l a z f ≡ some e → steps_in l a z f ≤ k →
      Found e (steps_in l a z f) ≡ o
  matched_is {e = e} (matched {e = x} i s) m r =
      let d : e ≡ x = cc in ap (λ (y : Entry). Found y (steps_in l a z f)) d
  matched_is (ended i s) m r = let w : ◌≡◌ {A = ℕ} 0 1 = cc in absurd (omega arith)
  matched_is (paused s p) m r = absurd (omega arith)

  pub ended_is : {o : Outcome} → Comes l a z f k o → first_match l a z f ≡ none → steps_in l a z f ≤ k →
      Ended (steps_in l a z f) ≡ o
  ended_is (matched i s) m r = let w : ◌≡◌ {A = ℕ} 0 1 = cc in absurd (omega arith)
  ended_is (ended i s) m r = refl
  ended_is (paused s p) m r = absurd (omega arith)

module _ (l : List Entry) (v : Valid l) (a z f k : ℕ) (h : a ≤ z) where
  -- a find within its budget is the one that has enough
  settled : find l a z f k ≡ find l a z f (enough l) → Comes l a z f k (find l a z f k)
  settled e =
      subst (Comes l a z f k) (sym e)
      (go (find_right l v a z f (enough l) h) refl (subst (λ (o : Outcome). steps o ≤ k) e (steps_budget l a z f k)))
    where
      go : {o : Outcome} → Right l a z f (enough l) o → find l a z f (enough l) ≡ o → steps_in l a z f ≤ k →
          Comes l a z f k o
      go (right_found x m i j r) d s =
          subst (λ (y : ℕ). Comes l a z f k (Found x y)) (ap steps d) (matched i s)
      go (right_ended m i j r) d s = subst (λ (y : ℕ). Comes l a z f k (Ended y)) (ap steps d) (ended i s)
      go (right_paused p m i j r b c) d s = absurd (no_pause l v a z f (enough l) h (le_refl _) p m d)

  -- one that pauses needs more steps than its budget
  pausing : (p m j : ℕ) → find l a z f k ≡ Paused p m → enough l ≡ k + j → Comes l a z f k (find l a z f k)
  pausing p m zero e d = absurd (no_pause l v a z f k h (omega arith) p m e)
  pausing p m (suc j) e d =
      let more : find l a z f (k + suc j) ≡ find_from l f z (suc j) p m = resume l f z k (suc j) a 0 p m e in
      let s : m < steps (find l a z f (k + suc j)) = subst (λ (o : Outcome). m < steps o) (sym more)
      (taken_one l f z j p m) in
      subst (Comes l a z f k) (sym e) (go (find_right l v a z f k h) e
      (subst (λ (b : ℕ). m < steps (find l a z f b)) (sym d) s))
    where
      go : {o : Outcome} → Right l a z f k o → o ≡ Paused p m → m < steps_in l a z f → Comes l a z f k (Paused p m)
      go (right_found x i b c r) o s = let w : ◌≡◌ {A = ℕ} 0 1 = cc in absurd (omega arith)
      go (right_ended i b c r) o s = let w : ◌≡◌ {A = ℕ} 0 1 = cc in absurd (omega arith)
      go (right_paused q i lo hi none-to b c) o s =
          let p≡ : q ≡ p = cc in
          let m≡ : m ≡ k = let w : i ≡ m = cc in omega arith in
          subst (λ (y : ℕ). Comes l a z f k (Paused p y)) (sym m≡)
          (paused (omega (arith, s, m≡))
          (record {
            by_steps = subst (λ (y : ℕ). find l a z f k ≡ Paused p y) m≡ e;
            from_first = subst (λ (y : ℕ). a ≤ y) p≡ lo;
            to_last = subst (λ (y : ℕ). y ≤ z) p≡ hi;
            passed = subst (λ (x : ℕ). (y : ℕ) → a ≤ y → y < x → first_match l a y f ≡ none) p≡ none-to;
          }))

  pub comes : Comes l a z f k (find l a z f k)
  comes = by_t (leb k (enough l)) (λ t. under (leb-true _ _ t)) (λ t. above (leb-false _ _ t))
    where
      under : k ≤ enough l → Comes l a z f k (find l a z f k)
      under g = let d : enough l ≡ k + (enough l - k) = omega arith in go d (larger l f z k (enough l - k) a 0)
        where
          go : enough l ≡ k + (enough l - k) → ((q : ℕ) × (m : ℕ) × (find l a z f k ≡ Paused q m))
              ⊎ (find l a z f (k + (enough l - k)) ≡ find l a z f k) → Comes l a z f k (find l a z f k)
          go d (inl (q, m, e)) = pausing q m (enough l - k) e d
          go d (inr e) = settled (sym e ∙ ap (find l a z f) (sym d))

      above : enough l < k → Comes l a z f k (find l a z f k)
      above g =
          let d : k ≡ enough l + (k - enough l) = omega arith in go d (larger l f z (enough l) (k - enough l) a 0)
        where
          go : k ≡ enough l + (k - enough l) → ((q : ℕ) × (m : ℕ) × (find l a z f (enough l) ≡ Paused q m))
              ⊎ (find l a z f (enough l + (k - enough l)) ≡ find l a z f (enough l)) → Comes l a z f k (find l a z f k)
          go d (inl (q, m, e)) = absurd (no_pause l v a z f (enough l) h (le_refl _) q m e)
          go d (inr e) = settled (ap (find l a z f) d ∙ e)
