-- A walk misses no index that an accepted entry covers at each of its finds, whatever changes in between (R294, R295, R298).
use Prim.Native.Nat.{ℕ, ◌+◌, ◌≤◌, ◌<◌}
use mathlib.Core.Path.{◌≡◌, refl, ap, subst}
use mathlib.Core.Bool.{Bool, true, false}
use mathlib.Core.List.{List, [], ◌∷◌}
use mathlib.Core.Option.{Option, none, some}
use native.Mathlib.Omega.{arith}
use native.Mathlib.Nat.{le_refl}
use lib.Dec.{leb, ltb}
use borrow.Author.Tests.{ltb-true, ltb-false, lt-ltb, le-leb}
use Rattle.blocks.specs.Choice.{both}
use Rattle.blocks.specs.Lists.{first, All, end, also, In, here, there}
use Rattle.blocks.proofs.BoolLaws.{by_t, clash, both_l, both_r, either_yes}
use Rattle.blocks.proofs.ListLaws.{any_in_lem, first_yes, first_no, look, each}
use Rattle.model.specs.declared.Entry.{Entry}
use Rattle.model.specs.Model.{EntryOk, reserved, covers, Sorted, more, Valid}
use Rattle.model.proofs.ValidLaws.{covers_i, covers_lo, covers_hi, sorted_ok}
use Rattle.lookup.specs.declared.Outcome.{Outcome}
use Rattle.lookup.specs.declared.Outcome.TheVariants.{Found}
use Rattle.lookup.specs.Find.{matches, after, find, meets}
use Rattle.lookup.proofs.FindLaws.{Right, right_found, right_ended, right_paused, find_right}
use Rattle.walks.specs.Walk.{Moment, walk, go_on, reporting, next_of, wherever, until, accepts, reports}

-- R294: no filter accepts a reservation
pub no_reservation : (f : ℕ) (e : Entry) → reserved e ≡ true → matches f e ≡ false
no_reservation f e r = rw r

-- an accepted entry over i meets each range with i
pub record Over (l : List Entry) (f a z i : ℕ) : Type 0 where
  pub entry : Entry
  pub inside : In entry l
  pub meets_it : meets f a z entry ≡ true
  pub low : entry.base ≤ i

over : (l : List Entry) (f a z i : ℕ) → Valid l → a ≤ i → i ≤ z → accepts f i l ≡ true → Over l f a z i
over l f a z i v h g t =
    let (x, m, b) = any_in_lem (λ e. both (covers i e) (matches f e)) l t in
    let k : covers i x ≡ true = both_l (covers i x) (matches f x) b in
    let ok : EntryOk x = look (sorted_ok v) m in
    let lo : x.base ≤ i = covers_lo x i ok k in
    let hi : i < after x = covers_hi x i ok k in
    record {
      entry = x;
      inside = m;
      meets_it = rw (both_r (covers i x) (matches f x) b, le-leb x.base z (omega arith), lt-ltb a (after x) (omega arith));
      low = lo;
    }

-- no entry before the first match is one
above : {n : ℕ} {l : List Entry} {e : Entry} → Sorted n l → In e l → n ≤ e.base
above {e = e} (Rattle.model.specs.Model.done {n = n}) x4 = elim x4 [ ]
above (more h ok s) here = h
above (more {e = x} h ok s) (there m) = omega (arith, above s m)

first_least : (q : Entry → Bool) {n : ℕ} {l : List Entry} {e x : Entry} → Sorted n l → first q l ≡ some e → In x l → q x ≡ true →
    e.base ≤ x.base
first_least q {e = e} {x = x} (Rattle.model.specs.Model.done {n = n}) d x14 t = elim x14 [ ]
first_least q {e = e} {x = x} (more h ok s) d here t =
    let r : some x ≡ some e = rw t at d in
    let i : x.base ≡ e.base = let z : x ≡ e = cc in ap (λ (w : Entry). w.base) z in
    omega arith
first_least q {e = e} {x = x} (more {e = y} h ok s) d (there m) t =
    by_t (q y)
    (λ yes. let r : some y ≡ some e = rw yes at d in
    let i : y.base ≡ e.base = let z : y ≡ e = cc in ap (λ (w : Entry). w.base) z in
    omega (arith, above s m))
    (λ no. first_least q s (rw no at d) m t)

module _ (f z i : ℕ) (iz : i ≤ z) where
  abbrev Reported : List Outcome → Type 0
  Reported os = reports i os ≡ true

  -- what is left of the walk
  abbrev Rest : List Moment → Type 0
  Rest ms = (p n : ℕ) (os : List Outcome) → walk f z ms p n ≡ some os → p ≤ i →
      All (λ m. accepts f i m.list ≡ true) (until f z i ms p) → Reported os

  turn : (l : List Entry) (ms : List Moment) (p n k : ℕ) (os : List Outcome) → Valid l → p ≤ i → accepts f i l ≡ true →
      Rest ms → {o : Outcome} → Right l p z f k o → go_on z n o (walk f z ms) ≡ some os →
      All (λ m. accepts f i m.list ≡ true) (wherever (next_of z o) (until f z i ms)) → Reported os
  turn l ms p n k os v h t rest (right_ended j none-to b d) e gs =
      let x = over l f p z i v h iz t in
      absurd (clash x.meets_it (look (first_no (meets f p z) l none-to) x.inside))
  turn l ms p n k os v h t rest (right_found y j is b d) e gs =
      let x : Over l f p z i = over l f p z i v h iz t in
      let (yt, ym) = first_yes (meets f p z) (each l (λ y n. n)) is in
      let low : y.base ≤ x.entry.base = first_least (meets f p z) v is x.inside x.meets_it in
      let lo : x.entry.base ≤ i = x.low in
      let in_run_lem : i < after y → covers i y ≡ true = λ a. covers_i y i (look (sorted_ok v) ym) (omega (arith, low, lo)) a in
      by_t (ltb z (after y))
      (λ a. let r : some (Found y (n + j) ∷ []) ≡ some os = rw a at e in
      let q : Found y (n + j) ∷ [] ≡ os = cc in
      subst Reported q (rw (in_run_lem (omega (arith, ltb-true z (after y) a)))))
      (λ a. go _ _ refl (rw a at e) in_run_lem (omega arith) (rw a at gs))
    where
      go : (at : ℕ) (r : Option (List Outcome)) → walk f z ms at 0 ≡ r → reporting (Found y (n + j)) r ≡ some os →
          (i < after y → covers i y ≡ true) → at ≤ after y →
          All (λ m. accepts f i m.list ≡ true) (until f z i ms at) → Reported os
      go at none q e g h gs = let u : ◌≡◌ {A = ℕ} 0 1 = cc in absurd (omega arith)
      go at (some ps) q e g h gs =
          let u : Found y (n + j) ∷ ps ≡ os = cc in
          subst Reported u
          (by_t (ltb i (after y)) (λ a. rw (g (ltb-true _ _ a)))
          (λ a. rw (rest at 0 ps q (omega (arith, ltb-false i (after y) a)) gs, either_yes)))
  turn l ms p n k os v h t rest (right_paused q j lo hi none-to b d) e gs =
      by_t (ltb i q)
      (λ a. let x = over l f p i i v h (le_refl i) t in
      absurd (clash x.meets_it (look (first_no (meets f p i) l (none-to i h (ltb-true _ _ a))) x.inside)))
      (λ a. rest _ _ os e (omega (arith, ltb-false i q a)) gs)

  misses : (ms : List Moment) → All (λ m. Valid m.list) ms → Rest ms
  unfolding walk until
  misses [] end p n os e h gs = let u : ◌≡◌ {A = ℕ} 0 1 = cc in absurd (omega arith)
  misses (m ∷ ms) (also v vs) p n os e h gs = go (misses ms vs) (rw (le-leb p i h) at gs)
    where
      go : Rest ms → All (λ m. accepts f i m.list ≡ true)
          (m ∷ wherever (next_of z (find m.list p z f m.budget)) (until f z i ms)) → Reported os
      go rest (also t ts) =
          turn m.list ms p n m.budget os v h t rest
          (find_right m.list v p z f m.budget (omega arith)) e ts

-- R298: a walk from a to z misses no index that an accepted entry covers until the walk is past it
pub none_missed_until : (f a z i : ℕ) (ms : List Moment) (os : List Outcome) → a ≤ i → i ≤ z → All (λ m. Valid m.list) ms →
    All (λ m. accepts f i m.list ≡ true) (until f z i ms a) → walk f z ms a 0 ≡ some os → reports i os ≡ true
none_missed_until f a z i ms os h g vs all e = misses f z i g ms vs a 0 os e h all

-- the finds until then are finds of the walk
until_all : {P : Moment → Type 0} (f z i : ℕ) {ms : List Moment} → All P ms → (p : ℕ) → All P (until f z i ms p)
unfolding until
until_all f z i end p = end
until_all {P} f z i (also {x = m} {l = ms} t ts) p =
    by_t (leb p i) (λ b. rw b (also t (go (next_of z (find m.list p z f m.budget)) (λ q. until_all f z i ts q)))) (λ b. rw b end)
  where
    go : (o : Option ℕ) → ((q : ℕ) → All P (until f z i ms q)) → All P (wherever o (until f z i ms))
    go none g = end
    go (some q) g = g q

-- R295: a walk from a to z misses no index that an accepted entry covers throughout
pub no_index_missed : (f a z i : ℕ) (ms : List Moment) (os : List Outcome) → a ≤ i → i ≤ z → All (λ m. Valid m.list) ms →
    All (λ m. accepts f i m.list ≡ true) ms → walk f z ms a 0 ≡ some os → reports i os ≡ true
no_index_missed f a z i ms os h g vs all e = none_missed_until f a z i ms os h g vs (until_all f z i all a) e
