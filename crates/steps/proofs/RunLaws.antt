-- The run of an entry, counted slot by slot, and the slots below 2^64 of a node.
use Prim.Native.Nat.{ℕ, zero, suc, ◌+◌, ◌*◌, ◌-◌, ◌%◌, ◌^◌, ◌≤◌, ◌<◌}
use mathlib.Core.Path.{◌≡◌, refl, ap, ◌∙◌, subst, sym}
use mathlib.Core.Bool.{true, false, Bool}
use mathlib.Core.Logic.{◌≢◌}
use native.Mathlib.Omega.{arith}
use native.Mathlib.Nat.{pow-suc}
use lib.Pow.{pow_pos, pow_mono}
use lib.Dec.{ltb, eqb}
use borrow.Author.Tests.{ltb-true, ltb-false, eqb-true, eqb-false, eq-eqb, ne_eqb, lt-ltb, le-ltb}
use Rattle.blocks.proofs.BoolLaws.{by_t, clash}
use Rattle.tree.specs.Slots.{sibling_word}
use Rattle.tree.specs.Tree.{slots, tier_order}
use Rattle.layout.specs.Pool.{Pool, run, run_from, slot_at, max_run}
use Rattle.layout.specs.declared.Slot.TheVariants.{Held, Sibling}
use Rattle.layout.proofs.SaysLaws.{word_of_lem, said_sibling}
use Rattle.local.specs.Local.{cap, top_level, SlotOk, SlotsOk, HeldOk, SiblingOk}
use Rattle.steps.specs.Steps.{SameSlots, Power, RunFits}
use Rattle.steps.proofs.DecideLaws.{between_next}
use Rattle.blocks.specs.Choice.{both, pick}
use Rattle.model.specs.Model.{max_order}
use Rattle.layout.specs.Reading.{Decides}

-- THE END OF A NODE
pub cap_ten : (v : ℕ) → v ≡ top_level → 16 ≡ cap v
cap_ten v e = rw e

pub cap_other : (v : ℕ) → (v ≡ top_level → ⊥) → slots ≡ cap v
cap_other v e = rw (ne_eqb v top_level e)

pub cap_le : (v : ℕ) → cap v ≤ slots
cap_le v = by_t (eqb v top_level) (λ e. rw e (omega arith)) (λ e. rw e (omega arith))

-- THE LENGTH OF A RUN
-- the loop that measures a run: p is 2^k
module _ (P : Pool) (n j k p : ℕ) (h : k < 5) (d : p ≡ 2 ^ k) where
  step : run_from P n j (max_run - k) k ≡ pick (both (ltb (j + 2 ^ k) slots) (eqb (P.slot n (j + 2 ^ k)) (sibling_word j)))
      (run_from P n j (max_run - (k + 1)) (k + 1)) k
  step = let e : max_run - k ≡ suc (max_run - (k + 1)) = omega arith in let f : suc k ≡ k + 1 = omega arith in rw (e, f)

  pub run_on : j + p < slots → P.slot n (j + p) ≡ sibling_word j → run P n j ≡ run_from P n j (max_run - k) k →
      run P n j ≡ run_from P n j (max_run - (k + 1)) (k + 1)
  run_on a b e = e ∙ step ∙ (rw (← d, lt-ltb (j + p) slots a, eq-eqb (P.slot n (j + p)) (sibling_word j) b))

  pub run_past : slots ≤ j + p → run P n j ≡ run_from P n j (max_run - k) k → p ≡ 2 ^ run P n j
  run_past a e = d ∙ ap (λ (x : ℕ). 2 ^ x) (sym (e ∙ step ∙ (rw (← d, le-ltb (j + p) slots a))))

  pub run_ends : (P.slot n (j + p) ≡ sibling_word j → ⊥) → run P n j ≡ run_from P n j (max_run - k) k → p ≡ 2 ^ run P n j
  run_ends a e = d ∙ ap (λ (x : ℕ). 2 ^ x) (sym (e ∙ step ∙ by_t (ltb (j + 2 ^ k) slots)
      (λ t. rw (
        t,
        ne_eqb (P.slot n (j + 2 ^ k)) (sibling_word j)
            (subst (λ (x : ℕ). P.slot n (j + x) ≡ sibling_word j → ⊥) d a),
      )) (λ t. rw t)))

pub run_all_lem : (P : Pool) (n j k p : ℕ) → max_run ≤ k → k ≤ max_run → p ≡ 2 ^ k → run P n j ≡ run_from P n j (max_run - k) k →
    p ≡ 2 ^ run P n j
run_all_lem P n j k p a b d e = let z : max_run - k ≡ 0 = omega arith in d ∙ ap (λ (x : ℕ). 2 ^ x) (sym (e ∙ (rw z)))

run_from_le : (P : Pool) (n j k a : ℕ) → run_from P n j k a ≤ a + k
run_from_le P n j zero a = omega arith
run_from_le P n j (suc k) a =
    by_t (both (ltb (j + 2 ^ a) slots) (eqb (P.slot n (j + 2 ^ a)) (sibling_word j)))
    (λ e. rw e (omega (arith, run_from_le P n j k (suc a)))) (λ e. rw e (omega arith))

pub run_le : (P : Pool) (n j : ℕ) → run P n j ≤ max_run
unfolding run
run_le P n j = run_from_le P n j max_run 0

-- an entry in slot j, over p slots
module _ (P : Pool) (n v j p : ℕ) (e : p ≡ 2 ^ run P n j) where
  short_of_lem : v ≤ top_level → 2 * p ≤ cap v → tier_order v + run P n j ≤ max_order
  short_of_lem a h =
      by_t (eqb v top_level)
      (λ t. let c : cap v ≡ 16 = rw t in
      let z : v ≡ top_level = eqb-true v top_level t in
      by_t (ltb (run P n j) 4) (λ q. omega (arith, ltb-true (run P n j) 4 q))
      (λ q. absurd (let x : 2 ^ 4 ≤ 2 ^ run P n j = pow_mono {i = 4} {j = run P n j} (ltb-false (run P n j) 4 q) in
      omega arith)))
      (λ t. let z : v ≢ top_level = eqb-false v top_level t in omega (arith, run_le P n j))

  pub held_no_short : cap v < 2 * p → HeldOk P n v j → ⊥
  held_no_short h i =
      by_t (eqb v top_level)
      (λ t. let c : cap v ≡ 16 = rw t in
      let z : v ≡ top_level = eqb-true v top_level t in
      let x : 2 ^ run P n j ≤ 2 ^ 3 = pow_mono {i = run P n j} {j = 3} (omega (arith, i.short)) in omega arith)
      (λ t. let c : cap v ≡ slots = rw t in
      let x : 2 ^ run P n j ≤ 2 ^ max_run = pow_mono {i = run P n j} {j = max_run} (run_le P n j) in omega arith)

  pub held_yes : (r : Bool) → v ≤ top_level → 2 * p ≤ cap v → j % p ≡ 0 → j + p ≤ cap v →
      Decides r ((i : ℕ) → j < i → i < j + p → P.slot n i ≡ sibling_word j) → j < slots → Decides r (HeldOk P n v j)
  held_yes r a h b c d lt = (
    (λ t. record {
      short = short_of_lem a h;
      small = run_le P n j;
      aligned = rw e at b;
      ends = omega arith;
      siblings = λ i x y. said_sibling (P.slot n i) j (d.0 t i x (omega arith)) lt;
    }),
    (λ t i. d.1 t (λ k x y. (word_of_lem (P.slot n k) (Sibling j) (i.siblings k x (omega arith))).0)),
  )

-- SLOTS WITH ONE WORD
-- THE COUNT
module _ (P : Pool) (n j w : ℕ) where
  pub record Going (r : ℕ) : Type 0 where
    pub some : 0 < r
    pub inside : j + r ≤ slots
    pub all : (i : ℕ) → j < i → i < j + r → P.slot n i ≡ w

  pub going_start : j < slots → Going 1
  going_start h = record { some = omega arith; inside = omega arith; all = λ i a b. absurd (omega arith) }

  pub going_on : (r : ℕ) → Going r → j + r < slots → P.slot n (j + r) ≡ w → Going (r + 1)
  going_on r g h e = record {
    some = omega arith;
    inside = omega arith;
    all = λ i a b. between_next (λ k. P.slot n k ≡ w) j (j + r) g.all e i a (omega arith);
  }

  pub counted : (r : ℕ) → Going r → (j + r < slots → P.slot n (j + r) ≢ w) → SameSlots P n j w r
  counted r g e = record { some = g.some; inside = g.inside; all = g.all; ends = e }

-- THE POWERS
pub six : (Q : ℕ → Type 0) → Q 0 → Q 1 → Q 2 → Q 3 → Q 4 → Q 5 → (k : ℕ) → k ≤ max_run → Q k
six Q a b c d e f zero h = a
six Q a b c d e f (suc zero) h = b
six Q a b c d e f (suc (suc zero)) h = c
six Q a b c d e f (suc (suc (suc zero))) h = d
six Q a b c d e f (suc (suc (suc (suc zero)))) h = e
six Q a b c d e f (suc (suc (suc (suc (suc zero))))) h = f
six Q a b c d e f (suc (suc (suc (suc (suc (suc k)))))) h = absurd (omega arith)

pub no_power : (r : ℕ) → (r ≡ 1 → ⊥) → (r ≡ 2 → ⊥) → (r ≡ 4 → ⊥) → (r ≡ 8 → ⊥) → (r ≡ 16 → ⊥) → Power r → r ≡ 32
no_power r a b c d e p =
    six (λ k. r ≡ 2 ^ k → r ≡ 32) (λ z. absurd (a z)) (λ z. absurd (b z)) (λ z. absurd (c z)) (λ z. absurd (d z))
    (λ z. absurd (e z)) (λ z. z) p.0 p.1 p.2

-- THE RUN
module _ (P : Pool) (n v j r : ℕ) (lt : j < slots) (c : SameSlots P n j (sibling_word j) r) where
  module _ (k : ℕ) (h : k ≤ max_run) (e : r ≡ 2 ^ k) where
    reach : (i : ℕ) → i ≤ k → run P n j ≡ run_from P n j (max_run - i) i
    unfolding run
    reach zero a = refl
    reach (suc i) a =
        let s : 2 ^ suc i ≤ 2 ^ k = pow_mono {i = suc i} {j = k} a in
        let t : 2 ^ suc i ≡ 2 ^ i * 2 = pow-suc 2 i in
        let p : 0 < 2 ^ i = pow_pos i in
        let d : i + 1 ≡ suc i = omega arith in
        subst (λ (x : ℕ). run P n j ≡ run_from P n j (max_run - x) x) d
        (run_on P n j i (2 ^ i) (omega arith) refl (omega (arith, c.inside))
        (c.all (j + 2 ^ i) (omega arith) (omega arith)) (reach i (omega arith)))

    run_is : r ≡ 2 ^ run P n j
    run_is =
        by_t (ltb k max_run)
        (λ t. by_t (ltb (j + r) slots)
        (λ u. run_ends P n j k r (ltb-true k max_run t) e (c.ends (ltb-true (j + r) slots u)) (reach k (omega arith)))
        (λ u. run_past P n j k r (ltb-true k max_run t) e (ltb-false (j + r) slots u) (reach k (omega arith))))
        (λ t. run_all_lem P n j k r (ltb-false k max_run t) h e (reach k (omega arith)))

  pub fits_run_lem : RunFits v j r → r ≡ 2 ^ run P n j
  fits_run_lem f = let p = f.power in run_is p.0 p.1 p.2

  pub fits_held : v ≤ top_level → RunFits v j r → HeldOk P n v j
  fits_held a f =
      (held_yes P n v j r (fits_run_lem f) true a f.short f.aligned f.ends
      ((λ t. c.all), (λ t g. no t)) lt).0 refl
    where
      no : true ≡ false → ⊥
      no e = clash refl e

  pub fits_of : slot_at P n j ≡ Held → SlotsOk P n v → RunFits v j r
  fits_of held s =
      let h : HeldOk P n v j = subst (SlotOk P n v j) held (s j lt) in
      let m : cap v ≤ slots = cap_le v in
      let e : r ≡ 2 ^ run P n j = same h in
      record {
        power = (run P n j, run_le P n j, e);
        short = by_t (ltb (cap v) (2 * r)) (λ t. absurd (held_no_short P n v j r e (ltb-true (cap v) (2 * r) t) h))
            (λ t. ltb-false (cap v) (2 * r) t);
        aligned = ap (λ (x : ℕ). j % x) e ∙ h.aligned;
        ends = omega (arith, h.ends);
      }
    where
      same : HeldOk P n v j → r ≡ 2 ^ run P n j
      same h =
          by_t (ltb r (2 ^ run P n j))
          (λ t. let a : r < 2 ^ run P n j = ltb-true r (2 ^ run P n j) t in
          absurd (c.ends (omega (arith, h.ends, cap_le v))
          (word_of_lem (P.slot n (j + r)) (Sibling j) (h.siblings (j + r) (omega (arith, c.some)) (omega arith))).0))
          (λ t. by_t (ltb (2 ^ run P n j) r)
          (λ u. let a : 2 ^ run P n j < r = ltb-true (2 ^ run P n j) r u in
          let p : 0 < 2 ^ run P n j = pow_pos (run P n j) in
          let w : P.slot n (j + 2 ^ run P n j) ≡ sibling_word j = c.all (j + 2 ^ run P n j) (omega arith) (omega arith) in
          let q : SiblingOk P n v (j + 2 ^ run P n j) j = subst (SlotOk P n v (j + 2 ^ run P n j))
          (said_sibling (P.slot n (j + 2 ^ run P n j)) j w lt)
          (s (j + 2 ^ run P n j) (omega (arith, c.inside))) in absurd (omega (arith, q.in_run_lem)))
          (λ u. omega (arith, ltb-false r (2 ^ run P n j) t, ltb-false (2 ^ run P n j) r u)))
