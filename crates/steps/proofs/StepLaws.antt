-- The slots of a node one after the other, an entry with its siblings at once.
use Prim.Native.Nat.{ℕ, ◌+◌, ◌*◌, ◌%◌, ◌^◌, ◌≤◌, ◌<◌}
use mathlib.Core.Path.{◌≡◌, refl, sym, ap, ◌∙◌, subst}
use mathlib.Core.Bool.{Bool, true, false}
use mathlib.Core.Logic.{◌≢◌}
use native.Mathlib.Omega.{arith}
use lib.Pow.{pow_pos}
use lib.Dec.{eqb, ltb}
use borrow.Author.Tests.{eqb-true, eqb-false, ne_eqb, ltb-true, ltb-false}
use Rattle.std.specs.Prelude.{MatchOption}
use Rattle.std.specs.Bool.{then_some}
use Rattle.blocks.specs.Blocks.{bit}
use Rattle.blocks.proofs.BoolLaws.{by_t, decide_eqb}
use Rattle.tree.specs.Tree.{slots}
use Rattle.layout.specs.Pool.{Pool, run, slot_at}
use Rattle.layout.specs.declared.Slot.{Slot}
use Rattle.layout.specs.declared.Slot.TheVariants.{Empty, Reserved, Held, Sibling, Child}
use Rattle.layout.specs.Reading.{Decides}
use Rattle.layout.proofs.SaysLaws.{said, word_of_lem}
use Rattle.local.specs.Local.{SlotOk, SlotsOk, HeldOk, ReservedOk, SiblingOk, ChildOk}
use Rattle.steps.specs.Steps.{AllMarks, SameSlots, Past, Stepped}
use Rattle.steps.proofs.RunLaws.{cap_le}
use Rattle.model.specs.Model.{reserved_word}
use Rattle.tree.specs.Slots.{sibling_word}

-- A STEP
module _ (P : Pool) (n v j : ℕ) where
  abbrev At : ℕ → Slot → Type 0
  At k κ = SlotOk P n v k κ

  slot_of_lem : {κ : Slot} → slot_at P n j ≡ κ → j < slots → SlotsOk P n v → At j κ
  slot_of_lem e h s = subst (At j) e (s j h)

  step_one : (κ : Slot) → slot_at P n j ≡ κ → (slot_at P n j ≢ Held) → j < slots → Past P n j → At j κ →
      Stepped P n v j 1
  step_one κ e ne h p a = record {
    some = omega arith;
    inside = omega arith;
    good = λ k x y. let d : j ≡ k = omega arith in
        subst (λ (i : ℕ). At i (slot_at P n i)) d (subst (At j) (sym e) a);
    alike = λ k x y. let d : k ≡ j = omega arith in ap (λ (i : ℕ). eqb (P.slot n i) 0) d;
    past = λ o x y. by_t (eqb o j)
        (λ t. absurd (ne (subst (λ (i : ℕ). slot_at P n i ≡ Held) (eqb-true o j t) y)))
        (λ t. let d : o ≢ j = eqb-false o j t in omega (arith, p o (omega arith) y));
  }

  pub step_decides : (b : Bool) (κ : Slot) → slot_at P n j ≡ κ → (slot_at P n j ≢ Held) → j < slots → Past P n j →
      Decides b (At j κ) → MatchOption (then_some b 1) (SlotsOk P n v → ⊥) (Stepped P n v j)
  step_decides true κ e ne h p d = step_one κ e ne h p (d.0 refl)
  step_decides false κ e ne h p d = λ s. d.1 refl (slot_of_lem e h s)

  pub empty_not_held : slot_at P n j ≡ Empty → slot_at P n j ≢ Held
  empty_not_held e f = (word_of_lem (P.slot n j) Held f).0 (word_of_lem (P.slot n j) Empty e)

  pub reserved_not_held : slot_at P n j ≡ Reserved → slot_at P n j ≢ Held
  reserved_not_held e f =
      let w : P.slot n j ≡ reserved_word = word_of_lem (P.slot n j) Reserved e in
      let x : P.slot n j % 4 ≢ 2 = (word_of_lem (P.slot n j) Held f).1 in x (omega arith)

  -- a reserved slot, where r slots are that slot and those after it that name it
  pub reserved_decides : (r m : ℕ) → j < slots → SameSlots P n j (sibling_word j) r → v ≡ 0 → AllMarks P n m → bit j m ≡ 0 →
      Decides (eqb r 1) (ReservedOk P n v j)
  reserved_decides r m lt c z am b = decide_eqb r 1
      (λ e. record { bottom = z; unmarked = am.clear j b; alone = subst (λ (x : ℕ). j + x < slots → P.slot n (j + x) ≢ sibling_word j) e c.ends })
      (λ i. by_t (ltb 1 r)
      (λ t. absurd (i.alone (omega (arith, c.inside, ltb-true 1 r t)) (c.all (j + 1) (omega arith) (omega (arith, ltb-true 1 r t)))))
      (λ t. omega (arith, c.some, ltb-false 1 r t)))

  pub child_not_held : (m : ℕ) → slot_at P n j ≡ Child m → slot_at P n j ≢ Held
  child_not_held m e f =
      let w : P.slot n j ≡ 4 * (1024 + m) + 2 = word_of_lem (P.slot n j) (Child m) e in
      let x : P.slot n j % 4 ≢ 2 = (word_of_lem (P.slot n j) Held f).1 in x (omega arith)

  -- a child that may stand there, and one that may not
  pub step_child : (m : ℕ) → slot_at P n j ≡ Child m → j < slots → Past P n j → ChildOk P n v j m → Stepped P n v j 1
  step_child m e h p a = step_one (Child m) e (child_not_held m e) h p a

  pub child_bad : (m : ℕ) → slot_at P n j ≡ Child m → j < slots → (ChildOk P n v j m → ⊥) → SlotsOk P n v → ⊥
  child_bad m e h f s = f (slot_of_lem e h s)

  pub step_sibling : (o : ℕ) → slot_at P n j ≡ Sibling o → j < slots → Past P n j → SlotsOk P n v → ⊥
  step_sibling o e h p s = let q : SiblingOk P n v j o = slot_of_lem e h s in
      let x : o + 2 ^ run P n o ≤ j = p o q.after q.of_held in omega (arith, q.in_run_lem)

  -- an entry, with its run of r slots
  module _ (held : slot_at P n j ≡ Held) (lt : j < slots) where
    module _ (r m : ℕ) (e : r ≡ 2 ^ run P n j) (ok : HeldOk P n v j) (am : AllMarks P n m) where
      in_node : j + r ≤ slots
      in_node = omega (arith, ok.ends, cap_le v)

      pub step_marked : (((i : ℕ) → j < i → i < j + r → bit i m ≡ 0) → ⊥) → SlotsOk P n v → ⊥
      step_marked f s = f (λ i a b. am.cleared i
          (let q : SiblingOk P n v i j = subst (At i) (ok.siblings i a (omega arith)) (s i (omega (arith, in_node))) in
          q.unmarked))

      pub step_run : Past P n j → ((i : ℕ) → j < i → i < j + r → bit i m ≡ 0) → Stepped P n v j r
      step_run p clear =
          record {
            some = omega (arith, pow_pos (run P n j));
            inside = in_node;
            good = λ k a b. by_t (eqb j k)
                (λ t. subst (λ (i : ℕ). At i (slot_at P n i)) (eqb-true j k t) (subst (At j) (sym held) ok))
                (λ t. let d : j ≢ k = eqb-false j k t in
                subst (At k) (sym (ok.siblings k (omega arith) (omega arith))) (record {
                  unmarked = am.clear k (clear k (omega arith) b);
                  after = omega arith;
                  of_held = held;
                  in_run_lem = omega arith;
                }));
            alike = λ k a b. by_t (eqb k j)
                (λ t. ap (λ (i : ℕ). eqb (P.slot n i) 0) (eqb-true k j t))
                (λ t. let d : k ≢ j = eqb-false k j t in
                sibling_full k (ok.siblings k (omega arith) (omega arith)) ∙ sym held_full);
            past = λ o a h. by_t (ltb o j)
                (λ t. omega (arith, p o (ltb-true o j t) h))
                (λ t. let g : j ≤ o = ltb-false o j t in
                by_t (eqb o j)
                (λ u. let d : o ≡ j = eqb-true o j u in
                let y : 2 ^ run P n o ≡ 2 ^ run P n j = ap (λ (i : ℕ). 2 ^ run P n i) d in omega arith)
                (λ u. let d : o ≢ j = eqb-false o j u in
                absurd (no_held o (ok.siblings o (omega arith) (omega arith)) h)));
          }
        where
          held_full : eqb (P.slot n j) 0 ≡ false
          held_full = ne_eqb (P.slot n j) 0 (word_of_lem (P.slot n j) Held held).0

          sibling_full : (k : ℕ) → slot_at P n k ≡ Sibling j → eqb (P.slot n k) 0 ≡ false
          sibling_full k s = let w : P.slot n k ≡ 4 * j + 2 = (word_of_lem (P.slot n k) (Sibling j) s).0 in
              ne_eqb (P.slot n k) 0 (omega arith)

          no_held : (o : ℕ) → slot_at P n o ≡ Sibling j → slot_at P n o ≡ Held → ⊥
          no_held o s h =
              let w : P.slot n o ≡ 4 * j + 2 = (word_of_lem (P.slot n o) (Sibling j) s).0 in
              let x : P.slot n o % 4 ≢ 2 = (word_of_lem (P.slot n o) Held h).1 in x (omega arith)

-- empty slots from slot j on, r of them, where m is the marks
module _ (P : Pool) (n v j m : ℕ) (empty : slot_at P n j ≡ Empty) (lt : j < slots) (am : AllMarks P n m) where
  pub gap_marked : (bit j m ≡ 0 → ⊥) → SlotsOk P n v → ⊥
  gap_marked f s = f (am.cleared j (subst (SlotOk P n v j) empty (s j lt)))

  module _ (r : ℕ) (c : SameSlots P n j 0 r) where
    pub rest_marked : (((i : ℕ) → j < i → i < j + r → bit i m ≡ 0) → ⊥) → SlotsOk P n v → ⊥
    rest_marked f s = f (λ i a b. am.cleared i
        (subst (SlotOk P n v i) (said (P.slot n i) Empty (c.all i a b)) (s i (omega (arith, c.inside)))))

    pub step_gap : Past P n j → bit j m ≡ 0 → ((i : ℕ) → j < i → i < j + r → bit i m ≡ 0) → Stepped P n v j r
    step_gap p b g = record {
      some = c.some;
      inside = c.inside;
      good = λ k x y. subst (SlotOk P n v k) (sym (empty_at k x y)) (am.clear k (clear_at k x y));
      alike = λ k x y. ap (λ (w : ℕ). eqb w 0) (word_of_lem (P.slot n k) Empty (empty_at k x y) ∙ sym (word_of_lem (P.slot n j) Empty empty));
      past = λ o y held. by_t (ltb o j) (λ t. omega (arith, p o (ltb-true o j t) held))
          (λ t. absurd (empty_not_held P n v o (empty_at o (ltb-false o j t) y) held));
    }
      where
        empty_at : (k : ℕ) → j ≤ k → k < j + r → slot_at P n k ≡ Empty
        empty_at k x y = by_t (eqb j k) (λ t. subst (λ (i : ℕ). slot_at P n i ≡ Empty) (eqb-true j k t) empty)
            (λ t. let d : j ≢ k = eqb-false j k t in said (P.slot n k) Empty (c.all k (omega arith) y))

        clear_at : (k : ℕ) → j ≤ k → k < j + r → bit k m ≡ 0
        clear_at k x y = by_t (eqb j k) (λ t. subst (λ (i : ℕ). bit i m ≡ 0) (eqb-true j k t) b)
            (λ t. let d : j ≢ k = eqb-false j k t in g k (omega arith) y)

-- ALL SLOTS
module _ (P : Pool) (n v : ℕ) where
  pub record Gone (j : ℕ) : Type 0 where
    pub inside : j ≤ slots
    pub ok : (k : ℕ) → k < j → SlotOk P n v k (slot_at P n k)
    pub past : Past P n j

  pub gone_start : Gone 0
  gone_start = record {
    inside = omega arith;
    ok = λ k h. absurd (omega arith);
    past = λ o h. absurd (omega arith);
  }

  pub gone_on : (j r : ℕ) → Gone j → Stepped P n v j r → Gone (j + r)
  gone_on j r g s = record {
    inside = s.inside;
    ok = λ k h. by_t (ltb k j) (λ t. g.ok k (ltb-true k j t)) (λ t. s.good k (ltb-false k j t) h);
    past = s.past;
  }
