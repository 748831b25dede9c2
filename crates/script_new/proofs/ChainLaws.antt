-- The rows over index 0, where the head grows beside the old tree: how each begins.
use Prim.Native.Nat.{ℕ, suc, ◌+◌, ◌*◌, ◌/◌, ◌≤◌, ◌<◌}
use mathlib.Core.Path.{◌≡◌, refl, sym, ap, ◌∙◌}
use mathlib.Core.Bool.{true, false}
use mathlib.Core.List.{List}
use mathlib.Core.Option.{Option, none}
use native.Mathlib.Omega.{arith}
use lib.Dec.{eqb}
use lib.ListN.{get_or}
use borrow.Author.Tests.{eqb-true, eqb-false, eq-eqb, ne_eqb}
use Rattle.blocks.specs.Choice.{pick, both}
use Rattle.blocks.specs.Lists.{any}
use Rattle.blocks.specs.Blocks.{bit}
use Rattle.blocks.proofs.BoolLaws.{by_t}
use Rattle.blocks.proofs.BitLaws.{bits_none, bits_same}
use Rattle.model.specs.declared.Entry.{Entry}
use Rattle.model.specs.Model.{Valid, within}
use Rattle.model.proofs.MarkLaws.{marks_of_lem}
use Rattle.model.proofs.RangeLaws.{Apart}
use Rattle.tree.specs.Tree.{slots, tier_order, height, has, slot_mark}
use Rattle.tree.specs.Slots.{Numbering, slot}
use Rattle.tree.proofs.GrowLaws.{grow_mark}
use Rattle.tree.proofs.HeightLaws.{height_fits}
use Rattle.tree.proofs.SlotLaws.{tier_up}
use Rattle.layout.specs.Words.{place, slot_field, mark_field, marks_word, IsField, field}
use Rattle.layout.specs.WellFormed.{WellFormed, num}
use Rattle.layout.proofs.FieldLaws.{level_slot_lem, level_mark_lem}
use Rattle.layout.proofs.RenderWordLaws.{field_of_lem, pool_marks}
use Rattle.script_rows.specs.Row.{in_run, run_word, Copies, RunPut}
use Rattle.script_rows.specs.Becomes.{Becomes}
use Rattle.script_rows.proofs.BecomesLaws.{slot_apart, mark_apart}
use Rattle.script_rows.proofs.GrowthLaws.{blank, past, past_mark}
use Rattle.script_rows.proofs.HeadLaws.{lows}
use Rattle.script_new.specs.Chain.{ChainFinal}

-- each block below one that is apart is apart
pub apart_below : (i k t : ℕ) → Apart i k (tier_order (suc t)) 0 → (j : ℕ) → j < slots → Apart i k (tier_order t) j
apart_below i k t a j h y e r = a y (tier_up t y ∙ (ap (λ (c : ℕ). c / slots) e ∙ omega arith)) r

module _ {ws : List ℕ} (s : WellFormed ws) {i k : ℕ} {o : Option Entry} {l' : List Entry}
    (b : Becomes i k o s.list l') (v' : Valid l') (μ : Numbering) (t : ℕ)
    (off : Apart i k (tier_order (suc t)) 0) where
  apart : (j : ℕ) → j < slots → Apart i k (tier_order t) j
  apart = apart_below i k t off

  -- the old head, as it was
  pub final_old : {rs rs' : List ℕ} {r n : ℕ} → has s.list (suc t) 0 ≡ true → n ≡ num s (suc t) 0 →
      ((c : ℕ) → Apart i k (tier_order t) c → any (within (tier_order t) c) s.list ≡ true → μ t c ≡ num s t c) →
      Copies ws n rs rs' r → ChainFinal l' μ rs' r t
  final_old {rs} {rs'} {r} {n} there e same c = record {
    slots_are = λ j h. c.fields (slot_field + j) (omega arith) ∙ (held (slot_field + j) (omega arith)
        ∙ (level_slot_lem s.list (num s) t 0 j ∙ (ap (slot s.list (num s) t) (flat j)
        ∙ sym (slot_apart b (num s) μ t j (apart j h) (same j (apart j h))))));
    marks_are = λ x h. c.fields (mark_field + x) (omega arith) ∙ (held (mark_field + x) (omega arith)
        ∙ (level_mark_lem s.list (num s) t 0 x h
        ∙ bits_same (λ j. slot_mark s.list x t (slots * 0 + j)) (λ j. slot_mark l' x t j) slots
        (λ j g. ap (slot_mark s.list x t) (flat j) ∙ sym (mark_apart b x t j (apart j g)))));
  }
    where
      flat : (j : ℕ) → slots * 0 + j ≡ j
      flat j = omega arith

      held : (f : ℕ) → IsField f → get_or ws (place n f) 0 ≡ field s.list (num s) (suc t) 0 f
      held f h = rw e (field_of_lem s (suc t) 0 f there h)

  -- a new node above it: slot 0 alone, with the marks of the old tree
  pub final_new : {rs rs₁ rs₂ : List ℕ} {r n w m : ℕ} → height s.list ≤ t → n < s.n → get_or s.places n none ≡ none →
      Copies ws n rs rs₁ r → RunPut rs₁ rs₂ r 0 1 w m → w ≡ slot l' μ t 0 → m ≡ get_or ws marks_word 0 → ChainFinal l' μ rs₂ r t
  final_new {rs} {rs₁} {rs₂} {r} {n} {w} {m} high lt free c p we me = record {
    slots_are = λ j g. by_t (eqb j 0)
        (λ e. let y : j ≡ 0 = eqb-true _ _ e in
        p.slots_in j (omega arith) (omega arith) ∙ (word j y ∙ (we ∙ ap (slot l' μ t) (sym y))))
        (λ e. let ne : j ≡ 0 → ⊥ = eqb-false _ _ e in
        p.slots_out j g (λ _ q. omega arith) ∙ (zeros (slot_field + j) (omega arith)
        ∙ sym (past s b v' μ t high j (omega arith) (apart j g))));
    marks_are = λ x g. p.marks_are x g (λ j. false)
        (zeros (mark_field + x) (omega arith) ∙ sym (bits_none (λ j. false) slots (λ j _. refl)))
        ∙ bits_same (λ j. pick (in_run 0 1 j) (both (eqb j 0) (eqb (bit x m) 1)) false) (λ j. slot_mark l' x t j) slots
        (λ j h. by_t (eqb j 0)
        (λ e. let y : j ≡ 0 = eqb-true _ _ e in
        rw (e, y) (ap (λ (q : ℕ). eqb (bit x q) 1) (me ∙ pool_marks s) ∙ (marks_of_lem s.list x g
        ∙ (sym (grow_mark s.list t (height_fits (lows s.valid) high) x)
        ∙ sym (mark_apart b x t 0 (apart 0 (omega arith)))))))
        (λ e. let ne : j ≡ 0 → ⊥ = eqb-false _ _ e in
        off_zero x j ne ∙ sym (past_mark s b v' μ t high x j (omega arith) (apart j h))));
  }
    where
      zeros : (f : ℕ) → IsField f → get_or rs₁ (place r f) 0 ≡ 0
      zeros = blank s b v' μ t high lt free c

      word : (j : ℕ) → j ≡ 0 → run_word 0 w j ≡ w
      word j e = by_t (eqb w 0) (λ y. rw y (sym (eqb-true w 0 y))) (λ y. rw (y, eq-eqb j 0 e) refl)

      off_zero : (x j : ℕ) → (j ≡ 0 → ⊥) → pick (in_run 0 1 j) (both (eqb j 0) (eqb (bit x m) 1)) false ≡ false
      off_zero x j ne = by_t (in_run 0 1 j) (λ q. rw (q, ne_eqb j 0 ne) refl) (λ q. rw q refl)
