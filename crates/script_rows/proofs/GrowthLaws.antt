-- A row above the old head: what is there is one slot that leads to the old tree, if that stays.
use Prim.Native.Nat.{ℕ, suc, ◌+◌, ◌*◌, ◌≤◌, ◌<◌}
use mathlib.Core.Path.{◌≡◌, refl, sym, ap, subst, ◌∙◌}
use mathlib.Core.Bool.{true, false}
use mathlib.Core.List.{List}
use mathlib.Core.Option.{Option, none}
use native.Mathlib.Omega.{arith}
use lib.Dec.{eqb}
use lib.ListN.{get_or}
use borrow.Author.Tests.{eqb-true, eqb-false, eq-eqb, ne_eqb}
use Rattle.blocks.specs.Choice.{pick, both}
use Rattle.blocks.specs.Lists.{any, All, nonempty}
use Rattle.blocks.specs.Blocks.{block, bit}
use Rattle.blocks.proofs.BoolLaws.{by_t}
use Rattle.blocks.proofs.BitLaws.{bits_none}
use Rattle.model.specs.declared.Entry.{Entry}
use Rattle.model.specs.Model.{Valid, within}
use Rattle.model.proofs.MarkLaws.{marks_of_lem}
use Rattle.model.proofs.RangeLaws.{Apart}
use Rattle.tree.specs.Tree.{slots, tier_order, height, slot_mark, fits, Node}
use Rattle.tree.specs.Slots.{Numbering, slot, node_word}
use Rattle.tree.proofs.EraseLaws.{shrunk}
use Rattle.tree.proofs.GrowLaws.{above, grow_mark, grow_mark_other}
use Rattle.tree.proofs.HeightLaws.{height_fits}
use Rattle.layout.specs.Words.{place, slot_field, mark_field, head_word, marks_word, IsField, field_at}
use Rattle.layout.specs.WellFormed.{WellFormed, num}
use Rattle.layout.proofs.RenderWordLaws.{pool_node, pool_head, pool_marks, slot_node}
use Rattle.script_rows.specs.Row.{in_run, run_word, Copies, RunPut}
use Rattle.script_rows.specs.Becomes.{Becomes, Base}
use Rattle.script_rows.proofs.BecomesLaws.{slot_apart, mark_apart}
use Rattle.script_rows.proofs.HeadLaws.{lows}

module _ {ws : List ℕ} (s : WellFormed ws) {i k : ℕ} {o : Option Entry} {l' : List Entry}
    (b : Becomes i k o s.list l') (v' : Valid l') (μ : Numbering) (u : ℕ) (high : height s.list ≤ u) where
  abbrev l : List Entry
  l = s.list

  abbrev B : ℕ
  B = block (tier_order (suc u)) i

  fit : All (λ x. fits u x ≡ true) l
  fit = height_fits (lows s.valid) high

  pub past : (d : ℕ) → 0 < d → Apart i k (tier_order u) d → slot l' μ u d ≡ 0
  past d p a = slot_apart b μ μ u d a (λ _. refl) ∙ shrunk l s.valid (lows s.valid) μ u high d p

  pub past_mark : (x d : ℕ) → 0 < d → Apart i k (tier_order u) d → slot_mark l' x u d ≡ false
  past_mark x d p a = mark_apart b x u d a ∙ grow_mark_other l u fit x d p

  module _ {rs rs₁ : List ℕ} {r n : ℕ} (lt : n < s.n) (free : get_or s.places n none ≡ none)
      (c : Copies ws n rs rs₁ r) where
    pub blank : (f : ℕ) → IsField f → get_or rs₁ (place r f) 0 ≡ 0
    blank f g = c.fields f g ∙ (pool_node s n f lt g ∙ ap (λ (p : Option Node). field_at l (num s) p f) free)

    -- nothing of the old tree is below it apart from the range
    pub base_bare : (B ≡ 0 → Apart i k (tier_order u) 0 → ⊥) → Base i k l' μ rs₁ r u
    base_bare alone = record {
      slots_are = λ j g a. blank (slot_field + j) (omega arith) ∙ sym (past (slots * B + j) (pos j a) a);
      marks_of_lem = λ x j. false;
      marks_are = λ x g. blank (mark_field + x) (omega arith) ∙ sym (bits_none (λ j. false) slots (λ j _. refl));
      apart_are = λ x g j h a. sym (past_mark x (slots * B + j) (pos j a) a);
    }
      where
        pos : (j : ℕ) → Apart i k (tier_order u) (slots * B + j) → 0 < slots * B + j
        pos j a = by_t (eqb (slots * B + j) 0)
            (λ e. let z : slots * B + j ≡ 0 = eqb-true _ _ e in
            let y : B ≡ 0 = omega arith in
            absurd (alone y (subst (Apart i k (tier_order u)) z a)))
            (λ e. let z : slots * B + j ≡ 0 → ⊥ = eqb-false _ _ e in omega arith)

    -- slot 0 leads to the old tree, whose marks it has
    pub base_over : {rs₂ : List ℕ} {w m : ℕ} → B ≡ 0 → RunPut rs₁ rs₂ r 0 1 w m → w ≡ slot l' μ u 0 →
        m ≡ get_or ws marks_word 0 → Base i k l' μ rs₂ r u
    base_over {rs₂} {w} {m} z p we me = record {
      slots_are = λ j g a. by_t (eqb j 0)
          (λ e. let y : j ≡ 0 = eqb-true _ _ e in
          let d : slots * B + j ≡ 0 = omega arith in
          p.slots_in j (omega arith) (omega arith) ∙ (word j y ∙ (we ∙ ap (slot l' μ u) (sym d))))
          (λ e. let ne : j ≡ 0 → ⊥ = eqb-false _ _ e in
          p.slots_out j g (λ _ q. omega arith) ∙ (blank (slot_field + j) (omega arith)
          ∙ sym (past (slots * B + j) (omega arith) a)));
      marks_of_lem = λ x j. pick (in_run 0 1 j) (both (eqb j 0) (eqb (bit x m) 1)) false;
      marks_are = λ x g. p.marks_are x g (λ j. false)
          (blank (mark_field + x) (omega arith) ∙ sym (bits_none (λ j. false) slots (λ j _. refl)));
      apart_are = λ x g j h a. by_t (eqb j 0)
          (λ e. let y : j ≡ 0 = eqb-true _ _ e in
          let d : slots * B + j ≡ 0 = omega arith in
          rw (e, y) (ap (λ (q : ℕ). eqb (bit x q) 1) (me ∙ pool_marks s) ∙ (marks_of_lem l x g
          ∙ (sym (grow_mark l u fit x) ∙ (sym (mark_apart b x u 0 (subst (Apart i k (tier_order u)) d a))
          ∙ ap (slot_mark l' x u) (sym (subst (λ (q : ℕ). slots * B + q ≡ 0) y d)))))))
          (λ e. let ne : j ≡ 0 → ⊥ = eqb-false _ _ e in
          sym (past_mark x (slots * B + j) (omega arith) a ∙ sym (off x j ne)));
    }
      where
        word : (j : ℕ) → j ≡ 0 → run_word 0 w j ≡ w
        word j t = by_t (eqb w 0) (λ y. rw y (sym (eqb-true w 0 y))) (λ y. rw (y, eq-eqb j 0 t) refl)

        off : (x j : ℕ) → (j ≡ 0 → ⊥) → pick (in_run 0 1 j) (both (eqb j 0) (eqb (bit x m) 1)) false ≡ false
        off x j ne = by_t (in_run 0 1 j) (λ t. rw (t, ne_eqb j 0 ne) refl) (λ t. rw t refl)

  -- what slot 0 of the tier is, apart from the range
  module _ (a : Apart i k (tier_order u) 0) where
    -- just above the old head: that head
    pub under_head : u ≡ height l → (any (within (tier_order u) 0) l ≡ true → μ u 0 ≡ num s u 0) →
        slot l' μ u 0 ≡ get_or ws head_word 0
    under_head e same = slot_apart b (num s) μ u 0 a same ∙ (ap (λ (h : ℕ). slot l (num s) h 0) e ∙ sym (pool_head s))

    -- higher: a node of the chain
    pub under_chain : height l < u → nonempty l ≡ true → slot l' μ u 0 ≡ node_word (μ u 0)
    under_chain h some-entry = slot_apart b μ μ u 0 a (λ _. refl)
        ∙ slot_node l μ u 0 (above l (height l) (height_fits (lows s.valid) (omega arith)) u 0 h ∙ rw some-entry refl)
