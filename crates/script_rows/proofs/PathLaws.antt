-- The rows of the path, one above the other.
use Prim.Native.Nat.{ℕ, zero, suc, ◌+◌, ◌*◌, ◌/◌, ◌%◌, ◌≤◌, ◌<◌}
use mathlib.Core.Path.{◌≡◌, refl, sym, ap, ap₂, subst, ◌∙◌}
use mathlib.Core.Bool.{Bool, true, false, not}
use mathlib.Core.List.{List}
use mathlib.Core.Option.{Option}
use native.Mathlib.Omega.{arith}
use native.Mathlib.Numerals.{add-one}
use lib.Dec.{ltb, eqb}
use lib.ListN.{length, get_or}
use mir.Val.{bool_byte}
use borrow.Author.Tests.{eqb-true, eqb-false, ltb-true, ltb-false}
use Rattle.blocks.specs.Choice.{pick}
use Rattle.blocks.specs.Lists.{any}
use Rattle.blocks.specs.Blocks.{block, bit}
use Rattle.blocks.proofs.BoolLaws.{by_t}
use Rattle.model.specs.declared.Entry.{Entry}
use Rattle.model.specs.Model.{within, mark_count}
use Rattle.tree.specs.Tree.{slots, slot_bits, tier_order, slot_mark}
use Rattle.tree.specs.Slots.{Numbering, node_word}
use Rattle.tree.proofs.SlotLaws.{tier_up}
use Rattle.layout.specs.Words.{place, node_end, filled_place, mark_place, slot_place, IsField, shift_word, owner_word, owner_under, field_under}
use Rattle.layout.specs.WellFormed.{WellFormed}
use Rattle.layout.proofs.NodeLaws.{get_filled, get_mark}
use Rattle.write.specs.Writes.{width, offset}
use Rattle.marks.proofs.MarkLaws.{word_mark}
use Rattle.script_rows.specs.Row.{OtherRows, Copies, RunPut, Finishes}
use Rattle.script_rows.specs.Becomes.{word_in, marks_in, Base, Final, Shown, Edits, Turns, Begun, Copied, Roomy, Ready}
use Rattle.script_rows.proofs.BecomesLaws.{path_filled}
use Rattle.script_rows.proofs.RowLaws.{low_row_lem, up_row_lem, row_words}

pub others_then : {rs rs₁ rs₂ : List ℕ} {r : ℕ} → OtherRows rs rs₁ r → OtherRows rs₁ rs₂ r → OtherRows rs rs₂ r
others_then a b = record {
  same_length = b.same_length ∙ a.same_length;
  before = λ p h. b.before p h ∙ a.before p h;
  after = λ p h. b.after p h ∙ a.after p h;
}

-- a row stays where another is written
pub shown_stays : {i k : ℕ} {l' : List Entry} {μ : Numbering} {rs rs' : List ℕ} {top u r : ℕ} → OtherRows rs rs' r →
    (u ≡ r → ⊥) → Shown i k l' μ rs top u → Shown i k l' μ rs' top u
shown_stays {rs} {rs'} {u} {r} o ne s = record { words = λ f h. same f h ∙ s.words f h }
  where
    same : (f : ℕ) → IsField f → get_or rs' (place u f) 0 ≡ get_or rs (place u f) 0
    same f h = by_t (ltb u r)
        (λ t. let g : u < r = ltb-true _ _ t in o.before (place u f) (omega arith))
        (λ t. let g : r ≤ u = ltb-false _ _ t in o.after (place u f) (omega arith))

-- the marks that go up, as bits
pub bits_up : (a b c : Bool) (x : ℕ) → x < mark_count → {n : ℕ} → n ≡ bool_byte a + 2 * bool_byte b + 4 * bool_byte c →
    (y : Bool) → (x ≡ 0 → a ≡ y) → (x ≡ 1 → b ≡ y) → (x ≡ 2 → c ≡ y) → eqb (bit x n) 1 ≡ y
bits_up a b c zero h {n} e y p q r = ap (λ (z : ℕ). eqb (bit 0 z) 1) e ∙ (low a b c ∙ p refl)
  where
    low : (a b c : Bool) → eqb (bit 0 (bool_byte a + 2 * bool_byte b + 4 * bool_byte c)) 1 ≡ a
    low true true true = refl
    low true true false = refl
    low true false true = refl
    low true false false = refl
    low false true true = refl
    low false true false = refl
    low false false true = refl
    low false false false = refl
bits_up a b c (suc zero) h {n} e y p q r = ap (λ (z : ℕ). eqb (bit 1 z) 1) e ∙ (mid a b c ∙ q refl)
  where
    mid : (a b c : Bool) → eqb (bit 1 (bool_byte a + 2 * bool_byte b + 4 * bool_byte c)) 1 ≡ b
    mid true true true = refl
    mid true true false = refl
    mid true false true = refl
    mid true false false = refl
    mid false true true = refl
    mid false true false = refl
    mid false false true = refl
    mid false false false = refl
bits_up a b c (suc (suc zero)) h {n} e y p q r = ap (λ (z : ℕ). eqb (bit 2 z) 1) e ∙ (high a b c ∙ r refl)
  where
    high : (a b c : Bool) → eqb (bit 2 (bool_byte a + 2 * bool_byte b + 4 * bool_byte c)) 1 ≡ c
    high true true true = refl
    high true true false = refl
    high true false true = refl
    high true false false = refl
    high false true true = refl
    high false true false = refl
    high false false true = refl
    high false false false = refl
bits_up a b c (suc (suc (suc x))) h e y p q r = absurd (omega arith)

module _ {l : List Entry} {i k w m : ℕ} {ps : List ℕ} {top : ℕ} {o : Option Entry} {l' : List Entry}
    {μ : Numbering} (ed : Turns l i k w m ps top o l' μ) where
  owner_ok : (u : ℕ) → k / slot_bits ≤ u → u < top → {x : ℕ} →
      x ≡ pick (eqb (u + 1) top) 0 (owner_word (get_or ps (u + 1 + 1) 0) (block (tier_order (u + 1)) i % slots)) →
      x ≡ owner_under top μ (suc u) (block (tier_order (suc u)) i)
  owner_ok u h g {x} q = q ∙ go (eqb (u + 1) top) refl
    where
      go : (t : Bool) → eqb (u + 1) top ≡ t →
          pick (eqb (u + 1) top) 0 (owner_word (get_or ps (u + 1 + 1) 0) (block (tier_order (u + 1)) i % slots))
          ≡ owner_under top μ (suc u) (block (tier_order (suc u)) i)
      go true t = rw (t, subst (λ (y : ℕ). eqb y top ≡ true) (add-one u) t) refl
      go false t =
          let ne : u + 1 ≡ top → ⊥ = eqb-false _ _ t in
          let n : get_or ps (u + 1 + 1) 0 ≡ μ (u + 1 + 1) (block (tier_order (u + 1 + 1)) i) =
          ed.numbers (u + 1 + 1) (omega arith) (omega arith) in
          let z : u + 1 + 1 ≡ suc (suc u) = omega arith in
          let n' : get_or ps (u + 1 + 1) 0 ≡ μ (suc (suc u)) (block (tier_order (suc u)) i / slots) =
          n ∙ (ap (λ (y : ℕ). μ y (block (tier_order y) i)) z ∙ ap (μ (suc (suc u))) (tier_up (suc u) i)) in
          rw (t, subst (λ (y : ℕ). eqb y top ≡ false) (add-one u) t)
          (ap₂ owner_word n' (ap (λ (y : ℕ). block (tier_order y) i % slots) (add-one u)))

  -- all words of the row of tier u + 1
  done : (u : ℕ) → k / slot_bits ≤ u → u < top → {rs rs' : List ℕ} {sh ow : ℕ} → Final i k l' μ rs (u + 1) u →
      Finishes rs rs' (u + 1) sh ow → sh ≡ shift_word (u + 1) →
      ow ≡ pick (eqb (u + 1) top) 0 (owner_word (get_or ps (u + 1 + 1) 0) (block (tier_order (u + 1)) i % slots)) →
      Shown i k l' μ rs' top (u + 1)
  done u h g {rs} {rs'} f z se oe = record {
    words = λ j lt. subst (λ (t : ℕ). get_or rs' (place (u + 1) j) 0 ≡ field_under l' μ top t (block (tier_order t) i) j)
        (sym (add-one u)) (row_words ed.becomes ed.valid μ top f z (se ∙ omega arith) (owner_ok u h g oe) j lt);
  }

  pub low_shown : {rs₁ rs₂ rs₃ : List ℕ} {f sh ow : ℕ} → k / slot_bits < top →
      Base i k l' μ rs₁ (k / slot_bits + 1) (k / slot_bits) → f ≡ offset i k →
      RunPut rs₁ rs₂ (k / slot_bits + 1) f (width k) w m → Finishes rs₂ rs₃ (k / slot_bits + 1) sh ow →
      sh ≡ shift_word (k / slot_bits + 1) →
      ow ≡ pick (eqb (k / slot_bits + 1) top) 0
      (owner_word (get_or ps (k / slot_bits + 1 + 1) 0) (block (tier_order (k / slot_bits + 1)) i % slots)) →
      Shown i k l' μ rs₃ top (k / slot_bits + 1)
  low_shown {rs₁} {rs₂} h c fe p z se oe =
      let p' : RunPut rs₁ rs₂ (k / slot_bits + 1) (offset i k) (width k) (word_in o)
      (marks_in o) = rw (← fe, ← ed.word_is, ← ed.marks_is) p in
      done (k / slot_bits) (omega arith) h
      (low_row_lem ed.becomes ed.valid μ c p') z se oe

  -- what the row below says
  module _ {rs : List ℕ} {u : ℕ} (h : k < tier_order u) (sh : Shown i k l' μ rs top u) where
    there : not (eqb (get_or rs (filled_place u) 0) 0) ≡ any (within (tier_order u) (block (tier_order u) i)) l'
    there = go u h sh.words
      where
        go : (u : ℕ) → k < tier_order u →
            ((f : ℕ) → IsField f → get_or rs (place u f) 0 ≡ field_under l' μ top u (block (tier_order u) i) f) →
            not (eqb (get_or rs (filled_place u) 0) 0) ≡ any (within (tier_order u) (block (tier_order u) i)) l'
        go zero h x = absurd (omega arith)
        go (suc t) h x = ap (λ (n : ℕ). not (eqb n 0))
            (get_filled rs (suc t) l' μ top t (block (tier_order (suc t)) i) x) ∙ path_filled ed.becomes ed.valid t h μ

    pub marked : (y : ℕ) → y < mark_count →
        not (eqb (get_or rs (mark_place u y) 0) 0) ≡ slot_mark l' y u (block (tier_order u) i)
    marked y g = go u h sh.words
      where
        go : (u : ℕ) → k < tier_order u →
            ((f : ℕ) → IsField f → get_or rs (place u f) 0 ≡ field_under l' μ top u (block (tier_order u) i) f) →
            not (eqb (get_or rs (mark_place u y) 0) 0) ≡ slot_mark l' y u (block (tier_order u) i)
        go zero h x = absurd (omega arith)
        go (suc t) h x = ap (λ (n : ℕ). not (eqb n 0))
            (get_mark rs (suc t) l' μ top t (block (tier_order (suc t)) i) x y g)
            ∙ word_mark l' y t (block (tier_order (suc t)) i)

    pub up_shown : {rs₁ rs₂ rs₃ : List ℕ} {d e sh ow : ℕ} → k / slot_bits < u → u < top →
        Base i k l' μ rs₁ (u + 1) u →
        RunPut rs₁ rs₂ (u + 1) (block (tier_order u) i % slots) 1 d e → Finishes rs₂ rs₃ (u + 1) sh ow →
        d ≡ pick (not (eqb (get_or rs (filled_place u) 0) 0)) (node_word (get_or ps u 0)) 0 →
        ((y : ℕ) → y < mark_count → eqb (bit y e) 1 ≡ not (eqb (get_or rs (mark_place u y) 0) 0)) →
        sh ≡ shift_word (u + 1) →
        ow ≡ pick (eqb (u + 1) top) 0 (owner_word (get_or ps (u + 1 + 1) 0) (block (tier_order (u + 1)) i % slots)) →
        Shown i k l' μ rs₃ top (u + 1)
    up_shown {d} {e} low lt c p z de me se oe =
        done u (omega arith) lt
        (up_row_lem ed.becomes ed.valid μ u h d e c p
        (de ∙ (ap (λ (t : Bool). pick t (node_word (get_or ps u 0)) 0) there
        ∙ ap (λ (n : ℕ). pick (any (within (tier_order u) (block (tier_order u) i)) l') (node_word n) 0)
        (ed.numbers u low (omega arith))))
        (λ y g. me y g ∙ marked y g)) z se oe

-- the same room higher up, and for rows that were written
pub ready_move : {rs rs' ps : List ℕ} {v top : ℕ} (v' : ℕ) → Ready rs ps v top → length rs' ≡ length rs → v ≤ v' →
    v' < top → Ready rs' ps v' top
ready_move v' r e h g = record {
  low = g;
  top_le = r.top_le;
  path_long = r.path_long;
  rows_long = omega (arith, r.rows_long);
  few = λ u a b. r.few u (omega arith) b;
}

pub roomy_ready : {ws rs rs' ps : List ℕ} {v top : ℕ} → Roomy ws rs ps v top → length rs' ≡ length rs → Ready rs' ps v top
roomy_ready r e = record {
  low = r.low;
  top_le = r.top_le;
  path_long = r.path_long;
  rows_long = omega (arith, r.rows_long);
  few = r.few;
}

-- a row that has the words of a node is a copy of it
pub copies : {ws ps : List ℕ} {v : ℕ} {rs : List ℕ} {top : ℕ} → Copied ws ps v rs top → (u : ℕ) → v ≤ u → u < top →
    Copies ws (get_or ps (suc u) 0) rs rs (u + 1)
copies {ws} {ps} {v} {rs} c u a b = subst (λ (t : ℕ). Copies ws (get_or ps t 0) rs rs (u + 1)) (add-one u) (record {
  others = record { same_length = refl; before = λ p h. refl; after = λ p h. refl };
  fields = c.fields (u + 1) (omega arith) (omega arith);
})

-- WHERE THE ROWS BEGIN
module _ {ws : List ℕ} {s : WellFormed ws} {i k w m : ℕ} {ps : List ℕ} {top : ℕ} {o : Option Entry} {l' : List Entry}
    {μ : Numbering} (ed : Edits s i k w m ps top o l' μ) where
  pub turns : Turns s.list i k w m ps top o l' μ
  turns = record {
    becomes = ed.becomes;
    valid = ed.valid;
    word_is = ed.word_is;
    marks_is = ed.marks_is;
    numbers = ed.numbers;
  }

  pub begun : {rs : List ℕ} → Copied ws ps (k / slot_bits) rs top → Begun i k l' μ rs top (k / slot_bits)
  begun {rs} c = record { bases = λ u a b. ed.bases u a b rs rs (u + 1) (copies c u a b) }

pub copied_start : (ws ps : List ℕ) (v : ℕ) (rs : List ℕ) → Copied ws ps v rs v
copied_start ws ps v rs = record { fields = λ t a b. absurd (omega arith) }

pub copied_to : {ws ps : List ℕ} {v : ℕ} {rs : List ℕ} {u top : ℕ} → Copied ws ps v rs u → top ≤ u → Copied ws ps v rs top
copied_to c h = record { fields = λ t a b. c.fields t a (omega arith) }

-- one row more
pub copied_step : {ws ps : List ℕ} {v : ℕ} {rs rs' : List ℕ} {u : ℕ} → Copied ws ps v rs u →
    Copies ws (get_or ps (u + 1) 0) rs rs' (u + 1) → Copied ws ps v rs' (u + 1)
copied_step {ws} {ps} {v} {rs} {rs'} {u} c d = record {
  fields = λ t a b f h. by_t (eqb t (u + 1))
      (λ x. let e : t ≡ u + 1 = eqb-true _ _ x in
      subst (λ (y : ℕ). get_or rs' (place y f) 0 ≡ get_or ws (place (get_or ps y 0) f) 0) (sym e) (d.fields f h))
      (λ x. let ne : t ≡ u + 1 → ⊥ = eqb-false _ _ x in
      d.others.before (place t f) (omega arith) ∙ c.fields t a (omega arith) f h);
}

-- a row that is begun stays so where one below it is written
pub base_stays : {i k : ℕ} {l' : List Entry} {μ : Numbering} {rs rs' : List ℕ} {u r : ℕ} →
    ((p : ℕ) → node_end r ≤ p → get_or rs' p 0 ≡ get_or rs p 0) → r ≤ u → Base i k l' μ rs (u + 1) u → Base i k l' μ rs' (u + 1) u
base_stays {rs} {rs'} {u} {r} same h b = record {
  slots_are = λ j g a. same (slot_place (u + 1) j) (omega arith) ∙ b.slots_are j g a;
  marks_of_lem = b.marks_of_lem;
  marks_are = λ x g. same (mark_place (u + 1) x) (omega arith) ∙ b.marks_are x g;
  apart_are = b.apart_are;
}

pub begun_above : {i k : ℕ} {l' : List Entry} {μ : Numbering} {rs rs' : List ℕ} {top v : ℕ} → OtherRows rs rs' (v + 1) →
    Begun i k l' μ rs top v → Begun i k l' μ rs' top (v + 1)
begun_above {v = v} o b = record { bases = λ u a h. base_stays {r = v + 1} o.after a (b.bases u (omega arith) h) }
