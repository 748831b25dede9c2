-- What the functions that write a row leave.
use Prim.Native.Nat.{ℕ, zero, suc, ◌+◌, ◌*◌, ◌-◌, ◌≤◌, ◌<◌}
use mathlib.Core.Path.{◌≡◌, refl, sym, ap, subst, ◌∙◌}
use mathlib.Core.Bool.{Bool, true, false, not}
use mathlib.Core.List.{List}
use native.Mathlib.Omega.{arith}
use lib.Dec.{leb, ltb, eqb}
use lib.ListN.{length, get_or, set, length-set}
use lib.Seq.{get_or-set_same, get_or-set_other}
use mir.Val.{bool_byte}
use native.Mathlib.Numerals.{add-one}
use borrow.Author.Tests.{leb-true, ltb-true, ltb-false, eqb-true, eqb-false, eq-eqb, ne_eqb, lt-ltb, le-leb, le-ltb}
use Rattle.blocks.specs.Choice.{pick, both}
use Rattle.blocks.specs.Blocks.{bit, set_bit, bits_to, count_to}
use Rattle.blocks.proofs.BoolLaws.{by_t, both_l, both_r}
use Rattle.blocks.proofs.BitLaws.{bits_same}
use Rattle.model.specs.Model.{mark_count}
use Rattle.tree.specs.Tree.{slots}
use Rattle.tree.specs.Slots.{sibling_word}
use Rattle.layout.specs.Words.{place, pool_words, node_words, node_end, last_place, shift_place, owner_place, filled_place, mark_place, slot_place}
use Rattle.words.specs.Fill.{filled}
use Rattle.words.proofs.FillLaws.{length_filled, filled_before, filled_after, filled_in_lem}
use Rattle.layout.proofs.FieldLaws.{filled_same}
use Rattle.marks.proofs.BitSetLaws.{set_bits}
use Rattle.script_rows.specs.Row.{in_run, run_word, Copies, BitsPut, RunPut, Finishes, marks_up, AnchorPut}

pub in_yes : (a c j : ℕ) → a ≤ j → j < a + c → in_run a c j ≡ true
in_yes a c j h g = rw (le-leb a j h, lt-ltb j (a + c) g) refl

pub in_no : (a c j : ℕ) → (a ≤ j → j < a + c → ⊥) → in_run a c j ≡ false
in_no a c j n = by_t (in_run a c j)
    (λ t. absurd (n (leb-true _ _ (both_l (leb a j) _ t)) (ltb-true _ _ (both_r (leb a j) _ t)))) (λ t. t)

-- COPYING
pub record Copying (ws : List ℕ) (n : ℕ) (rs rs' : List ℕ) (r f : ℕ) : Type 0 where
  pub most : f ≤ node_words
  pub same_length : length rs' ≡ length rs
  pub before : (p : ℕ) → p < pool_words r → get_or rs' p 0 ≡ get_or rs p 0
  pub after : (p : ℕ) → node_end r ≤ p → get_or rs' p 0 ≡ get_or rs p 0
  pub fields : (g : ℕ) → g < f → get_or rs' (place r g) 0 ≡ get_or ws (place n g) 0

pub copy_start : (ws : List ℕ) (n : ℕ) (rs : List ℕ) (r : ℕ) → Copying ws n rs rs r 0
copy_start ws n rs r = record {
  most = omega arith;
  same_length = refl;
  before = λ p h. refl;
  after = λ p h. refl;
  fields = λ g h. absurd (omega arith);
}

pub copy_step : {ws : List ℕ} {n : ℕ} {rs rs' : List ℕ} {r f : ℕ} → Copying ws n rs rs' r f → f < node_words →
    last_place r < length rs → Copying ws n rs (set rs' (place r f) (get_or ws (place n f) 0)) r (f + 1)
copy_step {ws} {n} {rs} {rs'} {r} {f} c h room = record {
  most = omega arith;
  same_length = length-set rs' (place r f) (get_or ws (place n f) 0) ∙ c.same_length;
  before = λ p g. get_or-set_other rs' (place r f) p (get_or ws (place n f) 0) 0 (omega arith) ∙ c.before p g;
  after = λ p g. get_or-set_other rs' (place r f) p (get_or ws (place n f) 0) 0 (omega arith) ∙ c.after p g;
  fields = λ g lt. by_t (eqb g f)
      (λ t. let e : g ≡ f = eqb-true _ _ t in
      rw e (get_or-set_same rs' (place r f) (get_or ws (place n f) 0) 0 (omega (arith, c.same_length))))
      (λ t. let ne : g ≡ f → ⊥ = eqb-false _ _ t in
      get_or-set_other rs' (place r f) (place r g) (get_or ws (place n f) 0) 0 (omega arith) ∙ c.fields g (omega arith));
}

pub copy_end : {ws : List ℕ} {n : ℕ} {rs rs' : List ℕ} {r f : ℕ} → Copying ws n rs rs' r f → node_words ≤ f →
    Copies ws n rs rs' r
copy_end c h = record {
  others = record { same_length = c.same_length; before = c.before; after = c.after };
  fields = λ f g. c.fields f (omega arith);
}

-- BITS
module _ (f : ℕ → Bool) (o : ℕ) where
  abbrev cut : ℕ → ℕ → Bool
  cut c j = pick (in_run o c j) false (f j)

  pub bits_start : bits_to f slots ≡ bits_to (λ j. pick (in_run o 0 j) false (f j)) slots
  bits_start = bits_same f (λ j. pick (in_run o 0 j) false (f j)) slots
      (λ j h. sym (rw (in_no o 0 j (λ a b. omega arith)) refl))

  grows : (t j : ℕ) → (j ≡ o + t → ⊥) → in_run o t j ≡ in_run o (t + 1) j
  grows t j ne = by_t (ltb j (o + t))
      (λ s. let g : j < o + t = ltb-true _ _ s in rw (s, lt-ltb j (o + (t + 1)) (omega arith)) refl)
      (λ s. let g : o + t ≤ j = ltb-false _ _ s in rw (s, le-ltb j (o + (t + 1)) (omega arith)) refl)

  pub bits_step : (t : ℕ) → o + t < slots → {y y' : ℕ} → y ≡ bits_to (λ j. pick (in_run o t j) false (f j)) slots →
      y' ≡ set_bit (o + t) false y → y' ≡ bits_to (λ j. pick (in_run o (t + 1) j) false (f j)) slots
  bits_step t h {y} {y'} e e' =
      let at : cut (t + 1) (o + t) ≡ false = rw (in_yes o (t + 1) (o + t) (omega arith) (omega arith)) refl in
      e' ∙ (ap (set_bit (o + t) false) e ∙ subst (λ (b : Bool). set_bit (o + t) b (bits_to (cut t) slots)
      ≡ bits_to (cut (t + 1)) slots) at
      (set_bits (cut t) (cut (t + 1)) (o + t) slots h (λ j lt ne. ap (λ (b : Bool). pick b false (f j)) (grows t j ne))))

  pub bits_last : (c : ℕ) (on : Bool) → 1 ≤ c → o < slots → {y y' : ℕ} →
      y ≡ bits_to (λ j. pick (in_run o c j) false (f j)) slots → y' ≡ set_bit o on y →
      y' ≡ bits_to (λ j. pick (in_run o c j) (both (eqb j o) on) (f j)) slots
  bits_last c on h g {y} {y'} e e' =
      let G : ℕ → Bool = λ j. pick (in_run o c j) (both (eqb j o) on) (f j) in
      let at : pick (in_run o c o) (both (eqb o o) on) (f o) ≡ on =
      rw (in_yes o c o (omega arith) (omega arith), eq-eqb o o refl) refl in
      e' ∙ (ap (set_bit o on) e ∙ subst (λ (b : Bool). set_bit o b (bits_to (cut c) slots) ≡
      bits_to (λ j. pick (in_run o c j) (both (eqb j o) on) (f j)) slots) at
      (set_bits (cut c) (λ j. pick (in_run o c j) (both (eqb j o) on) (f j)) o slots g
      (λ j lt ne. by_t (in_run o c j) (λ t. rw (t, ne_eqb j o ne) refl) (λ t. rw t refl))))

pub bits_put : {rs : List ℕ} {r x o c : ℕ} {on : Bool} {w z y : ℕ} → last_place r < length rs → x < mark_count → 1 ≤ c →
    o < slots → w ≡ get_or rs (mark_place r x) 0 →
    ((f : ℕ → Bool) → w ≡ bits_to f slots → z ≡ bits_to (λ j. pick (in_run o c j) false (f j)) slots) →
    y ≡ set_bit o on z → BitsPut rs (set rs (mark_place r x) y) r x o c on
bits_put {rs} {r} {x} {o} {c} {on} {w} {z} {y} room h one lt e g q = record {
  same_length = length-set rs (mark_place r x) y;
  rest = λ p n. get_or-set_other rs (mark_place r x) p y 0 n;
  word_is = λ f d. get_or-set_same rs (mark_place r x) y 0 (omega arith) ∙ bits_last f o c on one lt (g f (e ∙ d)) q;
}

-- A RUN
module _ (rs rs₁ : List ℕ) (r o c w : ℕ) (room : last_place r < length rs) (fits : o + c ≤ slots) (one : 1 ≤ c)
    (e : rs₁ ≡ pick (eqb w 0) (filled rs (slot_place r o) 0 c)
    (set (filled rs (slot_place r (o + 1)) (sibling_word o) (c - 1)) (slot_place r o) w)) where
  abbrev empty : List ℕ
  empty = filled rs (slot_place r o) 0 c

  abbrev siblings : List ℕ
  siblings = filled rs (slot_place r (o + 1)) (sibling_word o) (c - 1)

  by_word : (P : List ℕ → Type 0) → (eqb w 0 ≡ true → P empty) → (eqb w 0 ≡ false → P (set siblings (slot_place r o) w)) →
      P rs₁
  by_word P a b = by_t (eqb w 0) (λ t. subst P (sym (e ∙ rw t refl)) (a t)) (λ t. subst P (sym (e ∙ rw t refl)) (b t))

  pub run_length : length rs₁ ≡ length rs
  run_length = by_word (λ q. length q ≡ length rs) (λ t. length_filled rs (slot_place r o) 0 c)
      (λ t. length-set siblings (slot_place r o) w ∙ length_filled rs (slot_place r (o + 1)) (sibling_word o) (c - 1))

  -- a place outside the run
  pub run_rest : (p : ℕ) → (slot_place r o ≤ p → p < slot_place r (o + c) → ⊥) → get_or rs₁ p 0 ≡ get_or rs p 0
  run_rest p n = by_word (λ q. get_or q p 0 ≡ get_or rs p 0)
      (λ t. side (λ h. filled_before rs (slot_place r o) 0 c p h) (λ h. filled_after rs (slot_place r o) 0 c p (omega arith)))
      (λ t. side (λ h. get_or-set_other siblings (slot_place r o) p w 0 (omega arith)
      ∙ filled_before rs (slot_place r (o + 1)) (sibling_word o) (c - 1) p (omega arith))
      (λ h. get_or-set_other siblings (slot_place r o) p w 0 (omega arith)
      ∙ filled_after rs (slot_place r (o + 1)) (sibling_word o) (c - 1) p (omega arith)))
    where
      side : {C : Type 0} → (p < slot_place r o → C) → (slot_place r (o + c) ≤ p → C) → C
      side {C} a b = by_t (ltb p (slot_place r o)) (λ t. a (ltb-true _ _ t))
          (λ t. let g : slot_place r o ≤ p = ltb-false _ _ t in
          by_t (ltb p (slot_place r (o + c))) (λ s. absurd (n g (ltb-true _ _ s))) (λ s. b (ltb-false _ _ s)))

  pub run_in : (j : ℕ) → o ≤ j → j < o + c → get_or rs₁ (slot_place r j) 0 ≡ run_word o w j
  run_in j h g = by_word (λ q. get_or q (slot_place r j) 0 ≡ run_word o w j)
      (λ t. rw t (filled_in_lem rs (slot_place r o) 0 c (slot_place r j) (omega arith) (omega arith) (omega arith)))
      (λ t. rw t (by_t (eqb j o)
      (λ s. let z : j ≡ o = eqb-true _ _ s in
      rw (s, z) (get_or-set_same siblings (slot_place r o) w 0
      (omega (arith, length_filled rs (slot_place r (o + 1)) (sibling_word o) (c - 1)))))
      (λ s. let ne : j ≡ o → ⊥ = eqb-false _ _ s in
      rw s (get_or-set_other siblings (slot_place r o) (slot_place r j) w 0 (omega arith)
      ∙ filled_in_lem rs (slot_place r (o + 1)) (sibling_word o) (c - 1) (slot_place r j) (omega arith) (omega arith) (omega arith)))))

  module _ {rs₂ rs₃ rs₄ : List ℕ} (m : ℕ) {b₀ b₁ b₂ : Bool} (p₀ : BitsPut rs₁ rs₂ r 0 o c b₀)
      (p₁ : BitsPut rs₂ rs₃ r 1 o c b₁) (p₂ : BitsPut rs₃ rs₄ r 2 o c b₂)
      (e₀ : b₀ ≡ eqb (bit 0 m) 1) (e₁ : b₁ ≡ eqb (bit 1 m) 1) (e₂ : b₂ ≡ eqb (bit 2 m) 1) where
    rest : (p : ℕ) → (p ≡ mark_place r 0 → ⊥) → (p ≡ mark_place r 1 → ⊥) → (p ≡ mark_place r 2 → ⊥) →
        get_or rs₄ p 0 ≡ get_or rs₁ p 0
    rest p n₀ n₁ n₂ = p₂.rest p n₂ ∙ (p₁.rest p n₁ ∙ p₀.rest p n₀)

    marks : (x : ℕ) → x < mark_count → (f : ℕ → Bool) → get_or rs (mark_place r x) 0 ≡ bits_to f slots →
        get_or rs₄ (mark_place r x) 0 ≡ bits_to (λ j. pick (in_run o c j) (both (eqb j o) (eqb (bit x m) 1)) (f j)) slots
    marks zero h f q =
        p₂.rest (mark_place r 0) (omega arith) ∙ (p₁.rest (mark_place r 0) (omega arith) ∙ subst
        (λ (b : Bool). get_or rs₂ (mark_place r 0) 0 ≡ bits_to (λ j. pick (in_run o c j) (both (eqb j o) b) (f j)) slots) e₀
        (p₀.word_is f (run_rest (mark_place r 0) (λ a g. omega arith) ∙ q)))
    marks (suc zero) h f q =
        p₂.rest (mark_place r 1) (omega arith) ∙ subst
        (λ (b : Bool). get_or rs₃ (mark_place r 1) 0 ≡ bits_to (λ j. pick (in_run o c j) (both (eqb j o) b) (f j)) slots) e₁
        (p₁.word_is f (p₀.rest (mark_place r 1) (omega arith) ∙ (run_rest (mark_place r 1) (λ a g. omega arith) ∙ q)))
    marks (suc (suc zero)) h f q = subst
        (λ (b : Bool). get_or rs₄ (mark_place r 2) 0 ≡ bits_to (λ j. pick (in_run o c j) (both (eqb j o) b) (f j)) slots) e₂
        (p₂.word_is f (p₁.rest (mark_place r 2) (omega arith) ∙ (p₀.rest (mark_place r 2) (omega arith)
        ∙ (run_rest (mark_place r 2) (λ a g. omega arith) ∙ q))))
    marks (suc (suc (suc x))) h f q = absurd (omega arith)

    pub run_put : RunPut rs rs₄ r o c w m
    run_put = record {
      others = record {
        same_length = p₂.same_length ∙ (p₁.same_length ∙ (p₀.same_length ∙ run_length));
        before = λ p h. rest p (omega arith) (omega arith) (omega arith) ∙ run_rest p (λ a g. omega arith);
        after = λ p h. rest p (omega arith) (omega arith) (omega arith) ∙ run_rest p (λ a g. omega arith);
      };
      slots_in = λ j h g. rest (slot_place r j) (omega arith) (omega arith) (omega arith) ∙ run_in j h g;
      slots_out = λ j h n. rest (slot_place r j) (omega arith) (omega arith) (omega arith)
          ∙ run_rest (slot_place r j) (λ a g. n (omega arith) (omega arith));
      marks_are = marks;
    }

-- THE COUNT
pub byte_le : (b : Bool) → bool_byte b ≤ 1
byte_le true = omega arith
byte_le false = omega arith

pub byte_is : (b : Bool) → bool_byte b ≡ pick b 1 0
byte_is true = refl
byte_is false = refl

abbrev pub filled_to : List ℕ → (r j : ℕ) → ℕ
filled_to rs r j = count_to (λ i. not (eqb (get_or rs (slot_place r i) 0) 0)) j

pub count_step : (rs : List ℕ) (r j q x : ℕ) → q ≡ filled_to rs r j → x ≡ get_or rs (slot_place r j) 0 →
    q + bool_byte (not (eqb x 0)) ≡ filled_to rs r (j + 1)
count_step rs r j q x e d = rw (add-one, ← d, e, byte_is (not (eqb x 0)))

-- THE REST OF A ROW
module _ (rs : List ℕ) (r s w q : ℕ) (room : last_place r < length rs) where
  abbrev rs₁ : List ℕ
  rs₁ = set rs (shift_place r) s

  abbrev rs₂ : List ℕ
  rs₂ = set rs₁ (owner_place r) w

  abbrev rs₃ : List ℕ
  rs₃ = set rs₂ (filled_place r) q

  keeps : (p : ℕ) → (p ≡ shift_place r → ⊥) → (p ≡ owner_place r → ⊥) → (p ≡ filled_place r → ⊥) →
      get_or rs₃ p 0 ≡ get_or rs p 0
  keeps p a b c = get_or-set_other rs₂ (filled_place r) p q 0 c ∙ (get_or-set_other rs₁ (owner_place r) p w 0 b
      ∙ get_or-set_other rs (shift_place r) p s 0 a)

  long₁ : length rs₁ ≡ length rs
  long₁ = length-set rs (shift_place r) s

  long₂ : length rs₂ ≡ length rs
  long₂ = length-set rs₁ (owner_place r) w ∙ long₁

  pub finishes : q ≡ filled_to rs₂ r slots → Finishes rs rs₃ r s w
  finishes e = record {
    others = record {
      same_length = length-set rs₂ (filled_place r) q ∙ long₂;
      before = λ p h. keeps p (omega arith) (omega arith) (omega arith);
      after = λ p h. keeps p (omega arith) (omega arith) (omega arith);
    };
    shift_is = get_or-set_other rs₂ (filled_place r) (shift_place r) q 0 (omega arith)
        ∙ (get_or-set_other rs₁ (owner_place r) (shift_place r) w 0 (omega arith)
        ∙ get_or-set_same rs (shift_place r) s 0 (omega arith));
    owner_is = get_or-set_other rs₂ (filled_place r) (owner_place r) q 0 (omega arith)
        ∙ get_or-set_same rs₁ (owner_place r) w 0 (omega (arith, long₁));
    filled_is = get_or-set_same rs₂ (filled_place r) q 0 (omega (arith, long₂)) ∙ (e
        ∙ filled_same (λ j. get_or rs₃ (slot_place r j) 0) (λ j. get_or rs₂ (slot_place r j) 0)
        (λ j h. sym (get_or-set_other rs₂ (filled_place r) (slot_place r j) q 0 (omega arith))));
    marks_stay = λ x h. keeps (mark_place r x) (omega arith) (omega arith) (omega arith);
    slots_stay = λ j h. keeps (slot_place r j) (omega arith) (omega arith) (omega arith);
  }

pub up_value : (a b c a' b' c' : ℕ) → a ≡ a' → b ≡ b' → c ≡ c' →
    bool_byte (not (eqb a 0)) + 2 * bool_byte (not (eqb b 0)) + 4 * bool_byte (not (eqb c 0))
    ≡ pick (not (eqb a' 0)) 1 0 + 2 * pick (not (eqb b' 0)) 1 0 + 4 * pick (not (eqb c' 0)) 1 0
up_value a b c a' b' c' e f g = rw (e, f, g, byte_is (not (eqb a' 0)), byte_is (not (eqb b' 0)), byte_is (not (eqb c' 0))) refl

-- THE ANCHOR
pub anchor_put : (ws rs : List ℕ) (w u m : ℕ) → 4 ≤ length rs → m ≡ marks_up rs u →
    AnchorPut ws rs (set (set (set (set rs 0 (get_or ws 0 0)) 1 w) 2 m) 3 0) w u
anchor_put ws rs w u m h e =
    let r₁ : List ℕ = set rs 0 (get_or ws 0 0) in
    let r₂ : List ℕ = set (set rs 0 (get_or ws 0 0)) 1 w in
    let r₃ : List ℕ = set (set (set rs 0 (get_or ws 0 0)) 1 w) 2 m in
    let l₁ : length (set rs 0 (get_or ws 0 0)) ≡ length rs = length-set rs 0 (get_or ws 0 0) in
    let l₂ : length (set (set rs 0 (get_or ws 0 0)) 1 w) ≡ length rs = length-set (set rs 0 (get_or ws 0 0)) 1 w ∙ l₁ in
    let l₃ : length (set (set (set rs 0 (get_or ws 0 0)) 1 w) 2 m) ≡ length rs =
    length-set (set (set rs 0 (get_or ws 0 0)) 1 w) 2 m ∙ l₂ in
    record {
      same_length = length-set r₃ 3 0 ∙ l₃;
      count_is = get_or-set_other r₃ 3 0 0 0 (omega arith) ∙ (get_or-set_other r₂ 2 0 m 0 (omega arith)
          ∙ (get_or-set_other r₁ 1 0 w 0 (omega arith) ∙ get_or-set_same rs 0 (get_or ws 0 0) 0 (omega arith)));
      head_is = get_or-set_other r₃ 3 1 0 0 (omega arith) ∙ (get_or-set_other r₂ 2 1 m 0 (omega arith)
          ∙ get_or-set_same r₁ 1 w 0 (omega arith));
      marks_is = get_or-set_other r₃ 3 2 0 0 (omega arith) ∙ (get_or-set_same r₂ 2 m 0 (omega arith) ∙ e);
      spare_is = get_or-set_same r₃ 3 0 0 (omega arith);
      rest = λ p g. get_or-set_other r₃ 3 p 0 0 (omega arith) ∙ (get_or-set_other r₂ 2 p m 0 (omega arith)
          ∙ (get_or-set_other r₁ 1 p w 0 (omega arith) ∙ get_or-set_other rs 0 p (get_or ws 0 0) 0 (omega arith)));
    }
