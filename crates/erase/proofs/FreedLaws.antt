-- A node freed: which words changed, and that the map of the free nodes follows.
use Prim.Native.Nat.{ℕ, ◌+◌, ◌≤◌, ◌<◌}
use mathlib.Core.Path.{◌≡◌, refl, sym, ap, ap₂, ◌∙◌}
use mathlib.Core.Logic.{◌≢◌}
use mathlib.Core.Bool.{Bool, true, false}
use mathlib.Core.List.{List}
use mathlib.Core.Option.{Option, none, some}
use native.Mathlib.Omega.{arith}
use lib.Dec.{eqb, ltb}
use lib.ListN.{length, get_or, set, length-set}
use lib.Seq.{get_or-set_same, get_or-set_other}
use borrow.Author.Tests.{ltb-true, ltb-false, eqb-true, eqb-false}
use Rattle.blocks.specs.Choice.{both}
use Rattle.blocks.proofs.BoolLaws.{by_t, clash}
use Rattle.model.specs.Model.{remark, mark_count}
use Rattle.tree.specs.Tree.{slots, Node}
use Rattle.layout.specs.Words.{pool_words, node_end, head_word, count_word, field_at, shift_field, shift_place, owner_place, filled_place, last_place, slot_place}
use Rattle.layout.specs.Places.{render}
use Rattle.layout.specs.WellFormed.{WellFormed, num}
use Rattle.layout.specs.Fill.{cleared}
use Rattle.words.specs.Fill.{filled}
use Rattle.layout.proofs.FillLaws.{length_cleared, cleared_before, cleared_after, cleared_in}
use Rattle.words.proofs.FillLaws.{filled_before, filled_after, filled_in_lem}
use Rattle.layout.proofs.FieldLaws.{at_shift}
use Rattle.marks.proofs.RemarkLaws.{formed_remark}
use Rattle.freemap.specs.FreeMap.{put, MapOf}
use Rattle.freenodes.specs.FreeNodes.{free_in, FreeMap}
use Rattle.freemap.proofs.MapLaws.{map_as}
use Rattle.freenodes.proofs.FollowLaws.{free_same, free_given}
use Rattle.erase.specs.Freed.{Gone, Outside, Freed, Raised, Unlinked, Sheds}
use Rattle.layout.proofs.RenderWordLaws.{pool_anchor, pool_node}

-- THE WORDS OF ONE NODE
module _ (ws : List ℕ) (n : ℕ) where
  free_gone : last_place n < length ws → Gone (cleared ws n) n
  free_gone lt j p q = cleared_in ws n (omega arith) j p q

  free_rest : (j : ℕ) → Outside n j → get_or (cleared ws n) j 0 ≡ get_or ws j 0
  free_rest j out =
      by_t (ltb j (pool_words n)) (λ t. cleared_before ws n j (ltb-true _ _ t))
      (λ t. by_t (ltb j (node_end n)) (λ u. absurd (out (ltb-false _ _ t) (ltb-true _ _ u)))
      (λ u. cleared_after ws n j (ltb-false _ _ u)))

pub freed : {ws ws₁ : List ℕ} (n x : ℕ) → last_place n < length ws →
    ws₁ ≡ cleared ws n → Freed ws (set ws₁ head_word x) n x
freed {ws} {ws₁} n x lt e = rw e (record {
  gone = λ j p q.
      get_or-set_other (cleared ws n) head_word j x 0 (omega arith) ∙ free_gone ws n lt j p q;
  head = get_or-set_same (cleared ws n) head_word x 0
      (omega (arith, length_cleared ws n));
  rest = λ j out ne. get_or-set_other (cleared ws n) head_word j x 0 ne ∙ free_rest ws n j out;
})

pub raised : {ws ws₁ ws₂ : List ℕ} (n m x : ℕ) → last_place m < length ws →
    ws₁ ≡ set ws (owner_place m) 0 → Freed ws₁ ws₂ n x → Raised ws ws₂ n m x
raised {ws} {ws₁} {ws₂} n m x lt e f = record {
  gone = f.gone;
  own = λ ne. f.rest (owner_place m) (λ p q. ne (omega arith)) (omega arith) ∙
      (ap (λ (w : List ℕ). get_or w (owner_place m) 0) e ∙ get_or-set_same ws (owner_place m) 0 0
      (omega arith));
  head = f.head;
  rest = λ j out ne₁ ne. f.rest j out ne ∙
      (ap (λ (w : List ℕ). get_or w j 0) e ∙ get_or-set_other ws (owner_place m) j 0 0 ne₁);
}

pub unlinked : {ws ws₁ ws₂ ws₃ : List ℕ} (n m o x : ℕ) → last_place n < length ws → last_place m < length ws →
    o < slots → x + 1 ≡ get_or ws (filled_place m) 0 → ws₁ ≡ set ws (filled_place m) x →
    ws₂ ≡ set ws₁ (slot_place m o) 0 → ws₃ ≡ cleared ws₂ n → Unlinked ws ws₃ n m o
unlinked {ws} n m o x lt lt' o< c e₁ e₂ e₃ = rw (e₃, e₂, e₁) (record {
  gone = free_gone (set (set ws (filled_place m) x) (slot_place m o) 0) n
      (rw (length-set (set ws (filled_place m) x) (slot_place m o) 0, length-set ws (filled_place m) x) lt);
  cleared = λ ne. free_rest (set (set ws (filled_place m) x) (slot_place m o) 0) n (slot_place m o)
      (λ p q. ne (omega arith)) ∙ get_or-set_same (set ws (filled_place m) x) (slot_place m o) 0 0
      (rw (length-set ws (filled_place m) x) (omega arith));
  counted = λ ne. ap (λ (y : ℕ). y + 1) (free_rest (set (set ws (filled_place m) x) (slot_place m o) 0) n
      (filled_place m) (λ p q. ne (omega arith)) ∙
      (get_or-set_other (set ws (filled_place m) x) (slot_place m o) (filled_place m) 0 0 (omega arith) ∙
      get_or-set_same ws (filled_place m) x 0 (omega arith))) ∙ c;
  rest = λ j out ne₁ ne₂. free_rest (set (set ws (filled_place m) x) (slot_place m o) 0) n j out ∙
      (get_or-set_other (set ws (filled_place m) x) (slot_place m o) j 0 0 ne₁ ∙
      get_or-set_other ws (filled_place m) j x 0 ne₂);
})

-- A RUN OF SLOTS: c of node n, from o on, became 0, and its filled count is less by as many
pub record Taken (ws ws' : List ℕ) (n o c : ℕ) : Type 0 where
  pub counted : get_or ws' (filled_place n) 0 + c ≡ get_or ws (filled_place n) 0
  pub emptied : (j : ℕ) → slot_place n o ≤ j → j < slot_place n o + c → get_or ws' j 0 ≡ 0
  pub before : (j : ℕ) → j < slot_place n o → j ≢ filled_place n → get_or ws' j 0 ≡ get_or ws j 0
  pub after : (j : ℕ) → slot_place n o + c ≤ j → get_or ws' j 0 ≡ get_or ws j 0

pub taken : {ws ws₁ ws₂ : List ℕ} (n o c x : ℕ) → ws₁ ≡ set ws (filled_place n) x → ws₂ ≡ filled ws₁ (slot_place n o) 0 c →
    last_place n < length ws → o + c ≤ slots → x + c ≡ get_or ws (filled_place n) 0 → Taken ws ws₂ n o c
taken {ws} n o c x e₁ e₂ lt le less = rw (e₂, e₁) (record {
  counted = ap (λ (y : ℕ). y + c) (filled_before (set ws (filled_place n) x) (slot_place n o) 0 c (filled_place n)
      (omega arith) ∙ get_or-set_same ws (filled_place n) x 0 (omega arith)) ∙ less;
  emptied = λ j. filled_in_lem (set ws (filled_place n) x) (slot_place n o) 0 c j
      (rw (length-set ws (filled_place n) x) (omega arith));
  before = λ j lo ne. filled_before (set ws (filled_place n) x) (slot_place n o) 0 c j lo ∙
      get_or-set_other ws (filled_place n) j x 0 ne;
  after = λ j hi. filled_after (set ws (filled_place n) x) (slot_place n o) 0 c j hi ∙
      get_or-set_other ws (filled_place n) j x 0 (omega arith);
})

-- a run of slots holds no first word
pub taken_map : {ws ws' ms : List ℕ} (n o c : ℕ) → o + c ≤ slots → Taken ws ws' n o c → FreeMap ws ms → FreeMap ws' ms
taken_map n o c le t F =
    free_same F (t.before count_word (omega arith) (omega arith))
    (λ m. by_t (ltb (shift_place m) (slot_place n o))
    (λ b. t.before (shift_place m) (ltb-true _ _ b) (omega arith))
    (λ b. t.after (shift_place m) (omega (arith, ltb-false, b))))

-- FIRST WORDS, and with them the map of the free nodes
pub sheds_none : (n : ℕ) (ws : List ℕ) → Sheds false n ws ws
sheds_none n ws = record {
  count_is = refl;
  rest = λ m ne. refl;
  freed = λ e. absurd (clash e refl);
  kept = λ _. refl;
}

module _ {ws ws' : List ℕ} {n : ℕ} where
  pub freed_sheds : {x : ℕ} → Freed ws ws' n x → Sheds true n ws ws'
  freed_sheds f = record {
    count_is = f.rest count_word (λ p q. omega arith) (omega arith);
    rest = λ m ne. f.rest (shift_place m) (λ p q. ne (omega arith)) (omega arith);
    freed = λ _. f.gone (shift_place n) (omega arith) (omega arith);
    kept = λ e. absurd (clash refl e);
  }

  pub raised_sheds : {m x : ℕ} → Raised ws ws' n m x → Sheds true n ws ws'
  raised_sheds f = record {
    count_is = f.rest count_word (λ p q. omega arith) (omega arith) (omega arith);
    rest = λ m ne. f.rest (shift_place m) (λ p q. ne (omega arith)) (omega arith) (omega arith);
    freed = λ _. f.gone (shift_place n) (omega arith) (omega arith);
    kept = λ e. absurd (clash refl e);
  }

  pub unlinked_sheds : {m o : ℕ} → o < slots → Unlinked ws ws' n m o → Sheds true n ws ws'
  unlinked_sheds o< f = record {
    count_is = f.rest count_word (λ p q. omega arith) (omega arith) (omega arith);
    rest = λ m ne. f.rest (shift_place m) (λ p q. ne (omega arith)) (omega arith) (omega arith);
    freed = λ _. f.gone (shift_place n) (omega arith) (omega arith);
    kept = λ e. absurd (clash refl e);
  }

  module _ {r : Bool} (d : Sheds r n ws ws') {ms : List ℕ} (F : FreeMap ws ms) where
    pub sheds_given : r ≡ true → n < get_or ws count_word 0 → {ms' : List ℕ} →
        ((f : ℕ → Bool) → MapOf f ms → MapOf (put f n true) ms') → FreeMap ws' ms'
    sheds_given e lt gave = free_given F d.count_is n lt (d.freed e) d.rest gave

    pub sheds_kept : r ≡ false → FreeMap ws' ms
    sheds_kept e =
        free_same F d.count_is
        (λ m. by_t (eqb m n) (λ t. let q : m ≡ n = eqb-true _ _ t in rw q (d.kept e)) (λ t. d.rest m (eqb-false _ _ t)))

-- marks are no first words
pub map_remark : {ws ws' : List ℕ} (s : WellFormed ws) (i m : ℕ) (b : Bool) → m < mark_count →
    ws' ≡ render (remark s.list i m b) s.places s.n → {ms : List ℕ} → FreeMap ws ms → FreeMap ws' ms
map_remark {ws} {ws'} s i m b lt e F = record {
  is = map_as F.is (free_in ws') (λ k _. by_t (ltb k s.n)
      (λ t. ap₂ (λ (x y : ℕ). both (ltb k x) (eqb y 0)) (count ∙ sym count') (same k (ltb-true _ _ t)))
      (λ t. rw (count, count', t)));
}
  where
    count : get_or ws count_word 0 ≡ s.n
    count = pool_anchor s count_word (omega arith)

    count' : get_or ws' count_word 0 ≡ s.n
    count' = pool_anchor (formed_remark i m b lt s e) count_word (omega arith)

    go : (o : Option Node) → field_at s.list (num s) o shift_field ≡ field_at (remark s.list i m b) (num s) o
        shift_field
    go none = refl
    go (some p) = at_shift _ _ _ _ ∙ sym (at_shift _ _ _ _)

    same : (k : ℕ) → k < s.n → get_or ws (shift_place k) 0 ≡ get_or ws' (shift_place k) 0
    same k k< =
        pool_node s k shift_field k< (omega arith) ∙
        (go (get_or s.places k none) ∙ sym (pool_node (formed_remark i m b lt s e) k shift_field k< (omega arith)))
