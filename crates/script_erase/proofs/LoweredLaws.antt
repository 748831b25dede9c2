-- The head comes down: what the rows hold under a head of one tier less.
use Prim.Native.Nat.{ℕ, zero, suc, ◌+◌, ◌*◌, ◌-◌, ◌/◌, ◌≤◌, ◌<◌}
use mathlib.Core.Path.{◌≡◌, refl, sym, ap, ◌∙◌}
use mathlib.Core.Bool.{true, false}
use mathlib.Core.List.{List}
use native.Mathlib.Omega.{arith}
use native.Mathlib.Nat.{le_refl}
use lib.Dec.{eqb, leb, ltb}
use lib.ListN.{get_or}
use borrow.Author.Tests.{eqb-true, eqb-false, leb-true, leb-false, le-leb, lt-leb, ltb-true, ltb-false, eq-eqb, ne_eqb}
use Rattle.blocks.specs.Lists.{any}
use Rattle.blocks.specs.Blocks.{block}
use Rattle.blocks.proofs.BitLaws.{bits_same}
use Rattle.blocks.proofs.BoolLaws.{by_t, both_no}
use Rattle.model.specs.declared.Entry.{Entry}
use Rattle.model.specs.Model.{within}
use Rattle.model.proofs.RangeLaws.{Apart}
use Rattle.tree.specs.Tree.{slots, slot_bits, tier_order, height, has, slot_mark}
use Rattle.tree.specs.Slots.{slot}
use Rattle.tree.proofs.NodeListLaws.{has_in, has_within, has_tier}
use Rattle.layout.specs.Words.{place, IsField, owner_field, field_of, shift_word, mark_word, slot_word, field, field_under}
use Rattle.layout.specs.WellFormed.{WellFormed, num}
use Rattle.layout.proofs.FieldLaws.{fields_same, at_owner}
use Rattle.layout.proofs.FreshLaws.{apart_slot}
use Rattle.layout.proofs.RenderWordLaws.{field_of_lem}
use Rattle.plan.proofs.AfterStoreLaws.{Lies, lies, on_path_lem, in_run_lem, off}
use Rattle.script_rows.proofs.BecomesLaws.{within_apart, slot_apart, mark_apart}
use Rattle.script_erase.specs.Erased.{Erases, Off, HeadRow, chain_row, tall_field, Lowered}
use Rattle.script_erase.proofs.ErasesLaws.{first_only, none_inside, within_left}

-- the row of block 0, case by case
pub row_or : {i v u r : ℕ} {C : Type 0} → HeadRow i v u r → (v < u → block (tier_order u) i ≡ 0 → r ≡ u → C) →
    (Off i v u → r ≡ chain_row u → C) → C
row_or {i} {v} {u} h here away =
    by_t (ltb v u)
    (λ t. let a : v < u = ltb-true _ _ t in
    by_t (eqb (block (tier_order u) i) 0) (λ z. let e : block (tier_order u) i ≡ 0 = eqb-true _ _ z in here a e (h.on a e))
    (λ z. let n : block (tier_order u) i ≡ 0 → ⊥ = eqb-false _ _ z in away (λ _ e. n e) (h.off (λ _ e. n e))))
    (λ t. let a : u ≤ v = ltb-false _ _ t in away (λ g _. omega arith) (h.off (λ g _. omega arith)))

-- fields but the owner do not depend on it
pub other_owner : (sh w w' : ℕ) (mark slot : ℕ → ℕ) (f : ℕ) → (f ≡ owner_field → ⊥) →
    field_of sh w' mark slot f ≡ field_of sh w mark slot f
unfolding field_of
other_owner sh w w' mark slot f n = rw (ne_eqb f owner_field n) refl

-- UNDER A HEAD OF ONE TIER LESS the words are the same, apart from the old head's and the new head's owner
module _ {ws : List ℕ} (s : WellFormed ws) {i k top : ℕ} {l' : List Entry} (E : Erases s i k top l') {u : ℕ}
    (fit : height l' ≤ u) where
  pub tall_gone : (t x c f : ℕ) → any (within (tier_order x) c) l' ≡ false → tall_field t l' (num s) x c f ≡ 0
  tall_gone t x c f e = rw (e, both_no (leb x t)) refl

  pub tall_above : (t x c f : ℕ) → t < x → tall_field t l' (num s) x c f ≡ 0
  tall_above t x c f h = rw (lt-leb x t h) refl

  pub tall_there : (t x c f : ℕ) → x ≤ t → any (within (tier_order x) c) l' ≡ true →
      tall_field t l' (num s) x c f ≡ field_under l' (num s) t x c f
  tall_there t x c f h e = rw (le-leb x t h, e) refl

  owner_less : (x c f : ℕ) → (x ≡ suc u → ⊥) → (x ≡ u → f ≡ owner_field → ⊥) →
      field_under l' (num s) (suc u) x c f ≡ field_under l' (num s) u x c f
  owner_less x c f a b = by_t (eqb x u)
      (λ z. other_owner _ _ _ (mark_word l' (num s) x c) (slot_word l' (num s) x c) f (b (eqb-true _ _ z)))
      (λ z. ap (λ (w : ℕ). field_of (shift_word x) w (mark_word l' (num s) x c) (slot_word l' (num s) x c) f)
      (rw (z, ne_eqb x (suc u) a) refl))

  pub tall_less : (x c f : ℕ) → (x ≡ suc u → c ≡ 0 → ⊥) → (x ≡ u → c ≡ 0 → f ≡ owner_field → ⊥) →
      tall_field (suc u) l' (num s) x c f ≡ tall_field u l' (num s) x c f
  tall_less x c f a b =
      by_t (any (within (tier_order x) c) l') there
      (λ e. tall_gone (suc u) x c f e ∙ sym (tall_gone u x c f e))
    where
      there : any (within (tier_order x) c) l' ≡ true → tall_field (suc u) l' (num s) x c f ≡ tall_field u l' (num s) x c f
      there e = by_t (leb x u)
          (λ z. let h : x ≤ u = leb-true _ _ z in
          tall_there (suc u) x c f (omega arith) e
          ∙ (owner_less x c f (omega arith) (λ y. b y (first_only s E x c (omega arith) e)) ∙ sym (tall_there u x c f h e)))
          (λ z. let h : u < x = leb-false _ _ z in
          let ne : x ≡ suc u → ⊥ = λ y. a y (first_only s E x c (omega arith) e) in
          tall_above (suc u) x c f (omega arith) ∙ sym (tall_above u x c f h))

  -- the new head's owner is 0, also where there is no such node
  pub tall_owner : (c : ℕ) → tall_field u l' (num s) u c owner_field ≡ 0
  tall_owner c = by_t (any (within (tier_order u) c) l')
      (λ e. tall_there u u c owner_field (le_refl u) e ∙ (at_owner _ _ _ _ ∙ rw (eq-eqb u u refl) refl))
      (λ e. tall_gone u u c owner_field e)

  -- A NODE OF BLOCK 0 OFF THE PATH has the words that it had, apart from the owner
  off_apart : (x : ℕ) → Off i (k / slot_bits) x → has s.list x 0 ≡ true → Apart i k (tier_order x) 0
  off_apart x o t = go (lies i k x 0)
    where
      go : Lies i k x 0 → Apart i k (tier_order x) 0
      go (off a) = a
      go (on_path_lem g z) = absurd (o (omega arith) (sym z))
      go (in_run_lem g a) = absurd (none_inside s E x 0 g a t)

  same_words : (x f : ℕ) → Apart i k (tier_order x) 0 → 1 ≤ x → IsField f →
      field_under l' (num s) (height s.list) x 0 f ≡ field s.list (num s) x 0 f
  same_words zero f a h q = absurd (omega arith)
  same_words (suc v) f a h q =
      let v≡ : suc v - 1 ≡ v = omega arith in
      fields_same _ _ _ _ (mark_word s.list (num s) (suc v) 0) (mark_word l' (num s) (suc v) 0)
      (slot_word s.list (num s) (suc v) 0) (slot_word l' (num s) (suc v) 0) refl refl
      (λ m g. rw v≡ (bits_same (λ j. slot_mark l' m v (slots * 0 + j)) (λ j. slot_mark s.list m v (slots * 0 + j)) slots
      (λ j e. mark_apart E.becomes m v (slots * 0 + j) (apart_slot i k v 0 (slots * 0 + j) a (omega arith)))))
      (λ j e. rw v≡ (slot_apart E.becomes (num s) (num s) v (slots * 0 + j)
      (apart_slot i k v 0 (slots * 0 + j) a (omega arith)) (λ _. refl))) f q

  pub off_words : (f : ℕ) → Off i (k / slot_bits) u → has s.list u 0 ≡ true → IsField f → (f ≡ owner_field → ⊥) →
      get_or ws (place (num s u 0) f) 0 ≡ tall_field u l' (num s) u 0 f
  off_words f o t q n =
      let a : Apart i k (tier_order u) 0 = off_apart u o t in
      field_of_lem s u 0 f t q
      ∙ (sym (same_words u f a (has_tier s.list u 0 t).0 q)
      ∙ (other_owner _ _ _ (mark_word l' (num s) u 0) (slot_word l' (num s) u 0) f n
      ∙ sym (tall_there u u 0 f (le_refl u) (within_apart E.becomes u 0 a ∙ has_within s.list u 0 t))))

-- THE WORDS OF THE HEAD'S ROW
module _ {ws : List ℕ} (s : WellFormed ws) {i k top t : ℕ} {l' : List Entry} (E : Erases s i k top l') {rs ns : List ℕ}
    (L : Lowered s i (k / slot_bits) top t l' rs ns) (le : t ≤ top) (there : any (within (tier_order t) 0) l' ≡ true) where
  pub head_has : has s.list t 0 ≡ true
  head_has = has_in s.list t 0 (omega (arith, E.there.top_is)) (within_left s E t 0 there)

  pub head_number : {r : ℕ} → HeadRow i (k / slot_bits) t r → get_or ns r 0 ≡ num s t 0
  head_number {r} h = row_or h
      (λ a z e. ap (λ (x : ℕ). get_or ns x 0) e ∙ (L.path_number t a le ∙ ap (num s t) z))
      (λ o e. ap (λ (x : ℕ). get_or ns x 0) e ∙ L.chain_number t (le_refl t) le o head_has)

  pub head_words : {r : ℕ} → HeadRow i (k / slot_bits) t r → (f : ℕ) → IsField f →
      get_or rs (place r f) 0 ≡ field_under l' (num s) t t 0 f
  head_words {r} h f q = row_or h
      (λ a z e. ap (λ (x : ℕ). get_or rs (place x f) 0) e ∙ (L.path t a le f q
      ∙ (ap (λ (c : ℕ). tall_field t l' (num s) t c f) z ∙ tall_there s E L.fit t t 0 f (le_refl t) there)))
      (λ o e. ap (λ (x : ℕ). get_or rs (place x f) 0) e ∙ (L.chain t (le_refl t) le o head_has f q
      ∙ tall_there s E L.fit t t 0 f (le_refl t) there))
