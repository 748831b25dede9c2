-- The rows of the path: a node's words right apart from the range, and then the range put in.
use Prim.Native.Nat.{ℕ, suc, ◌+◌, ◌*◌, ◌-◌, ◌/◌, ◌%◌, ◌^◌, ◌≤◌, ◌<◌}
use mathlib.Core.Path.{◌≡◌, refl, sym, ap, subst, ◌∙◌}
use mathlib.Core.Bool.{true, false, not}
use mathlib.Core.List.{List}
use mathlib.Core.Option.{Option, none, some}
use native.Mathlib.Omega.{arith}
use native.Mathlib.Numerals.{add-one}
use native.Mathlib.Nat.{zero-div}
use lib.Dec.{leb, ltb, eqb}
use lib.ListN.{get_or}
use borrow.Author.Tests.{leb-true, leb-false, ltb-true, ltb-false, eqb-true, eqb-false, eq-eqb, ne_eqb, lt-ltb, le-leb}
use Rattle.blocks.specs.Choice.{pick, both}
use Rattle.blocks.specs.Lists.{any, All}
use Rattle.blocks.specs.Blocks.{block, bit}
use Rattle.blocks.proofs.BoolLaws.{by_t, both_l, both_r}
use Rattle.blocks.proofs.BitLaws.{bits_same, bits_none}
use Rattle.blocks.proofs.BlockLaws.{block_at, block_block}
use Rattle.blocks.proofs.ListLaws.{look}
use Rattle.model.specs.declared.Entry.{Entry}
use Rattle.model.specs.Model.{Valid, covers, starts, within, has_mark, mark_count}
use Rattle.model.proofs.RangeLaws.{Apart, Inside, apart_up}
use Rattle.model.proofs.ValidLaws.{sorted_ok}
use Rattle.model.proofs.WordLaws.{word_kind}
use Rattle.tree.specs.Tree.{slots, slot_bits, tier_order, slot_mark, has, Node}
use Rattle.tree.specs.Slots.{Numbering, slot, entry_word, node_word}
use Rattle.tree.proofs.SlotLaws.{tier_up, empty_node, empty_marks}
use Rattle.layout.specs.Words.{place, mark_place, slot_place, slot_field, mark_field, IsField, filled_of, field, field_under, owner_under, field_at}
use Rattle.layout.specs.WellFormed.{WellFormed, num}
use Rattle.layout.proofs.FieldLaws.{level_slot_lem, level_mark_lem, filled_same}
use Rattle.layout.proofs.FreshLaws.{none_over}
use Rattle.layout.proofs.NodeLaws.{all_words}
use Rattle.layout.proofs.RenderWordLaws.{field_of_lem, pool_node}
use Rattle.plan.proofs.AfterStoreLaws.{Lies, lies, on_path_lem, in_run_lem, off}
use Rattle.write.specs.Writes.{width, offset}
use Rattle.write.proofs.RunLaws.{run_fits, width_some, first_slot, base_slot, slot_in_run, run_slot}
use Rattle.script_rows.specs.Row.{in_run, run_word, Copies, RunPut, Finishes}
use Rattle.script_rows.specs.Becomes.{any_in, Seated, Becomes, word_in, marks_in, Base, Final}
use Rattle.script_rows.proofs.BecomesLaws.{
  slot_apart,
  mark_apart,
  slot_inside,
  mark_inside,
  seated_in,
  slot_path,
  path_filled,
  mark_path,
}

module _ {i k : ℕ} {o : Option Entry} {l l' : List Entry} (b : Becomes i k o l l') (v' : Valid l') (μ : Numbering) where
  -- the block of the path's node at tier u + 1
  abbrev pub Path : ℕ → ℕ
  Path u = block (tier_order (suc u)) i

  in_yes : (a c j : ℕ) → a ≤ j → j < a + c → in_run a c j ≡ true
  in_yes a c j h g = rw (le-leb a j h, lt-ltb j (a + c) g) refl

  in_no : (a c j : ℕ) → (a ≤ j → j < a + c → ⊥) → in_run a c j ≡ false
  in_no a c j n = by_t (in_run a c j)
      (λ t. absurd (n (leb-true _ _ (both_l (leb a j) _ t)) (ltb-true _ _ (both_r (leb a j) _ t)))) (λ t. t)

  -- slot by slot: in the run or apart
  run_or_not : (a c j : ℕ) {C : Type 0} → (a ≤ j → j < a + c → C) → ((a ≤ j → j < a + c → ⊥) → C) → C
  run_or_not a c j {C} here there =
      by_t (leb a j)
      (λ t. let g : a ≤ j = leb-true _ _ t in
      by_t (ltb j (a + c)) (λ s. here g (ltb-true _ _ s))
      (λ s. let h : a + c ≤ j = ltb-false _ _ s in there (λ _ q. omega arith)))
      (λ t. let h : j < a = leb-false _ _ t in there (λ q _. omega arith))

  -- THE LOWEST NODE of the path holds the range itself
  abbrev v : ℕ
  v = k / slot_bits

  low : tier_order v ≤ k
  low = omega arith

  path_is : block (tier_order (v + 1)) i ≡ Path v
  path_is = ap (λ (u : ℕ). block (tier_order u) i) (add-one v)

  low_inside : (t : ℕ) → t < width k → Inside i k (tier_order v) (slots * Path v + (offset i k + t))
  low_inside t h = subst (λ (c : ℕ). Inside i k (tier_order v) (slots * c + (offset i k + t))) path_is (slot_in_run i k t h)

  low_apart : (j : ℕ) → j < slots → (offset i k ≤ j → j < offset i k + width k → ⊥) →
      Apart i k (tier_order v) (slots * Path v + j)
  low_apart j h n = go (lies i k v (slots * Path v + j))
    where
      go : Lies i k v (slots * Path v + j) → Apart i k (tier_order v) (slots * Path v + j)
      go (on_path_lem g e) = absurd (omega (arith, low))
      go (off a) = a
      go (in_run_lem g a) =
          let e : k - tier_order v ≡ k % slot_bits = omega arith in
          let up : (slots * Path v + j) / slots ≡ block (tier_order (v + 1)) i = omega (arith, path_is) in
          let (t, lt, z) = run_slot i k (slots * Path v + j) up (inner a) in
          absurd (n (omega (arith, path_is)) (omega (arith, path_is)))
        where
          inner : Inside i k (tier_order v) (slots * Path v + j) →
              (slots * Path v + j) / 2 ^ (k - tier_order v) ≡ block k i
          inner a =
              let y : ℕ = (slots * Path v + j) * 2 ^ tier_order v in
              ap (λ (c : ℕ). c / 2 ^ (k - tier_order v)) (sym (block_at (tier_order v) (slots * Path v + j)))
              ∙ (sym (block_block {j = tier_order v} {k = k} y low)
              ∙ a y (block_at (tier_order v) (slots * Path v + j)))

  -- the first slot of what stands in the range
  first_of : (e : Entry) → o ≡ some e → block (tier_order v) e.base ≡ slots * Path v + offset i k
  first_of e q =
      let at : Seated i k e = b.seated e q in
      let z : e.base ≡ block k i * 2 ^ k = sym at.whole ∙ ap (λ (c : ℕ). c * 2 ^ k) at.in_run_lem in
      ap (block (tier_order v)) z ∙ (base_slot i k ∙ (sym (first_slot i k) ∙
      ap (λ (c : ℕ). slots * c + offset i k) path_is))

  low_word : (x : Option Entry) → o ≡ x → (j : ℕ) → offset i k ≤ j → j < offset i k + width k →
      entry_word v (slots * Path v + j) x ≡ run_word (offset i k) (word_in x) j
  low_word none q j h g = refl
  low_word (some e) q j h g =
      let f : block (tier_order v) e.base ≡ slots * Path v + offset i k = first_of e q in
      let fit : offset i k + width k ≤ slots = run_fits i k in
      let one : 1 ≤ width k = width_some i k in
      let nz : eqb e.word 0 ≡ false = ne_eqb e.word 0
      (word_kind e (look (sorted_ok v') (seated_in b e q)).word_ok).0 in
      by_t (eqb j (offset i k))
      (λ t. let z : j ≡ offset i k = eqb-true _ _ t in
      rw (nz, t, eq-eqb (block (tier_order v) e.base) (slots * Path v + j) (omega arith)) refl)
      (λ t. let ne : j ≡ offset i k → ⊥ = eqb-false _ _ t in
      let r : block (tier_order v) e.base % slots ≡ offset i k = omega arith in
      rw (nz, t, ne_eqb (block (tier_order v) e.base) (slots * Path v + j) (omega arith), r) refl)

  low_mark : (x : Option Entry) → o ≡ x → (m j : ℕ) → offset i k ≤ j → j < offset i k + width k →
      both (eqb j (offset i k)) (eqb (bit m (marks_in x)) 1)
      ≡ any_in (λ e. both (starts (tier_order v) (slots * Path v + j) e) (has_mark m e)) x
  low_mark none q m j h g =
      let z : eqb (bit m 0) 1 ≡ false = ne_eqb (bit m 0) 1 (zero_bit m) in
      by_t (eqb j (offset i k)) (λ t. rw (t, z) refl) (λ t. rw t refl)
    where
      zero_bit : (m : ℕ) → bit m 0 ≡ 1 → ⊥
      zero_bit m e = let d : 0 / 2 ^ m ≡ 0 = zero-div (2 ^ m) in omega arith
  low_mark (some e) q m j h g =
      let f : block (tier_order v) e.base ≡ slots * Path v + offset i k = first_of e q in
      by_t (eqb j (offset i k))
      (λ t. let z : j ≡ offset i k = eqb-true _ _ t in
      rw (t, eq-eqb (block (tier_order v) e.base) (slots * Path v + j) (omega arith)) refl)
      (λ t. let ne : j ≡ offset i k → ⊥ = eqb-false _ _ t in
      rw (t, ne_eqb (block (tier_order v) e.base) (slots * Path v + j) (omega arith)) refl)

  pub low_row_lem : {rs rs' : List ℕ} {r : ℕ} → Base i k l' μ rs r v →
      RunPut rs rs' r (offset i k) (width k) (word_in o) (marks_in o) → Final i k l' μ rs' r v
  low_row_lem {rs} {rs'} {r} bs p = record {
    slots_are = λ j h. run_or_not (offset i k) (width k) j
        (λ g g'. let t : offset i k + (j - offset i k) ≡ j = omega arith in
        p.slots_in j g g' ∙ (sym (low_word o refl j g g') ∙ sym
        (subst (λ (y : ℕ). slot l' μ v (slots * Path v + y) ≡ entry_word v (slots * Path v + y) o) t
        (slot_inside b μ v (slots * Path v + (offset i k + (j - offset i k))) low
        (low_inside (j - offset i k) (omega arith))))))
        (λ n. p.slots_out j h n ∙ bs.slots_are j h (low_apart j h n));
    marks_are = λ x h. p.marks_are x h (bs.marks_of_lem x) (bs.marks_are x h) ∙
        bits_same (λ j. pick (in_run (offset i k) (width k) j) (both (eqb j (offset i k)) (eqb (bit x (marks_in o)) 1))
        (bs.marks_of_lem x j)) (λ j. slot_mark l' x v (slots * Path v + j)) slots
        (λ j g. run_or_not (offset i k) (width k) j
        (λ a a'. let t : offset i k + (j - offset i k) ≡ j = omega arith in
        rw (in_yes (offset i k) (width k) j a a') (low_mark o refl x j a a' ∙ sym
        (subst (λ (y : ℕ). slot_mark l' x v (slots * Path v + y)
        ≡ any_in (λ e. both (starts (tier_order v) (slots * Path v + y) e) (has_mark x e)) o) t
        (mark_inside b x v (slots * Path v + (offset i k + (j - offset i k)))
        (low_inside (j - offset i k) (omega arith))))))
        (λ n. rw (in_no (offset i k) (width k) j n) (bs.apart_are x h j g (low_apart j g n))));
  }

  -- A NODE ABOVE IT: one slot leads to the node below, if that is there
  module _ (u : ℕ) (above : k < tier_order u) where
    abbrev c₀ : ℕ
    c₀ = block (tier_order u) i

    abbrev o₀ : ℕ
    o₀ = c₀ % slots

    up : Path u ≡ c₀ / slots
    up = tier_up u i

    at_is : slots * Path u + o₀ ≡ c₀
    at_is = omega (arith, up)

    up_apart : (j : ℕ) → j < slots → (o₀ ≤ j → j < o₀ + 1 → ⊥) → Apart i k (tier_order u) (slots * Path u + j)
    up_apart j h n = apart_up i k (tier_order u) (slots * Path u + j) (omega arith)
        (λ e. n (omega (arith, at_is)) (omega (arith, at_is)))

    -- the word that leads down, and the marks that go up
    pub up_row_lem : {rs rs' : List ℕ} {r : ℕ} (w m : ℕ) → Base i k l' μ rs r u → RunPut rs rs' r o₀ 1 w m →
        w ≡ pick (any (within (tier_order u) c₀) l') (node_word (μ u c₀)) 0 →
        ((x : ℕ) → x < mark_count → eqb (bit x m) 1 ≡ slot_mark l' x u c₀) → Final i k l' μ rs' r u
    up_row_lem {rs} {rs'} {r} w m bs p we me = record {
      slots_are = λ j h. run_or_not o₀ 1 j
          (λ g g'. let t : j ≡ o₀ = omega arith in
          let d : slots * Path u + j ≡ c₀ = omega (arith, at_is) in
          p.slots_in j g g' ∙ (word j t ∙ (we ∙ (sym (slot_path b μ u above) ∙ ap (slot l' μ u) (sym d)))))
          (λ n. p.slots_out j h n ∙ bs.slots_are j h (up_apart j h n));
      marks_are = λ x h. p.marks_are x h (bs.marks_of_lem x) (bs.marks_are x h) ∙
          bits_same (λ j. pick (in_run o₀ 1 j) (both (eqb j o₀) (eqb (bit x m) 1)) (bs.marks_of_lem x j))
          (λ j. slot_mark l' x u (slots * Path u + j)) slots
          (λ j g. run_or_not o₀ 1 j
          (λ a a'. let t : j ≡ o₀ = omega arith in
          let d : slots * Path u + j ≡ c₀ = omega (arith, at_is) in
          rw (in_yes o₀ 1 j a a', eq-eqb j o₀ t) (me x h ∙ ap (slot_mark l' x u) (sym d)))
          (λ n. rw (in_no o₀ 1 j n) (bs.apart_are x h j g (up_apart j g n))));
    }
      where
        word : (j : ℕ) → j ≡ o₀ → run_word o₀ w j ≡ w
        word j t = by_t (eqb w 0) (λ z. rw z (sym (eqb-true w 0 z))) (λ z. rw (z, eq-eqb j o₀ t) refl)

  -- WHAT A FINAL ROW TELLS THE ONE ABOVE
  module _ {rs : List ℕ} {r u : ℕ} (h : k < tier_order (suc u)) (f : Final i k l' μ rs r u) where
    pub row_there : {n : ℕ} → n ≡ filled_of (λ j. get_or rs (slot_place r j) 0) →
        not (eqb n 0) ≡ any (within (tier_order (suc u)) (Path u)) l'
    row_there {n} e =
        ap (λ (x : ℕ). not (eqb x 0)) (e ∙ filled_same
        (λ j. slot l' μ u (slots * Path u + j)) (λ j. get_or rs (slot_place r j) 0) f.slots_are)
        ∙ path_filled b v' u h μ

    pub row_mark : (x : ℕ) → x < mark_count → not (eqb (get_or rs (mark_place r x) 0) 0) ≡ slot_mark l' x (suc u) (Path u)
    row_mark x g = ap (λ (y : ℕ). not (eqb y 0)) (f.marks_are x g) ∙ sym (mark_path b v' u h x)

  -- ALL ITS WORDS
  pub row_words : {rs rs' : List ℕ} {r u s w : ℕ} (h : ℕ) → Final i k l' μ rs r u → Finishes rs rs' r s w → s ≡ tier_order u + 1 →
      w ≡ owner_under h μ (suc u) (Path u) → (f : ℕ) → IsField f →
      get_or rs' (place r f) 0 ≡ field_under l' μ h (suc u) (Path u) f
  row_words {rs} {rs'} {r} {u} h fin z se we =
      all_words rs' r l' μ h u (Path u) (z.shift_is ∙ se) (z.owner_is ∙ we) z.filled_is
      (λ x g. z.marks_stay x g ∙ fin.marks_are x g) (λ j g. z.slots_stay j g ∙ fin.slots_are j g)

-- WHERE A ROW BEGINS
module _ {ws : List ℕ} (s : WellFormed ws) {i k : ℕ} {o : Option Entry} {l' : List Entry}
    (b : Becomes i k o s.list l') (v' : Valid l') (μ : Numbering) where
  abbrev l : List Entry
  l = s.list

  -- a node that was there
  pub base_old : {rs rs' : List ℕ} {r n u : ℕ} → has l (suc u) (block (tier_order (suc u)) i) ≡ true →
      n ≡ num s (suc u) (block (tier_order (suc u)) i) →
      ((c : ℕ) → c / slots ≡ block (tier_order (suc u)) i → Apart i k (tier_order u) c →
      any (within (tier_order u) c) l ≡ true → μ u c ≡ num s u c) → Copies ws n rs rs' r → Base i k l' μ rs' r u
  base_old {rs} {rs'} {r} {n} {u} t e same c = record {
    slots_are = λ j h a. c.fields (slot_field + j) (omega arith) ∙ (held (slot_field + j) (omega arith)
        ∙ (level_slot_lem l (num s) u B j ∙ sym (slot_apart b (num s) μ u (slots * B + j) a
        (same (slots * B + j) (omega arith) a))));
    marks_of_lem = λ x j. slot_mark l x u (slots * B + j);
    marks_are = λ x h. c.fields (mark_field + x) (omega arith) ∙ (held (mark_field + x) (omega arith)
        ∙ level_mark_lem l (num s) u B x h);
    apart_are = λ x h j g a. sym (mark_apart b x u (slots * B + j) a);
  }
    where
      B : ℕ
      B = block (tier_order (suc u)) i

      held : (f : ℕ) → IsField f → get_or ws (place n f) 0 ≡ field l (num s) (suc u) (block (tier_order (suc u)) i) f
      held f h = rw e (field_of_lem s (suc u) (block (tier_order (suc u)) i) f t h)

  -- one that is new, at or below the old head
  pub base_new : {rs rs' : List ℕ} {r n u : ℕ} → k < tier_order (suc u) →
      any (within (tier_order (suc u)) (block (tier_order (suc u)) i)) l ≡ false → n < s.n →
      get_or s.places n none ≡ none → Copies ws n rs rs' r → Base i k l' μ rs' r u
  base_new {rs} {rs'} {r} {n} {u} h new lt free c = record {
    slots_are = λ j g a. blank (slot_field + j) (omega arith) ∙ sym (slot_apart b μ μ u (slots * B + j) a (λ _. refl)
        ∙ empty_node l μ u B new over (slots * B + j) (omega arith));
    marks_of_lem = λ x j. false;
    marks_are = λ x g. blank (mark_field + x) (omega arith) ∙ sym (bits_none (λ j. false) slots (λ j _. refl));
    apart_are = λ x g j f a. sym (mark_apart b x u (slots * B + j) a
        ∙ empty_marks l u B new over x (slots * B + j) (omega arith));
  }
    where
      B : ℕ
      B = block (tier_order (suc u)) i

      over : All (λ x. tier_order (suc u) ≤ x.order →
          covers (block (tier_order (suc u)) i * 2 ^ tier_order (suc u)) x ≡ true → ⊥) s.list
      over = none_over i k 0 s.list b.rooms u h new

      blank : (f : ℕ) → IsField f → get_or rs' (place r f) 0 ≡ 0
      blank f g = c.fields f g ∙ (pool_node s n f lt g ∙ ap
          (λ (p : Option Node). field_at l (num s) p f) free)
