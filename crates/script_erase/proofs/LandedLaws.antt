-- An erase from its rows to its table: where the rows begin, and where they end.
use Prim.Native.Nat.{ℕ, zero, suc, ◌+◌, ◌-◌, ◌/◌, ◌≤◌, ◌<◌}
use mathlib.Core.Path.{◌≡◌, refl, sym, ap, subst, ◌∙◌}
use mathlib.Core.Bool.{true, false, not}
use mathlib.Core.Logic.{◌⊎◌, inl, inr}
use mathlib.Core.List.{List, [], ◌∷◌}
use mathlib.Core.Option.{none, some}
use native.Mathlib.Omega.{arith}
use native.Mathlib.Nat.{le_refl}
use lib.Dec.{eqb}
use lib.ListN.{length, get_or, set}
use lib.Seq.{get_or-set_same, get_or-set_other}
use borrow.Author.Tests.{eqb-true, eq-eqb, lt-ltb}
use Rattle.blocks.specs.Lists.{any, In, here}
use Rattle.blocks.specs.Blocks.{block}
use Rattle.blocks.proofs.BoolLaws.{by_t, clash, not-true, not-false}
use Rattle.blocks.proofs.ListLaws.{first_yes, each, look, in_any}
use Rattle.blocks.proofs.PlacingLaws.{none_some}
use Rattle.model.specs.declared.Entry.{Entry}
use Rattle.model.specs.Model.{covers, covering, within, marks_of, erase}
use Rattle.model.proofs.ValidLaws.{sole, covers_self, erase_valid}
use Rattle.tree.specs.Tree.{slot_bits, top_tier, tier_order, height, has}
use Rattle.tree.specs.Slots.{slot}
use Rattle.tree.proofs.HeightLaws.{height_fits, fits_order, fits_base}
use Rattle.tree.proofs.NodeListLaws.{has_in, has_tier, has_within}
use Rattle.tree.proofs.SlotLaws.{slot_num}
use Rattle.layout.specs.Words.{anchor_words, place, filled_place, filled_field, IsField}
use Rattle.layout.specs.Places.{number_in, new_places, render}
use Rattle.layout.specs.WellFormed.{WellFormed, num}
use Rattle.layout.proofs.NodeLaws.{get_filled}
use Rattle.layout.proofs.RenderWordLaws.{render_anchor, pool_anchor}
use Rattle.lookup.proofs.HeadLaws.{flat_entry}
use Rattle.erase.proofs.LowerLaws.{slot_nil}
use Rattle.plan.proofs.AfterStoreLaws.{Lies, lies, on_path_lem, in_run_lem, off}
use Rattle.script_rows.specs.Row.{AnchorPut}
use Rattle.script_rows.specs.Becomes.{Becomes, Shown, Edits}
use Rattle.script_rows.proofs.CommandLaws.{becomes_erase}
use Rattle.script_rows.proofs.AnchorLaws.{anchor_marks}
use Rattle.script_rows.proofs.BecomesLaws.{path_filled, within_apart}
use Rattle.script_rows.proofs.HeadLaws.{lows}
use Rattle.script_same.specs.Same.{Numbered, PathThere}
use Rattle.script_table.specs.Table.{row_count, Tables}
use Rattle.script_erase.specs.Erased.{Standing, Erases, Off, tall_field, InChain, Lowered, Swept, Headed, Landed, Anchored, SweptPath}
use Rattle.script_erase.proofs.ErasesLaws.{left, height_left, number_left, top_zero, none_inside}
use Rattle.script_erase.proofs.LoweredLaws.{tall_gone, tall_there}
use Rattle.script_erase.proofs.HeadedLaws.{headed_top, some_filled, filled_is}
use Rattle.script_erase.proofs.TableLaws.{tables_lowered}

bare : (l : List Entry) → ((x : Entry) → In x l → ⊥) → l ≡ []
bare [] n = refl
bare (x ∷ l) n = absurd (n x here)

module _ {ws : List ℕ} (s : WellFormed ws) {i k top : ℕ} {l' : List Entry} (E : Erases s i k top l') where
  abbrev v : ℕ
  v = k / slot_bits

  fit_top : height l' ≤ top
  fit_top = omega (arith, height_left s E, E.there.top_is)

  -- WHERE THEY BEGIN: the rows of the path, swept
  module _ (low : k / slot_bits < top) {rs rs' : List ℕ} (sh : (u : ℕ) → v < u → u ≤ top → Shown i k l' (num s) rs top u)
      (sw : Swept rs rs' v (top + 1)) where
    path_swept : (u : ℕ) → v < u → u ≤ top → (f : ℕ) → IsField f →
        get_or rs' (place u f) 0 ≡ tall_field top l' (num s) u (block (tier_order u) i) f
    path_swept zero a z f q = absurd (omega arith)
    path_swept (suc u) a z f q =
        let x : not (eqb (get_or rs (filled_place (suc u)) 0) 0) ≡ any (within (tier_order (suc u)) (block (tier_order (suc u)) i)) l' =
        ap (λ (n : ℕ). not (eqb n 0)) (get_filled rs (suc u) l' (num s) top u (block (tier_order (suc u)) i) (sh (suc u) a z).words)
        ∙ path_filled E.becomes E.valid u (omega arith) (num s) in
        sw.rows (suc u) a (omega arith) f q
        ∙ by_t (any (within (tier_order (suc u)) (block (tier_order (suc u)) i)) l')
        (λ t. rw (not-true (eqb (get_or rs (filled_place (suc u)) 0) 0) (x ∙ t)) ((sh (suc u) a z).words f q
        ∙ sym (tall_there s E fit_top top (suc u) (block (tier_order (suc u)) i) f z t)))
        (λ t. rw (not-false (eqb (get_or rs (filled_place (suc u)) 0) 0) (x ∙ t)) (sym (tall_gone s E fit_top top (suc u) (block (tier_order (suc u)) i) f t)))

    pub lowered_top : {ns ps : List ℕ} → Numbered ns ps v top (get_or ws 0 0) row_count →
        ((u : ℕ) → v < u → u ≤ top → get_or ps u 0 ≡ num s u (block (tier_order u) i)) → top ≤ top_tier →
        Lowered s i v top top l' rs' ns
    lowered_top {ns} nb ps-are h = record {
      fit = fit_top;
      path = path_swept;
      path_number = λ u a z. nb.on u (omega arith) a z ∙ ps-are u a z;
      chain = λ u a z o. absurd (on_top u a z o);
      chain_number = λ u a z o. absurd (on_top u a z o);
      only = λ r g z. inl (nb.off r g (subst (λ (n : ℕ). get_or ns r 0 < n) (sym (pool_anchor s 0 (omega arith))) z));
    }
      where
        on_top : (u : ℕ) → top ≤ u → u ≤ top → Off i v u → ⊥
        on_top u a z o = let e : top ≡ u = omega arith in subst (Off i v) (sym e) o low (top_zero s E low)

  -- WHERE NOTHING IS LEFT
  module _ {rs ns : List ℕ} (L : Lowered s i v top top l' rs ns) (low : k / slot_bits < top) where
    -- the row of the old head tells it
    pub top_there : (get_or rs (filled_place top) 0 ≡ 0 → ⊥) → any (within (tier_order top) 0) l' ≡ true
    top_there n = by_t (any (within (tier_order top) 0) l') (λ t. t)
        (λ t. absurd (n (L.path top low (le_refl top) filled_field (omega arith)
        ∙ tall_gone s E fit_top top top (block (tier_order top) i) filled_field
        (subst (λ (c : ℕ). any (within (tier_order top) c) l' ≡ false) (sym (top_zero s E low)) t))))

    top_gone : get_or rs (filled_place top) 0 ≡ 0 → any (within (tier_order top) 0) l' ≡ true → ⊥
    top_gone z t =
        let up : suc (top - 1) ≡ top = omega arith in
        let H : Headed s i v top (suc (top - 1)) l' rs ns (get_or ws 1 0) top =
        subst (λ (u : ℕ). Headed s i v top u l' rs ns (get_or ws 1 0) top) (sym up) (headed_top s E L t low refl) in
        some_filled s E H (omega arith) (sym (filled_is s E H (omega arith)) ∙ z)

    nothing_left : get_or rs (filled_place top) 0 ≡ 0 → l' ≡ []
    nothing_left z = bare l' (λ x m.
        let fit = look (height_fits (lows E.valid) fit_top) m in
        top_gone z (in_any (within (tier_order top) 0) m
        (rw (lt-ltb x.order (tier_order top) (omega (arith, fits_order top x fit)), eq-eqb _ _ (fits_base top x fit)) refl)))

    -- a node of block 0 off the path would be left
    none_off : (u : ℕ) → Off i v u → has s.list u 0 ≡ true → l' ≡ [] → ⊥
    none_off u o t e = go (lies i k u 0)
      where
        go : Lies i k u 0 → ⊥
        go (on_path_lem g z) = o (omega arith) (sym z)
        go (in_run_lem g a) = none_inside s E u 0 g a t
        go (off a) = clash (within_apart E.becomes u 0 a ∙ has_within s.list u 0 t)
            (ap (any (within (tier_order u) 0)) e)

    pub landed_empty : get_or rs (filled_place top) 0 ≡ 0 → {w : ℕ} → w ≡ 0 → Landed s i v top l' rs ns w
    landed_empty z e =
        let n : l' ≡ [] = nothing_left z in
        let flat : 0 ≡ height l' = sym (ap height n) in record {
          lowered = subst (λ (t : ℕ). Lowered s i v top t l' rs ns) flat (low_empty n);
          word_is = e ∙ sym (ap (λ (l : List Entry). slot l (num s) (height l) 0) n ∙ slot_nil (num s) 0 0);
        }
      where
        none_there : l' ≡ [] → (u c : ℕ) → any (within (tier_order u) c) l' ≡ false
        none_there n u c = ap (any (within (tier_order u) c)) n

        low_empty : l' ≡ [] → Lowered s i v top 0 l' rs ns
        low_empty n = record {
          fit = omega (arith, ap height n);
          path = λ u a z f q. L.path u a z f q
              ∙ (tall_gone s E fit_top top u (block (tier_order u) i) f (none_there n u (block (tier_order u) i))
              ∙ sym (tall_gone s E fit_top 0 u (block (tier_order u) i) f (none_there n u (block (tier_order u) i))));
          path_number = L.path_number;
          chain = λ u a z o t. absurd (none_off u o t n);
          chain_number = λ u a z o t. absurd (none_off u o t n);
          only = λ r g z. lower (L.only r g z);
        }
          where
            lower : {r : ℕ} → ((v < r) × (r ≤ top)) ⊎ InChain s i v top top r → ((v < r) × (r ≤ top)) ⊎ InChain s i v top 0 r
            lower (inl p) = inl p
            lower (inr c) = absurd (none_off c.tier c.off c.there n)

  -- THE ENTRY IS THE HEAD
  pub landed_flat : top ≡ 0 → {rs ns : List ℕ} → ((r : ℕ) → r < row_count → get_or ns r 0 ≡ s.n) →
      (l' ≡ []) × Landed s i v top l' rs ns 0
  landed_flat flat {rs} {ns} all = (
    n,
    record {
      lowered = record {
        fit = le_refl (height l');
        path = λ u a z. absurd (omega arith);
        path_number = λ u a z. absurd (omega arith);
        chain = λ u a z o t. absurd (omega (arith, (has_tier s.list u 0 t).0));
        chain_number = λ u a z o t. absurd (omega (arith, (has_tier s.list u 0 t).0));
        only = λ r g z. absurd (omega (arith, all r g));
      };
      word_is = sym (ap (λ (l : List Entry). slot l (num s) (height l) 0) n ∙ slot_nil (num s) 0 0);
    },
  )
    where
      low : height s.list ≡ 0
      low = sym E.there.top_is ∙ flat

      st : (covers i E.standing.entry ≡ true) × In E.standing.entry s.list
      st = first_yes (covers i) (each s.list (λ x m. m)) E.standing.covering_is

      order_0 : k ≡ 0
      order_0 = sym E.standing.order_is ∙ (flat_entry s low st.1).0

      n : l' ≡ []
      n = bare l' (λ x m.
          let q : covering l' x.base ≡ some x = look (sole x.base E.valid) m (covers_self x) in
          let e : block k x.base ≡ block k i =
          ap (block k) ((flat_entry s low (left s E m)).1 ∙ sym (flat_entry s low st.1).1)
          ∙ sym (subst (λ (j : ℕ). block j i ≡ block j E.standing.entry.base) E.standing.order_is (eqb-true _ _ st.0)) in
          none_some (sym (E.becomes.covers_is x.base e) ∙ q))

  -- WHERE THEY END
  pub lowered_moved : {t : ℕ} {rs rs' ns : List ℕ} → ((p : ℕ) → anchor_words ≤ p → get_or rs' p 0 ≡ get_or rs p 0) →
      Lowered s i v top t l' rs ns → Lowered s i v top t l' rs' ns
  lowered_moved same L = record {
    fit = L.fit;
    path = λ u a z f q. same _ (omega arith) ∙ L.path u a z f q;
    path_number = L.path_number;
    chain = λ u a z o t f q. same _ (omega arith) ∙ L.chain u a z o t f q;
    chain_number = L.chain_number;
    only = L.only;
  }

  pub tables_landed : {rs ns : List ℕ} → Anchored s.n l' rs → Landed s i v top l' rs ns (get_or rs 1 0) →
      Tables ws rs ns (render l' (new_places s.list l' s.places) s.n) s.n
  tables_landed {rs} a d = tables_lowered s E d.lowered anchor
    where
      anchor : (p : ℕ) → p < anchor_words →
          get_or (render l' (new_places s.list l' s.places) s.n) p 0 ≡ get_or rs p 0
      anchor zero h = render_anchor l' (new_places s.list l' s.places) s.n 0 h ∙ sym a.count_is
      anchor (suc zero) h = render_anchor l' (new_places s.list l' s.places) s.n 1 h
          ∙ (slot_num l' (num s) (number_in (new_places s.list l' s.places)) (height l') 0
          (λ t. number_left s E (height l') 0 (has_in l' (height l') 0 (le_refl (height l')) t)) ∙ sym d.word_is)
      anchor (suc (suc zero)) h = render_anchor l' (new_places s.list l' s.places) s.n 2 h ∙ sym a.marks_is
      anchor (suc (suc (suc zero))) h = render_anchor l' (new_places s.list l' s.places) s.n 3 h ∙ sym a.spare_is
      anchor (suc (suc (suc (suc p)))) h = absurd (omega arith)

  -- THE STEPS OF THE CODE
  pub swept_path : k / slot_bits < top → top ≤ top_tier → {ps rs rs₁ rs₂ ns : List ℕ} →
      Edits s i k 0 0 ps top none l' (num s) → ((u : ℕ) → v < u → u ≤ top → Shown i k l' (num s) rs top u) →
      AnchorPut ws rs rs₁ 0 top → Swept rs₁ rs₂ v (top + 1) → Numbered ns ps v top (get_or ws 0 0) row_count →
      SweptPath s i v top l' rs₂ ns
  swept_path low high {ps} {rs} {rs₁} ed sh a sw nb = record {
    lowered = lowered_top low (λ u x y. record { words = λ f h. a.rest (place u f) (omega arith) ∙ (sh u x y).words f h }) sw nb
        ed.numbers high;
    anchored = record {
      count_is = sw.below 0 (omega arith) ∙ (a.count_is ∙ pool_anchor s 0 (omega arith));
      marks_is = sw.below 2 (omega arith) ∙ (a.marks_is
          ∙ anchor_marks ed fit_top (omega arith) (top_zero s E low) (sh top low (le_refl top)));
      spare_is = sw.below 3 (omega arith) ∙ a.spare_is;
    };
    head_is = sw.below 1 (omega arith) ∙ a.head_is;
  }

  pub tables_put : {rs rs' ns : List ℕ} {w : ℕ} → Anchored s.n l' rs →
      ((p : ℕ) → p < anchor_words → get_or rs' p 0 ≡ get_or rs p 0) → Landed s i v top l' rs' ns w → 4 ≤ length rs' →
      Tables ws (set rs' 1 w) ns (render l' (new_places s.list l' s.places) s.n) s.n
  tables_put {rs} {rs'} {ns} {w} a same d long = tables_landed (record {
    count_is = other 0 (omega arith) ∙ (same 0 (omega arith) ∙ a.count_is);
    marks_is = other 2 (omega arith) ∙ (same 2 (omega arith) ∙ a.marks_is);
    spare_is = other 3 (omega arith) ∙ (same 3 (omega arith) ∙ a.spare_is);
  }) (record {
    lowered = lowered_moved (λ p h. other p (omega arith)) d.lowered;
    word_is = get_or-set_same rs' 1 w 0 (omega arith) ∙ d.word_is;
  })
    where
      other : (p : ℕ) → (p ≡ 1 → ⊥) → get_or (set rs' 1 w) p 0 ≡ get_or rs' p 0
      other p n = get_or-set_other rs' 1 p w 0 n

  pub tables_bare : top ≡ 0 → {rs ns : List ℕ} → get_or rs 0 0 ≡ s.n → get_or rs 1 0 ≡ 0 → get_or rs 2 0 ≡ 0 → get_or rs 3 0 ≡ 0 →
      ((r : ℕ) → r < row_count → get_or ns r 0 ≡ s.n) →
      Tables ws rs ns (render l' (new_places s.list l' s.places) s.n) s.n
  tables_bare flat {rs} {ns} a b c d all =
      let (n, x) = landed_flat flat {rs = rs} all in
      tables_landed (record { count_is = a; marks_is = c ∙ sym (ap marks_of n); spare_is = d })
      (subst (λ (w : ℕ). Landed s i v top l' rs ns w) (sym b) x)

-- there is such a list
pub erases_list : {ws : List ℕ} (s : WellFormed ws) {i k top : ℕ} → PathThere s i (k / slot_bits) top → Standing s.list i k →
    Erases s i k top (erase s.list i)
erases_list s {i} {k} pt st = record {
  standing = st;
  there = pt;
  becomes = subst (λ (j : ℕ). Becomes i j none s.list (erase s.list i)) st.order_is
      (becomes_erase s.list s.valid i st.covering_is);
  valid = erase_valid i s.valid;
}
