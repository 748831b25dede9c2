-- The rows of the path, the anchor and the numbers of a command that leaves the nodes make a table.
use Prim.Native.Nat.{ℕ, zero, suc, ◌+◌, ◌/◌, ◌≤◌, ◌<◌}
use mathlib.Core.Path.{◌≡◌, refl, sym, ap, subst, ◌∙◌}
use mathlib.Core.Bool.{true}
use mathlib.Core.List.{List}
use mathlib.Core.Option.{Option}
use native.Mathlib.Omega.{arith}
use native.Mathlib.Nat.{le_refl}
use lib.Dec.{eqb}
use lib.ListN.{length, get_or, set}
use lib.Seq.{get_or-set_same, get_or-set_other}
use borrow.Author.Tests.{eqb-true, eqb-false}
use Rattle.blocks.specs.Blocks.{block}
use Rattle.blocks.proofs.BoolLaws.{by_t, clash}
use Rattle.model.specs.declared.Entry.{Entry}
use Rattle.model.specs.Model.{Valid}
use Rattle.tree.specs.Tree.{slot_bits, top_tier, tier_order, height, has}
use Rattle.tree.proofs.NodeListLaws.{has_within}
use Rattle.tree.proofs.HeightLaws.{height_most}
use Rattle.layout.specs.Words.{anchor_words, place, pool_words, last_place, max_nodes}
use Rattle.layout.specs.Places.{new_places, render}
use Rattle.layout.specs.WellFormed.{WellFormed, num}
use Rattle.layout.proofs.RenderWordLaws.{slot_node, render_anchor, pool_anchor, pool_head, pool_length_lem, node_of}
use Rattle.plan.specs.Plan.{Walked}
use Rattle.script_rows.specs.Row.{AnchorPut}
use Rattle.script_rows.specs.Becomes.{Becomes, word_in, marks_in, Shown, Edits, Roomy}
use Rattle.script_rows.proofs.AnchorLaws.{anchor_marks}
use Rattle.script_rows.proofs.EditsLaws.{edits_old}
use Rattle.script_table.specs.Table.{row_count, Tables}
use Rattle.script_same.proofs.TableLaws.{tables_same}
use Rattle.blocks.proofs.ListLaws.{any_in_lem, look}
use Rattle.model.specs.Model.{within, marks_of}
use Rattle.tree.proofs.StoreLaws.{within_only}
use Rattle.tree.proofs.HeightLaws.{height_fits, fits_base}
use Rattle.tree.specs.Slots.{node_word}
use Rattle.layout.specs.Pool.{slot_of}
use Rattle.layout.specs.Pool.{child_of}
use Rattle.layout.proofs.SaysLaws.{child_is}
use Rattle.script_rows.proofs.HeadLaws.{lows}
use Rattle.script_same.specs.Same.{NumberAt, Numbered, PathThere}

-- NUMBERS
pub numbered_step : {ns ps : List ℕ} {v top n r : ℕ} (q : ℕ) → Numbered ns ps v top n r → NumberAt ps r v top n q →
    r < length ns → Numbered (set ns r q) ps v top n (r + 1)
numbered_step {ns} {ps} {v} {top} {n} {r} q a b h = record {
  on = λ t lt g z. by_t (eqb t r)
      (λ x. let e : t ≡ r = eqb-true _ _ x in
      rw e (get_or-set_same ns r q 0 h ∙ b.on (subst (λ (y : ℕ). v < y) e g) (subst (λ (y : ℕ). y ≤ top) e z)))
      (λ x. let ne : t ≡ r → ⊥ = eqb-false _ _ x in get_or-set_other ns r t q 0 ne ∙ a.on t (omega arith) g z);
  off = λ t lt g. by_t (eqb t r)
      (λ x. let e : t ≡ r = eqb-true _ _ x in
      let g' : q < n = subst (λ (y : ℕ). y < n) (ap (λ (y : ℕ). get_or (set ns r q) y 0) e ∙ get_or-set_same ns r q 0 h) g in
      subst (λ (y : ℕ). (v < y) × (y ≤ top)) (sym e) (b.off g'))
      (λ x. let ne : t ≡ r → ⊥ = eqb-false _ _ x in
      a.off t (omega arith) (subst (λ (y : ℕ). y < n) (get_or-set_other ns r t q 0 ne) g));
}

pub numbered_start : (ns ps : List ℕ) (v top n : ℕ) → Numbered ns ps v top n 0
numbered_start ns ps v top n = record { on = λ r lt. absurd (omega arith); off = λ r lt. absurd (omega arith) }

module _ {ws : List ℕ} (s : WellFormed ws) (i k : ℕ) {top : ℕ} (low : k / slot_bits < top) (pt : PathThere s i (k / slot_bits) top) where
  abbrev l : List Entry
  l = s.list

  head_has : has l (height l) (block (tier_order (height l)) i) ≡ true
  head_has = subst (λ (u : ℕ). has l u (block (tier_order u) i) ≡ true) pt.top_is (pt.there top low (le_refl top))

  flat : block (tier_order (height l)) i ≡ 0
  flat =
      let (x, m, e) = any_in_lem (within (tier_order (height l)) (block (tier_order (height l)) i)) l
      (has_within l (height l) (block (tier_order (height l)) i) head_has) in
      sym (within_only (tier_order (height l)) _ x e) ∙ fits_base (height l) x
      (look (height_fits (lows s.valid) (le_refl (height l))) m)

  zero_has : has l (height l) 0 ≡ true
  zero_has = subst (λ (c : ℕ). has l (height l) c ≡ true) flat head_has

  head_word_lem : get_or ws 1 0 ≡ node_word (num s (height l) 0)
  head_word_lem = pool_head s ∙ slot_node l (num s) (height l) 0 (has_within l (height l) 0 zero_has)

  -- what the way down needs
  pub first_is : {f : ℕ} → f ≡ child_of (slot_of (get_or ws 1 0)) → f ≡ num s top (block (tier_order top) i)
  first_is {f} e = e ∙ (child_is (get_or ws 1 0) (num s (height l) 0) head_word_lem
      ∙ (ap (num s (height l)) (sym flat) ∙ ap (λ (u : ℕ). num s u (block (tier_order u) i)) (sym pt.top_is)))

  module _ {ps : List ℕ} {d : ℕ} (w : Walked l (num s) i (k / slot_bits) top ps d) where
    -- it goes down to the lowest node
    pub whole : Walked l (num s) i (k / slot_bits) top ps (k / slot_bits + 1)
    whole = subst (Walked l (num s) i (k / slot_bits) top ps) z w
      where
        z : d ≡ k / slot_bits + 1
        z = by_t (eqb d (k / slot_bits + 1)) (eqb-true _ _)
            (λ x. let ne : d ≡ k / slot_bits + 1 → ⊥ = eqb-false _ _ x in
            let a : k / slot_bits + 1 < d = omega (arith, w.low) in
            absurd (clash (pt.there (k / slot_bits + 1) (omega arith) (omega arith)) (w.not_there (k / slot_bits + 1) (omega arith) a)))

    pub roomy : {rs : List ℕ} → top ≤ top_tier → top_tier < length ps → pool_words 12 ≤ length rs →
        Roomy ws rs ps (k / slot_bits) top
    roomy h g r = record {
      low = low;
      top_le = h;
      path_long = g;
      rows_long = r;
      few = λ u a z. subst (λ (x : ℕ). x < max_nodes) (sym (whole.numbers u (omega arith) z))
          (omega (arith, (node_of s u (block (tier_order u) i) (pt.there u a z)).0, s.most));
      nodes = λ u a z. subst (λ (x : ℕ). last_place x < length ws) (sym (whole.numbers u (omega arith) z))
          (omega (arith, (node_of s u (block (tier_order u) i) (pt.there u a z)).0, pool_length_lem s));
    }

    module _ {o : Option Entry} {l' : List Entry} (b : Becomes i k o l l') (v' : Valid l')
        (same_has : (u c : ℕ) → has l' u c ≡ has l u c) (same_height : height l' ≡ height l)
        (same_places : new_places l l' s.places ≡ s.places) where
      pub same_edits : {x y : ℕ} → x ≡ word_in o → y ≡ marks_in o → Edits s i k x y ps top o l' (num s)
      same_edits e f = rw (e, f) (edits_old s b v' ps whole)

      pub same_table : {rs rs' ns : List ℕ} → ((u : ℕ) → k / slot_bits < u → u ≤ top → Shown i k l' (num s) rs top u) →
          AnchorPut ws rs rs' (get_or ws 1 0) top → Numbered ns ps (k / slot_bits) top (get_or ws 0 0) row_count →
          Tables ws rs' ns (render l' s.places s.n) s.n
      same_table {rs} {rs'} {ns} sh a n =
          tables_same s b same_has same_height same_places ps head_has
          (λ u g z. whole.numbers u (omega arith) (subst (λ (h : ℕ). u ≤ h) (sym pt.top_is) z))
          (λ u g z. pt.there u g (subst (λ (h : ℕ). u ≤ h) (sym pt.top_is) z))
          rs' ns (omega (arith, height_most l))
          (λ r h g. subst (λ (t : ℕ). (k / slot_bits < r) × (r ≤ t)) pt.top_is (n.off r h (subst (λ (c : ℕ). get_or ns r 0 < c) (sym count) g)))
          (λ u g z. n.on u (omega (arith, height_most l)) g (subst (λ (h : ℕ). u ≤ h) (sym pt.top_is) z))
          (λ u g z. subst (λ (h : ℕ). Shown i k l' (num s) rs' h u) pt.top_is (moved u (sh u g (subst (λ (h : ℕ). u ≤ h) (sym pt.top_is) z))))
          anchor
        where
          count : get_or ws 0 0 ≡ s.n
          count = pool_anchor s 0 (omega arith)

          moved : (u : ℕ) → Shown i k l' (num s) rs top u → Shown i k l' (num s) rs' top u
          moved u x = record { words = λ f h. a.rest (place u f) (omega arith) ∙ x.words f h }

          marks : get_or rs' 2 0 ≡ marks_of l'
          marks = a.marks_is ∙ anchor_marks (same_edits refl refl) (omega (arith, same_height, pt.top_is)) (omega arith)
              (ap (λ (h : ℕ). block (tier_order h) i) pt.top_is ∙ flat) (sh top low (le_refl top))

          anchor : (p : ℕ) → p < anchor_words → get_or (render l' s.places s.n) p 0 ≡ get_or rs' p 0
          anchor zero h = render_anchor l' s.places s.n 0 h ∙ sym (a.count_is ∙ count)
          anchor (suc zero) h = render_anchor l' s.places s.n 1 h
              ∙ (slot_node l' (num s) (height l') 0 (has_within l' (height l') 0
              (subst (λ (t : ℕ). has l' t 0 ≡ true) (sym same_height) (same_has (height l) 0 ∙ zero_has)))
              ∙ (ap (λ (t : ℕ). node_word (num s t 0)) same_height ∙ sym (a.head_is ∙ head_word_lem)))
          anchor (suc (suc zero)) h = render_anchor l' s.places s.n 2 h ∙ sym marks
          anchor (suc (suc (suc zero))) h = render_anchor l' s.places s.n 3 h ∙ sym a.spare_is
          anchor (suc (suc (suc (suc p)))) h = absurd (omega arith)
