-- All that new_rows leaves: the anchor, the rows and the numbers of the words after a store of a new entry.
use Prim.Native.Nat.{ℕ, zero, suc, ◌+◌, ◌-◌, ◌/◌, ◌≤◌, ◌<◌, max}
use mathlib.Core.Path.{◌≡◌, sym, ap, subst, ◌∙◌}
use mathlib.Core.Bool.{Bool, true}
use mathlib.Core.List.{List}
use mathlib.Core.Logic.{inl, inr}
use mathlib.Core.Option.{Option}
use native.Mathlib.Omega.{arith}
use native.Mathlib.Nat.{le_refl}
use lib.ListN.{get_or}
use Rattle.blocks.specs.Blocks.{block}
use Rattle.model.specs.declared.Entry.{Entry}
use Rattle.model.specs.Model.{marks_of}
use Rattle.tree.specs.Tree.{slot_bits, tier_order, height, has}
use Rattle.tree.specs.Slots.{Numbering, node_word}
use Rattle.tree.proofs.NodeListLaws.{has_within}
use Rattle.layout.specs.Words.{anchor_words, place, pool_words, field, field_under}
use Rattle.layout.specs.Places.{render}
use Rattle.layout.specs.WellFormed.{WellFormed}
use Rattle.layout.proofs.RenderWordLaws.{slot_node, render_anchor, pool_anchor}
use Rattle.plan.specs.declared.Heads.{Heads}
use Rattle.script_rows.specs.Row.{AnchorPut}
use Rattle.script_rows.specs.Becomes.{Shown}
use Rattle.script_rows.proofs.AnchorLaws.{turned_marks}
use Rattle.script_table.specs.Table.{row_count}
use Rattle.script_new.specs.New.{chain_row, NewList, NewPlanned, Chained, RowKind, path_row, chain_row_lem, places_then, num_then, NewRows}
use Rattle.script_new.specs.Chain.{beside_of, low_chain, ChainShown, NewNumbers}
use Rattle.script_new.proofs.NewLaws as N
use Rattle.script_new.proofs.NewLaws.{Stays, low_in, in_low}

module _ {ws : List ℕ} (s : WellFormed ws) {i k w : ℕ} {heads : Heads} {ps cs : List ℕ}
    (np : NewPlanned s (record { index = i; order = k; word = w }) heads ps cs) {m : ℕ} {o : Option Entry} {l' : List Entry}
    (nl : NewList s i k w m o l') (head_is : heads.word ≡ get_or ws 1 0) where
  abbrev μ : Numbering
  μ = num_then s i k l'

  top_is : heads.new ≡ height l'
  top_is = N.height_is s np nl

  old_is : heads.old ≡ height s.list
  old_is = np.known.h_is

  chained_stays : Chained s i k l' → Stays s heads i k
  chained_stays c = record {
    grows = omega (arith, top_is, old_is, c.grows);
    some_old = c.some_old;
    beside = c.beside;
  }

  stays_chained : Stays s heads i k → Chained s i k l'
  stays_chained c = record {
    grows = omega (arith, top_is, old_is, c.grows);
    some_old = c.some_old;
    beside = c.beside;
  }

  -- THE ANCHOR
  module _ {rs rs' : List ℕ} {h : ℕ} (a : AnchorPut ws rs rs' h heads.new) (he : h ≡ node_word (get_or ps heads.new 0))
      (sh : Shown i k l' μ rs heads.new heads.new) where
    marks : get_or rs' 2 0 ≡ marks_of l'
    marks = a.marks_is ∙ turned_marks (N.turns_new s np nl) (omega (arith, top_is)) (omega (arith, N.low s np))
        (N.head_flat s np) sh

    head_has : has l' (height l') 0 ≡ true
    head_has = subst (λ (u : ℕ). has l' u 0 ≡ true) top_is (subst (λ (c : ℕ). has l' heads.new c ≡ true) (N.head_flat s np)
        (N.path_has s np nl heads.new (N.low s np) (le_refl heads.new)))

    head_number : get_or ps heads.new 0 ≡ μ (height l') 0
    head_number = N.path_is s np nl heads.new (N.low s np) (le_refl heads.new) ∙ (ap (μ heads.new) (N.head_flat s np)
        ∙ ap (λ (u : ℕ). μ u 0) top_is)

    new_anchor : (p : ℕ) → p < anchor_words → get_or (render l' (places_then s i k l') s.n) p 0 ≡ get_or rs' p 0
    new_anchor zero g = render_anchor l' (places_then s i k l') s.n 0 g ∙ sym (a.count_is ∙ pool_anchor s 0 (omega arith))
    new_anchor (suc zero) g = render_anchor l' (places_then s i k l') s.n 1 g
        ∙ (slot_node l' μ (height l') 0 (has_within l' (height l') 0 head_has)
        ∙ sym (a.head_is ∙ (he ∙ ap node_word head_number)))
    new_anchor (suc (suc zero)) g = render_anchor l' (places_then s i k l') s.n 2 g ∙ sym marks
    new_anchor (suc (suc (suc zero))) g = render_anchor l' (places_then s i k l') s.n 3 g ∙ sym a.spare_is
    new_anchor (suc (suc (suc (suc p)))) g = absurd (omega arith)

  -- ALL
  module _ {b : Bool} {low : ℕ} (b-is : b ≡ beside_of heads k i) (low_is : low ≡ low_chain heads b) where
    new_only : {ns : List ℕ} → NewNumbers ns ps cs (k / slot_bits) heads.new low s.n row_count → (r : ℕ) → r < row_count →
        get_or ns r 0 < s.n → RowKind s i k l' r
    new_only {ns} nn r h g = elim ((nn.each r h).off g) [
      | inl p ↦ path_row r p.0 (omega (arith, top_is, p.1))
      | inr p ↦ chain_at r p.0 p.1
    ]
      where
        chain_at : (r : ℕ) → chain_row + low ≤ r → r < chain_row + heads.new → RowKind s i k l' r
        chain_at r a c =
            let st : Stays s heads i k = in_low s heads i k head_is b-is low_is (omega arith) in
            let z : low ≡ max 1 heads.old = low_in s heads i k head_is b-is low_is st in
            let y : chain_row + (r - chain_row) ≡ r = omega arith in
            subst (RowKind s i k l') y (chain_row_lem (r - chain_row) (stays_chained st) (record {
              from_head = omega (arith, old_is);
              node = omega arith;
              below = omega (arith, top_is);
            }))

    pub new_rows_are : {rs rs₁ rs₂ ns : List ℕ} {h : ℕ} →
        ((u : ℕ) → k / slot_bits < u → u ≤ heads.new → Shown i k l' μ rs heads.new u) →
        ((p : ℕ) → p < pool_words chain_row → get_or rs₁ p 0 ≡ get_or rs p 0) →
        (Stays s heads i k → (u : ℕ) → low ≤ u → u < heads.new → ChainShown l' μ rs₁ heads.new u) →
        AnchorPut ws rs₁ rs₂ h heads.new → h ≡ node_word (get_or ps heads.new 0) →
        NewNumbers ns ps cs (k / slot_bits) heads.new low s.n row_count → NewRows s i k l' rs₂ ns
    new_rows_are {rs} {rs₁} {rs₂} {ns} {h} sh same ch a he nn = record {
      anchor = new_anchor a he (kept_row heads.new (N.low s np) (le_refl heads.new));
      path_number = λ u x y. (nn.each u (omega (arith, top_is, N.top_le s np))).on_path_lem x (omega (arith, top_is))
          ∙ N.path_is s np nl u x (omega (arith, top_is));
      path_words = λ u x y f g. a.rest (place u f) (omega arith) ∙ under u f ((kept_row u x (omega (arith, top_is))).words f g);
      chain_number = λ c u x. let st : Stays s heads i k = chained_stays c in let z : low ≡ max 1 heads.old = low_in s heads i k head_is b-is low_is st in
          let y : chain_row + u - chain_row ≡ u = omega arith in
          (nn.each (chain_row + u) (omega (arith, x.below, top_is, N.top_le s np))).on_chain
          (omega (arith, x.from_head, x.node, old_is)) (omega (arith, x.below, top_is)) ∙ (ap (λ (t : ℕ). get_or cs t 0) y
          ∙ N.chain_is s np nl st u (omega (arith, x.from_head, old_is)) x.node (omega (arith, x.below, top_is)));
      chain_words_lem = λ c u x f g. let st : Stays s heads i k = chained_stays c in let z : low ≡ max 1 heads.old = low_in s heads i k head_is b-is
          low_is st in
          a.rest (place (chain_row + u) f) (omega arith) ∙ subst (λ (t : ℕ). get_or rs₁ (place (chain_row + u) f) 0 ≡ field_under l' μ t u 0 f) top_is
          ((ch st u (omega (arith, x.from_head, x.node, old_is)) (omega (arith, x.below, top_is))).words f g);
      only = new_only nn;
    }
      where
        kept_row : (u : ℕ) → k / slot_bits < u → u ≤ heads.new → Shown i k l' μ rs₁ heads.new u
        kept_row u x y = record { words = λ f g. same (place u f) (omega (arith, N.top_le s np)) ∙ (sh u x y).words f g }

        under : (u f : ℕ) {x : ℕ} → x ≡ field_under l' μ heads.new u (block (tier_order u) i) f →
            x ≡ field l' μ u (block (tier_order u) i) f
        under u f e = e ∙ ap (λ (t : ℕ). field_under l' μ t u (block (tier_order u) i) f) top_is
