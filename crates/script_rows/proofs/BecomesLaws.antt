-- The tree after a change of one range: each slot and each mark by where its block lies, and which nodes of the path
-- are there.
use Prim.Native.Nat.{ℕ, suc, ◌+◌, ◌*◌, ◌%◌, ◌^◌, ◌≤◌, ◌<◌}
use mathlib.Core.Path.{◌≡◌, refl, sym, subst, ◌∙◌}
use mathlib.Core.Bool.{Bool, true, false, not}
use mathlib.Core.List.{List}
use mathlib.Core.Option.{Option, none, some}
use native.Mathlib.Omega.{arith}
use lib.Dec.{eqb}
use borrow.Author.Tests.{eqb-true, eq-eqb, ne_eqb, lt-ltb, le-ltb}
use Rattle.blocks.specs.Choice.{pick, both}
use Rattle.blocks.specs.Lists.{any, All, In}
use Rattle.blocks.specs.Blocks.{block, bits_to}
use Rattle.blocks.proofs.BoolLaws.{clash, by_t, not-false}
use Rattle.blocks.proofs.ListLaws.{first_yes, each, in_any}
use Rattle.blocks.proofs.BlockLaws.{block_at, block_up}
use Rattle.blocks.proofs.CountLaws.{count_none, count_zero}
use Rattle.model.specs.declared.Entry.{Entry}
use Rattle.model.specs.Model.{Valid, covers, starts, within, has_mark}
use Rattle.model.proofs.RangeLaws.{Apart, Inside}
use Rattle.model.proofs.ValidLaws.{sole, sorted_ok}
use Rattle.tree.specs.Tree.{slots, tier_order, slot_mark}
use Rattle.tree.specs.Slots.{Numbering, slot, entry_word, node_word}
use Rattle.tree.proofs.SlotLaws.{covering_slot, node_empty, empty_node}
use Rattle.tree.proofs.StoreLaws.{within_only, marked_only}
use Rattle.layout.specs.Words.{filled_of}
use Rattle.marks.proofs.MarkLaws.{word_mark}
use Rattle.blocks.proofs.ListLaws.{look}
use Rattle.script_rows.specs.Becomes.{any_in, Seated, Becomes}

module _ {i k : ℕ} {o : Option Entry} {l l' : List Entry} (b : Becomes i k o l l') where
  -- APART FROM THE RANGE nothing changes
  pub slot_apart : (ν μ : Numbering) (u c : ℕ) → Apart i k (tier_order u) c →
      (any (within (tier_order u) c) l ≡ true → μ u c ≡ ν u c) → slot l' μ u c ≡ slot l ν u c
  unfolding slot
  slot_apart ν μ u c a e =
      rw (
        b.agree.any_same (within (tier_order u) c) (tier_order u) c (within_only (tier_order u) c) a,
        b.agree.covering_same (c * 2 ^ tier_order u) (a _ (block_at (tier_order u) c)),
      )
      (by_t (any (within (tier_order u) c) l) (λ t. rw (t, e t)) (λ t. rw t))

  pub mark_apart : (m u c : ℕ) → Apart i k (tier_order u) c → slot_mark l' m u c ≡ slot_mark l m u c
  unfolding slot_mark
  mark_apart m u c a = b.agree.any_same _ (tier_order u) c (marked_only m (tier_order u) c) a

  pub within_apart : (u c : ℕ) → Apart i k (tier_order u) c →
      any (within (tier_order u) c) l' ≡ any (within (tier_order u) c) l
  within_apart u c a = b.agree.any_same (within (tier_order u) c) (tier_order u) c (within_only (tier_order u) c) a

  -- INSIDE IT there is no node
  pub within_inside : (u c : ℕ) → tier_order u ≤ k → Inside i k (tier_order u) c → any (within (tier_order u) c) l' ≡ false
  within_inside u c h a = b.inside_is (within (tier_order u) c) (tier_order u) c (within_only (tier_order u) c) a ∙ go o refl
    where
      go : (x : Option Entry) → o ≡ x → any_in (within (tier_order u) c) x ≡ false
      go none q = refl
      go (some e) q = let z : e.order ≡ k = (b.seated e q).order_is in
          rw (le-ltb e.order (tier_order u) (omega arith)) refl

  pub slot_inside : (μ : Numbering) (u c : ℕ) → tier_order u ≤ k → Inside i k (tier_order u) c →
      slot l' μ u c ≡ entry_word u c o
  unfolding slot
  slot_inside μ u c h a =
      rw (within_inside u c h a, b.covers_is (c * 2 ^ tier_order u) (a _ (block_at (tier_order u) c)))

  pub mark_inside : (m u c : ℕ) → Inside i k (tier_order u) c →
      slot_mark l' m u c ≡ any_in (λ e. both (starts (tier_order u) c e) (has_mark m e)) o
  unfolding slot_mark
  mark_inside m u c a = b.inside_is _ (tier_order u) c (marked_only m (tier_order u) c) a

  -- what stands in the range is in the list
  pub seated_in : (e : Entry) → o ≡ some e → In e l'
  seated_in e q = (first_yes (covers i) (each l' (λ x m. m)) (b.covers_is i refl ∙ q)).1

  -- ON THE PATH
  pub within_path : (j : ℕ) → k < j → (e : Entry) → o ≡ some e → any (within j (block j i)) l' ≡ true
  within_path j h e q =
      let at : Seated i k e = b.seated e q in
      let z : e.order ≡ k = at.order_is in
      in_any (within j (block j i)) (seated_in e q)
      (rw (
        lt-ltb e.order j (omega arith),
        eq-eqb _ _ (block_up {j = k} {k = j} e.base i (omega arith) at.in_run_lem),
      ) refl)

  pub slot_path : (μ : Numbering) (u : ℕ) → k < tier_order u →
      slot l' μ u (block (tier_order u) i) ≡
      pick (any (within (tier_order u) (block (tier_order u) i)) l') (node_word (μ u (block (tier_order u) i))) 0
  unfolding slot
  slot_path μ u h =
      by_t (any (within (tier_order u) (block (tier_order u) i)) l') (λ t. rw t)
      (λ t. rw (t, ← covering_slot l' (tier_order u) (block (tier_order u) i) i t refl, b.covers_is i refl) (go t o refl))
    where
      go : any (within (tier_order u) (block (tier_order u) i)) l' ≡ false → (x : Option Entry) → o ≡ x →
          entry_word u (block (tier_order u) i) x ≡ 0
      go t none q = refl
      go t (some e) q = absurd (clash (within_path (tier_order u) h e q) t)

  module _ (v' : Valid l') (u : ℕ) (h : k < tier_order (suc u)) where
    abbrev B : ℕ
    B = block (tier_order (suc u)) i

    none_over : All (λ x. tier_order (suc u) ≤ x.order → covers (B * 2 ^ tier_order (suc u)) x ≡ true → ⊥) l'
    none_over = each l' (λ x m g t.
        let c : covers i x ≡ true = eq-eqb _ _ (block_up {j = tier_order (suc u)} {k = x.order} i
        (B * 2 ^ tier_order (suc u)) g (sym (block_at (tier_order (suc u)) B)) ∙ eqb-true _ _ t) in
        let q : o ≡ some x = sym (b.covers_is i refl) ∙ look (sole i v') m c in
        let z : x.order ≡ k = (b.seated x q).order_is in omega arith)

    -- the node of the path at tier u + 1 is there exactly if one of its slots is filled
    pub path_filled : (μ : Numbering) →
        not (eqb (filled_of (λ j. slot l' μ u (slots * B + j))) 0) ≡ any (within (tier_order (suc u)) B) l'
    path_filled μ =
        by_t (any (within (tier_order (suc u)) B) l')
        (λ t. rw (t, ne_eqb (filled_of (λ j. slot l' μ u (slots * B + j))) 0 (λ z. clash t (none z))) refl)
        (λ t. rw (t, eq-eqb (filled_of (λ j. slot l' μ u (slots * B + j))) 0 (empty t)) refl)
      where
        f : ℕ → Bool
        f j = not (eqb (slot l' μ u (slots * B + j)) 0)

        none : filled_of (λ j. slot l' μ u (slots * B + j)) ≡ 0 → any (within (tier_order (suc u)) B) l' ≡ false
        none z = node_empty l' μ u B (sorted_ok v') (λ d q.
            let e : slots * B + d % slots ≡ d = omega arith in
            subst (λ (c : ℕ). slot l' μ u c ≡ 0) e
            (eqb-true _ _ (not-false _ (count_zero f slots z (d % slots) (omega arith)))))

        empty : any (within (tier_order (suc u)) B) l' ≡ false → filled_of (λ j. slot l' μ u (slots * B + j)) ≡ 0
        empty t = count_none f slots (λ j g.
            rw (empty_node l' μ u B t none_over (slots * B + j) (omega arith)) refl)

    -- and the slot that leads to it has a mark exactly if one of its slots does
    pub mark_path : (m : ℕ) →
        slot_mark l' m (suc u) B ≡ not (eqb (bits_to (λ j. slot_mark l' m u (slots * B + j)) slots) 0)
    mark_path m = sym (word_mark l' m u B)
