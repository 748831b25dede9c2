-- The words after a call are those of the new list at the new places, if they are right at the anchor, at the parts that are
-- new, at those that are gone, and at the old ones on the path of the key; and nothing else was written.
use Prim.Native.Nat.{ℕ, ◌≤◌, ◌<◌}
use mathlib.Core.Path.{◌≡◌, refl, sym, ap, ◌∙◌, subst}
use mathlib.Core.Bool.{Bool, true, false}
use mathlib.Core.List.{List}
use mathlib.Core.Option.{Option, none, some}
use native.Mathlib.Omega.{arith}
use lib.Dec.{eqb}
use lib.ListN.{length, get_or}
use borrow.Author.Tests.{eq-eqb, ne_eqb}
use Rattle.blocks.specs.Choice.{pick}
use Rattle.blocks.specs.Placing.{Placed, free_count, keep_if}
use Rattle.blocks.proofs.BoolLaws.{by_t, clash}
use Rattle.blocks.proofs.PlacingLaws.{in_standing, placed_new, number_none, none_some}
use Rattle.blocks.proofs.PlaceNumberLaws.{number_of_lem, was}
use Rattle.assoc_tree.specs.Keys.{Item, Sorted}
use Rattle.assoc_tree.specs.Parts.{Part, same, block_of, has, new_parts}
use Rattle.assoc_layout.specs.Words.{Places, anchor_words, block_words, pool_words, place, anchor_word, field, field_at, number_in, new_places, render}
use Rattle.assoc_tree.proofs.SizeLaws.{same_refl, same_is}
use Rattle.assoc_stay.proofs.StayLaws.{Apart}
use Rattle.assoc_stay.proofs.WordStays.{new_parts_lem, field_stays}
use Rattle.assoc_layout.proofs.RenderLaws.{render_is}

-- p is the leaf of key k, or a node whose block has it
abbrev pub on_path : ℕ → Part → Bool
on_path k p = pick (eqb p.tier 0) (eqb k p.base) (pick (eqb p.skip 0) (eqb (block_of p.tier k) (block_of p.tier p.base)) false)

module _ {k : ℕ} {l l' : List Item} (a : Apart k l l') (s : Sorted 0 l) (s' : Sorted 0 l') {n : ℕ} {os : Places}
    (pl : Placed n (has l) os) (room : length (new_parts l l') ≤ free_count os) (ws : List ℕ) where
  abbrev os' : Places
  os' = new_places l l' os

  abbrev ν' : Part → ℕ
  ν' = number_in (new_places l l' os)

  abbrev fields : ℕ → Part → Type 0
  fields m p = (f : ℕ) → f < block_words → get_or ws (place m f) 0 ≡ field l' (number_in (new_places l l' os)) p f

  pub record Written : Type 0 where
    pub long : length ws ≡ pool_words n
    pub anchor : (i : ℕ) → i < anchor_words → get_or ws i 0 ≡ anchor_word l' (number_in (new_places l l' os)) n i
    pub new : (p : Part) → has l' p ≡ true → has l p ≡ false → fields (number_in (new_places l l' os) p) p
    pub path : (p : Part) → has l' p ≡ true → has l p ≡ true → on_path k p ≡ true → fields (number_in os p) p
    pub gone : (p : Part) → has l p ≡ true → has l' p ≡ false → (f : ℕ) → f < block_words → get_or ws (place (number_in os p) f) 0 ≡ 0
    -- at every other block, what was there
    pub rest : (m f : ℕ) → m < n → f < block_words →
        ((p : Part) → get_or (new_places l l' os) m none ≡ some p → (has l p ≡ true) × (on_path k p ≡ false)) →
        ((p : Part) → get_or os m none ≡ some p → has l' p ≡ true) →
        get_or ws (place m f) 0 ≡ field_at l (number_in os) (get_or os m none) f

  placed' : Placed n (has l') (new_places l l' os)
  placed' = placed_new os (new_parts_lem l s') pl room

  old_number : (p : Part) (m : ℕ) → get_or os m none ≡ some p → number_in os p ≡ m
  old_number p m e = number_of_lem same same_is (same_refl l) p os m pl.once e

  new_number : (p : Part) (m : ℕ) → get_or (new_places l l' os) m none ≡ some p → number_in (new_places l l' os) p ≡ m
  new_number p m e = number_of_lem same same_is (same_refl l) p (new_places l l' os) m placed'.once e

  off : (p : Part) → on_path k p ≡ false → (p.tier ≡ 0 → k ≡ p.base → ⊥) ×
      (1 ≤ p.tier → p.skip ≡ 0 → block_of p.tier k ≡ block_of p.tier p.base → ⊥)
  off p e = (
    (λ z d. clash (rw (eq-eqb p.tier 0 z) (eq-eqb k p.base d)) e),
    (λ h z d. clash (rw (ne_eqb p.tier 0 (omega arith), eq-eqb p.skip 0 z) (eq-eqb _ _ d)) e),
  )

  some_one : {p q : Part} → some p ≡ some q → p ≡ q
  some_one d = cc

  pub final : Written → ws ≡ render l' (new_places l l' os) n
  final w = render_is l' (new_places l l' os) n ws w.long w.anchor (λ m f h g. at m f h g (get_or (new_places l l' os) m none) refl)
    where
      stood : (m f : ℕ) → m < n → f < block_words → (o : Option Part) → get_or os m none ≡ o → get_or (new_places l l' os) m none ≡ none →
          get_or ws (place m f) 0 ≡ 0
      stood m f h g none d e = w.rest m f h g (λ p q. none_some (sym e ∙ q)) (λ p q. none_some (sym d ∙ q)) ∙
          ap (λ (o : Option Part). field_at l (number_in os) o f) d
      stood m f h g (some p) d e =
          by_t (has l' p)
          (λ t. let x : keep_if (has l') (some p) ≡ none = ap (keep_if (has l')) (sym d) ∙ number_none os (new_parts_lem l s') m e in
          none_some (sym (rw t at x)))
          (λ t. ap (λ (x : ℕ). get_or ws (place x f) 0) (sym (old_number p m d)) ∙
          w.gone p (pl.sound p (in_standing p os m d)) t f g)

      kept : (m f : ℕ) → m < n → f < block_words → (p : Part) → get_or (new_places l l' os) m none ≡ some p → has l' p ≡ true → has l p ≡ true →
          get_or ws (place m f) 0 ≡ field l' (number_in (new_places l l' os)) p f
      kept m f h g p e t' t =
          let o : get_or os m none ≡ some p = subst (λ (x : ℕ). get_or os x none ≡ some p) (new_number p m e)
          (was same same_is (same_refl l) (new_parts_lem l s') pl p t' t) in
          by_t (on_path k p)
          (λ c. ap (λ (x : ℕ). get_or ws (place x f) 0) (sym (old_number p m o)) ∙ w.path p t' t c f g)
          (λ c. let (x, y) = off p c in
          w.rest m f h g (λ q d. subst (λ (r : Part). (has l r ≡ true) × (on_path k r ≡ false)) (some_one (sym e ∙ d)) (t, c))
          (λ q d. subst (λ (r : Part). has l' r ≡ true) (some_one (sym o ∙ d)) t') ∙
          ap (λ (r : Option Part). field_at l (number_in os) r f) o ∙ field_stays a s s' pl p t t' x y f g)

      at : (m f : ℕ) → m < n → f < block_words → (o : Option Part) → get_or (new_places l l' os) m none ≡ o →
          get_or ws (place m f) 0 ≡ field_at l' (number_in (new_places l l' os)) (get_or (new_places l l' os) m none) f
      at m f h g none e = stood m f h g (get_or os m none) refl e ∙ sym (ap (λ (o : Option Part). field_at l' ν' o f) e)
      at m f h g (some p) e =
          let t' : has l' p ≡ true = placed'.sound p (in_standing p (new_places l l' os) m e) in
          by_t (has l p) (λ t. kept m f h g p e t' t)
          (λ t. ap (λ (x : ℕ). get_or ws (place x f) 0) (sym (new_number p m e)) ∙ w.new p t' t f g) ∙
          sym (ap (λ (o : Option Part). field_at l' ν' o f) e)
