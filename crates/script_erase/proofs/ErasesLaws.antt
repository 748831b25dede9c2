-- An entry leaves the list: what is left was there, no node is new, and the nodes that stay keep their numbers.
use Prim.Native.Nat.{ℕ, suc, ◌+◌, ◌*◌, ◌-◌, ◌/◌, ◌≤◌, ◌<◌}
use mathlib.Core.Path.{◌≡◌, refl, sym, ap, subst, ◌∙◌}
use mathlib.Core.Bool.{Bool, true, false}
use mathlib.Core.List.{List}
use mathlib.Core.Option.{none, some}
use native.Mathlib.Omega.{arith}
use native.Mathlib.Nat.{le_refl}
use lib.Dec.{eqb, leb}
use lib.ListN.{get_or}
use borrow.Author.Tests.{eqb-false}
use Rattle.blocks.specs.Choice.{both}
use Rattle.blocks.specs.Lists.{any, In}
use Rattle.blocks.specs.Blocks.{block}
use Rattle.blocks.proofs.BoolLaws.{by_t, clash}
use Rattle.blocks.proofs.ListLaws.{any_in_lem, in_any, look, each, first_yes, without_all}
use Rattle.blocks.proofs.PlacingLaws.{none_some}
use Rattle.model.specs.declared.Entry.{Entry}
use Rattle.model.specs.Model.{covers, covering, within}
use Rattle.model.proofs.RangeLaws.{Inside}
use Rattle.model.proofs.ValidLaws.{sole, covers_self}
use Rattle.tree.specs.Tree.{slots, slot_bits, tier_order, height, has, nodes}
use Rattle.tree.proofs.HeightLaws.{height_le, height_fits, fits_base}
use Rattle.tree.proofs.NodeListLaws.{has_in, has_le, has_within, nodes_in_lem}
use Rattle.tree.proofs.SlotLaws.{slot_num}
use Rattle.tree.proofs.StoreLaws.{within_only}
use Rattle.layout.specs.Words.{IsField, shift_word, owner, mark_word, slot_word, field, field_under, field_at}
use Rattle.layout.specs.Places.{Places, number_in, keep_if, prune, new_places, has_node}
use Rattle.layout.specs.WellFormed.{WellFormed, num}
use Rattle.layout.proofs.FieldLaws.{fields_same}
use Rattle.layout.proofs.NumberLaws.{nd, prune_get}
use Rattle.layout.proofs.OwnerLaws.{parent}
use Rattle.layout.proofs.PlacesLaws.{number_stays}
use Rattle.layout.proofs.StayLaws.{places_prune}
use Rattle.script_rows.specs.Becomes.{Becomes}
use Rattle.script_rows.proofs.BecomesLaws.{within_inside}
use Rattle.script_rows.proofs.CommandLaws.{becomes_same}
use Rattle.script_rows.proofs.HeadLaws.{lows}
use Rattle.script_erase.specs.Erased.{Erases, tall_field}

has_is : (l : List Entry) (u c : ℕ) {b : Bool} → has l u c ≡ b → both (leb u (height l)) (any (within (tier_order u) c) l) ≡ b
unfolding has
has_is l u c t = t

module _ {ws : List ℕ} (s : WellFormed ws) {i k top : ℕ} {l' : List Entry} (E : Erases s i k top l') where
  abbrev l : List Entry
  l = s.list

  abbrev os' : Places
  os' = new_places s.list l' s.places

  -- what is left was there
  pub left : {x : Entry} → In x l' → In x l
  left {x} m =
      let q : covering l' x.base ≡ some x = look (sole x.base E.valid) m (covers_self x) in
      let same : covering l' x.base ≡ covering l x.base = E.becomes.agree.covering_same x.base
      (λ r. none_some (sym (E.becomes.covers_is x.base r) ∙ q)) in
      (first_yes (covers x.base) (each l (λ y n. n)) (sym same ∙ q)).1

  pub height_left : height l' ≤ height l
  height_left = height_le (each l' (λ x m. look (height_fits (lows s.valid) (le_refl (height l))) (left m)))

  pub within_left : (u c : ℕ) → any (within (tier_order u) c) l' ≡ true → any (within (tier_order u) c) l ≡ true
  within_left u c t = let (x, m, e) = any_in_lem (within (tier_order u) c) l' t in in_any (within (tier_order u) c) (left m) e

  pub has_left : (u c : ℕ) → has l' u c ≡ true → has l u c ≡ true
  has_left u c t = has_in l u c (omega (arith, has_le l' u c t, height_left)) (within_left u c (has_within l' u c t))

  -- the numbers
  pub places_left : os' ≡ prune l' s.places
  places_left = places_prune l l' s.places
      (without_all (has_node l) (each (nodes l') (λ p m. has_left p.tier p.number (nodes_in_lem l' m))))

  pub number_left : (u c : ℕ) → has l' u c ≡ true → number_in os' u c ≡ num s u c
  number_left u c t = number_stays s.n l s.places s.placed l' (nd u c) (has_left u c t) t

  pub place_left : (m : ℕ) → get_or os' m none ≡ keep_if l' (get_or s.places m none)
  place_left m = ap (λ (os : Places). get_or os m none) places_left ∙ prune_get l' s.places m

  -- under the new head there is only block 0, and under the old one too
  pub first_only : (u c : ℕ) → height l' ≤ u → any (within (tier_order u) c) l' ≡ true → c ≡ 0
  first_only u c h t =
      let (x, m, e) = any_in_lem (within (tier_order u) c) l' t in
      sym (within_only (tier_order u) c x e) ∙ fits_base u x (look (height_fits (lows E.valid) h) m)

  pub top_only : (c : ℕ) → any (within (tier_order (height l)) c) l ≡ true → c ≡ 0
  top_only c t =
      let (x, m, e) = any_in_lem (within (tier_order (height l)) c) l t in
      sym (within_only (tier_order (height l)) c x e)
      ∙ fits_base (height l) x (look (height_fits (lows s.valid) (le_refl (height l))) m)

  pub top_zero : k / slot_bits < top → block (tier_order top) i ≡ 0
  top_zero low = subst (λ (u : ℕ). block (tier_order u) i ≡ 0) (sym E.there.top_is)
      (top_only (block (tier_order (height l)) i) (has_within l (height l) (block (tier_order (height l)) i)
      (subst (λ (u : ℕ). has l u (block (tier_order u) i) ≡ true) E.there.top_is (E.there.there top low (le_refl top)))))

  -- no node lies in the entry's range
  pub none_inside : (u c : ℕ) → tier_order u ≤ k → Inside i k (tier_order u) c → has l u c ≡ true → ⊥
  none_inside u c h a t =
      let st = E.standing in
      let b : Becomes i k (some st.entry) l l = subst (λ (j : ℕ). Becomes i j (some st.entry) l l) st.order_is
      (becomes_same i l s.valid st.covering_is) in
      clash (has_within l u c t) (within_inside b u c h a)

  -- a node's words, by the numbers before and after
  fields_left : (u c f : ℕ) → has l' u c ≡ true → IsField f →
      field_under l' (num s) (height l') u c f ≡ field l' (number_in os') u c f
  fields_left u c f t q =
      fields_same (shift_word u) (shift_word u) (owner l' (number_in os') u c) (owner l' (num s) u c)
      (mark_word l' (number_in os') u c) (mark_word l' (num s) u c) (slot_word l' (number_in os') u c) (slot_word l' (num s) u c)
      refl owners (λ _ _. refl)
      (λ o g. sym (slot_num l' (num s) (number_in os') (u - 1) (slots * c + o)
      (λ z. number_left (u - 1) (slots * c + o) (has_in l' (u - 1) (slots * c + o) (omega (arith, has_le l' u c t)) z)))) f q
    where
      owners : owner l' (num s) u c ≡ owner l' (number_in os') u c
      owners = by_t (eqb u (height l')) (λ z. rw z)
          (λ z. let ne : u ≡ height l' → ⊥ = eqb-false _ _ z in
          rw (z, number_left (suc u) (c / slots) (parent l' u c t (omega (arith, has_le l' u c t)))))

  pub tall_left : (u c f : ℕ) → IsField f →
      tall_field (height l') l' (num s) u c f ≡ field_at l' (number_in os') (keep_if l' (some (nd u c))) f
  tall_left u c f q = by_t (has l' u c) (λ t. yes t (has_is l' u c t)) (λ t. no t (has_is l' u c t))
    where
      yes : has l' u c ≡ true → both (leb u (height l')) (any (within (tier_order u) c) l') ≡ true →
          tall_field (height l') l' (num s) u c f ≡ field_at l' (number_in os') (keep_if l' (some (nd u c))) f
      yes t t' = rw (t, t') (fields_left u c f t q)

      no : has l' u c ≡ false → both (leb u (height l')) (any (within (tier_order u) c) l') ≡ false →
          tall_field (height l') l' (num s) u c f ≡ field_at l' (number_in os') (keep_if l' (some (nd u c))) f
      no t t' = rw (t, t') refl
