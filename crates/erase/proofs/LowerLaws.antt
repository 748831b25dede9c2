-- Shrinking the head.
use Prim.Native.Nat.{ℕ, zero, suc, ◌+◌, ◌*◌, ◌-◌, ◌/◌, ◌%◌, ◌^◌, ◌≤◌, ◌<◌}
use mathlib.Core.Path.{◌≡◌, refl, sym, ap, ap₂, subst, ◌∙◌}
use mathlib.Core.Bool.{true, false}
use mathlib.Core.List.{List, [], ◌∷◌}
use mathlib.Core.Option.{Option, none, some}
use mathlib.Core.Logic.{◌⊎◌, inl, inr, ◌≢◌}
use native.Mathlib.Omega.{arith}
use native.Mathlib.Nat.{le_refl, zero-mul, zero-div}
use lib.Dec.{leb, eqb}
use lib.ListN.{length, get_or}
use borrow.Author.Tests.{leb-true, leb-false, eqb-true, eqb-false, lt-ltb, le-leb, lt-leb, eq-eqb, ne_eqb}
use Rattle.blocks.specs.Choice.{pick, both}
use Rattle.blocks.specs.Lists.{any, All, In, here}
use Rattle.blocks.specs.Blocks.{block}
use Rattle.blocks.proofs.BoolLaws.{clash, by_t, both_l, both_r, both_no}
use Rattle.blocks.proofs.PlacingLaws.{none_some}
use Rattle.blocks.proofs.ListLaws.{All-map, first_yes, look, each, any_in_lem, in_any}
use Rattle.model.specs.declared.Entry.{Entry}
use Rattle.model.specs.Model.{covers, covering, within}
use Rattle.model.proofs.ValidLaws.{sorted_ok, covers_lo}
use Rattle.tree.specs.Slots.{slot, Numbering}
use Rattle.tree.specs.Tree.{has, height, fits, Node, tier_order, slots}
use Rattle.tree.proofs.SlotLaws.{node_empty, slot_num, within_up}
use Rattle.tree.proofs.StoreLaws.{within_only}
use Rattle.tree.proofs.HeightLaws.{Low, height_fits, fits_base, fits_order}
use Rattle.tree.proofs.EraseLaws.{shrink, shrunk}
use Rattle.layout.proofs.FieldLaws.{by_field, filled_same, fields_same, at_shift, at_owner, at_filled, at_mark, at_slot}
use Rattle.layout.proofs.NodeLaws.{get_slot, get_filled}
use Rattle.layout.specs.Words.{
  field,
  field_under,
  field_at,
  anchor_word,
  shift_word,
  owner,
  owner_under,
  owner_field,
  filled_of,
  mark_word,
  slot_word,
  node_end,
  place,
  pool_words,
  max_nodes,
  marks_word,
  head_word,
  count_word,
  spare_word,
  anchor_words,
  owner_place,
  filled_place,
  last_place,
  slot_place,
  IsField,
}
use Rattle.layout.specs.Places.{Places, number_in, number_of, render, prune, keep_if}
use Rattle.layout.proofs.RenderLaws.{render_is}
use Rattle.layout.proofs.PlacesLaws.{number_prune}
use Rattle.layout.specs.Pool.{slot_of}
use Rattle.layout.specs.declared.Slot.{Slot}
use Rattle.layout.specs.declared.Slot.TheVariants.{Empty, Reserved, Held, Sibling, Child}
use Rattle.layout.proofs.NumberLaws.{nd, prune_get, number_at, number_of_lem}
use Rattle.layout.proofs.SlotWordLaws.{View, view, slot_empty}
use Rattle.lookup.proofs.WayLaws.{view_child, view_empty, view_held, view_sibling}
use Rattle.erase.specs.Tall.{stays, tall_at, Tall}
use Rattle.erase.proofs.FilledLaws.{filled_none, filled_first, filled_one}

-- a slot's word under another numbering
module _ {n h : ℕ} {l : List Entry} {os : Places} {ws : List ℕ} (w : Tall n h l os ws) where
  abbrev ν : Numbering
  ν = number_in os

  low : All Low l
  low = All-map (λ x o. (o.order_le, o.in_range)) (sorted_ok w.valid)

  pub tall_at_lem : (u b : ℕ) → u ≤ h → any (within (tier_order u) b) l ≡ true →
      (ν u b < n) × (get_or os (ν u b) none ≡ some (nd u b))
  tall_at_lem u b le t =
      let (a, e) = number_at (nd u b) os (w.full (nd u b) (rw (le-leb u h le, t))) in
      (subst (λ (x : ℕ). number_of (nd u b) os < x) w.count a, e)

  pub tall_spot : (m : ℕ) (p : Node) → get_or os m none ≡ some p → m ≡ ν p.tier p.number
  tall_spot m p e = sym (number_of_lem p os m w.once e)

  pub tall_field_lem : (u b f : ℕ) → u ≤ h → any (within (tier_order u) b) l ≡ true → IsField f →
      get_or ws (place (ν u b) f) 0 ≡ field_under l ν h u b f
  tall_field_lem u b f le t lt = let (a, e) = tall_at_lem u b le t in w.node (ν u b) f a lt ∙ rw (e, le-leb u h le, t) refl

  pub tall_slot : (u b o : ℕ) → suc u ≤ h → any (within (tier_order (suc u)) b) l ≡ true → o < slots →
      get_or ws (slot_place (ν (suc u) b) o) 0 ≡ slot l ν u (slots * b + o)
  tall_slot u b o le t lt = get_slot ws (ν (suc u) b) l ν h u b (λ f q. tall_field_lem (suc u) b f le t q) o lt

  pub tall_filled : (u b : ℕ) → suc u ≤ h → any (within (tier_order (suc u)) b) l ≡ true →
      get_or ws (filled_place (ν (suc u) b)) 0 ≡ filled_of (λ o. slot l ν u (slots * b + o))
  tall_filled u b le t = get_filled ws (ν (suc u) b) l ν h u b (λ f q. tall_field_lem (suc u) b f le t q)

  -- entries lie under the head
  pub under : (x : Entry) → In x l → fits h x ≡ true
  under x m = look (height_fits low w.fit) m

  -- where the head's height is the list's, the words are the list's
  pub tall_words : height l ≡ h → ws ≡ render l (prune l os) n
  unfolding has
  tall_words e = render_is l (prune l os) n ws w.size anchor node
    where
      ν' : Numbering
      ν' = number_in (prune l os)

      same : (u b : ℕ) → u ≤ h → any (within (tier_order u) b) l ≡ true → number_in (prune l os) u b ≡ number_in os u b
      same u b le t = number_prune (nd u b) l os (rw (le-leb u (height l) (omega arith), t))

      anchor : (k : ℕ) → k < anchor_words → get_or ws k 0 ≡ anchor_word l (number_in (prune l os)) n k
      anchor zero lt = w.first
      anchor (suc zero) lt = w.head ∙ (sym (slot_num l (number_in os) (number_in (prune l os)) h 0
          (same h 0 (le_refl h))) ∙ ap (λ (x : ℕ). slot l (number_in (prune l os)) x 0) (sym e))
      anchor (suc (suc zero)) lt = w.marks
      anchor (suc (suc (suc zero))) lt = w.last
      anchor (suc (suc (suc (suc k)))) lt = absurd (omega arith)

      node : (m f : ℕ) → m < n → IsField f → get_or ws (place m f) 0 ≡ field_at l (number_in (prune l os))
          (get_or (prune l os) m none) f
      node m f p q = w.node m f p q ∙ (go (get_or os m none) ∙ ap
          (λ (o : Option Node). field_at l (number_in (prune l os)) o f) (sym (prune_get l os m)))
        where
          fields : (u b : ℕ) → u ≤ h → any (within (tier_order u) b) l ≡ true →
              field_under l (number_in os) h u b f ≡ field l (number_in (prune l os)) u b f
          fields u b le t =
              fields_same (shift_word u) (shift_word u) (owner l (number_in (prune l os)) u b)
              (owner_under h (number_in os) u b) (mark_word l (number_in (prune l os)) u b) (mark_word l (number_in os) u b)
              (slot_word l (number_in (prune l os)) u b) (slot_word l (number_in os) u b) refl (owners u b le t)
              (λ _ _. refl)
              (λ o g. sym (slot_num l (number_in os) (number_in (prune l os)) (u - 1) (slots * b + o)
              (same (u - 1) (slots * b + o) (omega arith)))) f q
            where
              owners : (u b : ℕ) → u ≤ h → any (within (tier_order u) b) l ≡ true →
                  pick (eqb u h) 0 (1 + slots * number_in os (suc u) (b / slots) + b % slots) ≡ pick (eqb u (height l))
                  0 (1 + slots * number_in (prune l os) (suc u) (b / slots) + b % slots)
              owners u b le t =
                  by_t (eqb u h) (λ z. rw (e, z))
                  (λ z. let ne : u ≡ h → ⊥ = eqb-false _ _ z in
                  rw (e, z, same (suc u) (b / slots) (omega arith) (within_up l u b t)))

          go : (o : Option Node) → tall_at h l (number_in os) o f ≡ field_at l (number_in (prune l os)) (keep_if l o) f
          go none = refl
          go (some p) =
              by_t (stays h l (number_in os) p)
              (λ t. let t' : both (leb p.tier (height l)) (any (within (tier_order p.tier) p.number) l) ≡
              true = rw e t in
              rw (t, t') (fields p.tier p.number
              (leb-true _ _ (both_l (leb p.tier h) (any (within (tier_order p.tier) p.number) l) t))
              (both_r (leb p.tier h) (any (within (tier_order p.tier) p.number) l) t)))
              (λ t. let t' : both (leb p.tier (height l)) (any (within (tier_order p.tier) p.number) l) ≡
              false = rw e t in rw (t, t'))

pub slot_none : (l : List Entry) (ν : Numbering) (u c : ℕ) → any (within (tier_order u) c) l ≡ false →
    covering l (c * 2 ^ (tier_order u)) ≡ none → slot l ν u c ≡ 0
unfolding slot
slot_none l ν u c t q = rw (t, q)

pub slot_nil : (ν : Numbering) (u c : ℕ) → slot [] ν u c ≡ 0
unfolding slot
slot_nil ν u c = refl

-- no entries
pub tall_none : {n h : ℕ} {os : Places} {ws : List ℕ} → Tall n h [] os ws → ws ≡ render [] (prune [] os) n
tall_none {n} {h} {os} {ws} w = tall_words flat refl
  where
    out : (k : ℕ) (o : Option Node) (f : ℕ) → tall_at k [] (number_in os) o f ≡ 0
    out k none f = refl
    out k (some p) f = rw (both_no (leb p.tier k))

    flat : Tall n 0 [] os ws
    flat = record {
      valid = w.valid;
      small = w.small;
      high = omega arith;
      fit = le_refl 0;
      count = w.count;
      once = w.once;
      full = λ p t. absurd (clash (both_r (leb p.tier 0) false t) refl);
      size = w.size;
      first = w.first;
      head = w.head ∙ (slot_nil (number_in os) h 0 ∙ sym (slot_nil (number_in os) 0 0));
      marks = w.marks;
      last = w.last;
      node = λ m f p q. w.node m f p q ∙ (out h (get_or os m none) f ∙ sym (out 0 (get_or os m none) f));
    }

-- by the head's word
module _ {n h : ℕ} {l : List Entry} {os : Places} {ws : List ℕ} (w : Tall n (suc h) l os ws) {x : ℕ} {k : Slot}
    (r : x ≡ get_or ws head_word 0) (q : k ≡ slot_of x) where
  seen_head : View l (number_in os) (suc h) 0 k
  seen_head = rw (q ∙ ap slot_of (r ∙ w.head)) (view l (number_in os) (suc h) 0 (sorted_ok w.valid))

  not_over : (e : Entry) → In e l → any (within (tier_order (suc h)) 0) l ≡ false → ⊥
  not_over e m t =
      let f : fits (suc h) e ≡ true = under w e m in
      clash (in_any (within (tier_order (suc h)) 0) m (rw (
        lt-ltb e.order (tier_order (suc h)) (omega (arith, fits_order (suc h) e f)),
        eq-eqb _ _ (fits_base (suc h) e f),
      ))) t

  pub head_child : (m : ℕ) → k ≡ Child m → (any (within (tier_order (suc h)) 0) l ≡ true) × (m ≡ number_in os (suc h) 0)
  head_child m e = view_child m seen_head e

  pub head_empty : k ≡ Empty → ws ≡ render l (prune l os) n
  head_empty e = go l w (λ x m. not_over x m (view_empty seen_head e).0)
    where
      go : (l : List Entry) → Tall n (suc h) l os ws → ((x : Entry) → In x l → ⊥) → ws ≡ render l (prune l os) n
      go [] w f = tall_none w
      go (x ∷ l) w f = absurd (f x here)

  pub head_held : (k ≡ Held) ⊎ (k ≡ Reserved) → ⊥
  head_held e = let (x, t, c, b) = view_held seen_head e in
      not_over x (first_yes (covers (0 * 2 ^ (tier_order (suc h)))) (each l (λ x m. m)) c).1 t

  pub head_sibling : (j : ℕ) → k ≡ Sibling j → ⊥
  head_sibling j e = let (x, t, c, b, d) = view_sibling j seen_head e in
      not_over x (first_yes (covers (0 * 2 ^ (tier_order (suc h)))) (each l (λ x m. m)) c).1 t

-- THE HEAD A TIER LOWER
module _ {n h : ℕ} {l : List Entry} {os : Places} {ws : List ℕ} (w : Tall n (suc h) l os ws)
    (there : any (within (tier_order (suc h)) 0) l ≡ true) where
  pub drop_fit : ((d : ℕ) → 0 < d → d < slots → slot l (number_in os) h d ≡ 0) →
      (any (within (tier_order h) 0) l ≡ true) ⊎ (h ≡ 0) → height l ≤ h
  drop_fit z c = shrink l w.valid (low w) (number_in os) h w.fit z c

  pub drop : {ws' : List ℕ} → height l ≤ h → length ws' ≡ length ws → get_or ws' count_word 0 ≡ get_or ws count_word 0 →
      get_or ws' head_word 0 ≡ slot l (number_in os) h 0 → get_or ws' marks_word 0 ≡ get_or ws marks_word 0 →
      get_or ws' spare_word 0 ≡ get_or ws spare_word 0 →
      ((f : ℕ) → IsField f → get_or ws' (place (number_in os (suc h) 0) f) 0 ≡ 0) →
      (any (within (tier_order h) 0) l ≡ true → get_or ws' (owner_place (number_in os h 0)) 0 ≡ 0) →
      ((m f : ℕ) → m < n → IsField f → (m ≡ number_in os (suc h) 0 → ⊥) →
      (any (within (tier_order h) 0) l ≡ true → m ≡ number_in os h 0 → f ≡ owner_field → ⊥) →
      get_or ws' (place m f) 0 ≡ get_or ws (place m f) 0) →
      Tall n h l os ws'
  drop {ws'} fit' len e₀ e₁ e₂ e₃ zeros own rest = record {
    valid = w.valid;
    small = w.small;
    high = omega (arith, w.high);
    fit = fit';
    count = w.count;
    once = w.once;
    full = λ p t. w.full p (rw (
      le-leb p.tier (suc h)
          (let g : p.tier ≤ h = leb-true _ _ (both_l (leb p.tier h)
          (any (within (tier_order p.tier) p.number) l) t) in omega arith),
      both_r (leb p.tier h) (any (within (tier_order p.tier) p.number) l) t,
    ));
    size = len ∙ w.size;
    first = e₀ ∙ w.first;
    head = e₁;
    marks = e₂ ∙ w.marks;
    last = e₃ ∙ w.last;
    node = λ m f p q. by_t (eqb m (number_in os (suc h) 0)) (λ t. at_head m f q (eqb-true _ _ t))
        (λ t. by_t (both (any (within (tier_order h) 0) l) (both (eqb m (number_in os h 0)) (eqb f owner_field)))
        (λ s. at_own m f s) (λ s. rest m f p q (eqb-false _ _ t)
        (λ a b c. clash {b = both (any (within (tier_order h) 0) l) (both (eqb m (number_in os h 0)) (eqb f owner_field))}
        (rw (a, eq-eqb m (number_in os h 0) b, eq-eqb f owner_field c)) s) ∙
        (w.node m f p q ∙ same m f q (eqb-false _ _ t) s (get_or os m none) refl)));
  }
    where
      head_is : get_or os (number_in os (suc h) 0) none ≡ some (nd (suc h) 0)
      head_is = (tall_at_lem w (suc h) 0 (le_refl (suc h)) there).1

      at_head : (m f : ℕ) → IsField f → m ≡ number_in os (suc h) 0 →
          get_or ws' (place m f) 0 ≡ tall_at h l (number_in os) (get_or os m none) f
      at_head m f q e = rw (e, head_is, lt-leb (suc h) h (le_refl (suc h))) (zeros f q)

      at_own : (m f : ℕ) → both (any (within (tier_order h) 0) l) (both (eqb m (number_in os h 0)) (eqb f owner_field)) ≡ true →
          get_or ws' (place m f) 0 ≡ tall_at h l (number_in os) (get_or os m none) f
      at_own m f s =
          let a : any (within (tier_order h) 0) l ≡ true = both_l (any (within (tier_order h) 0) l)
          (both (eqb m (number_in os h 0)) (eqb f owner_field)) s in
          let b : both (eqb m (number_in os h 0)) (eqb f owner_field) ≡ true = both_r (any (within (tier_order h) 0) l)
          (both (eqb m (number_in os h 0)) (eqb f owner_field)) s in
          let m≡ : m ≡ number_in os h 0 = eqb-true _ _ (both_l (eqb m (number_in os h 0)) (eqb f owner_field) b) in
          let f≡ : f ≡ owner_field = eqb-true _ _ (both_r (eqb m (number_in os h 0)) (eqb f owner_field) b) in
          let p : get_or os (number_in os h 0) none ≡ some (nd h 0) = (tall_at_lem w h 0 (omega arith) a).1 in
          rw (m≡, f≡, p, a, le-leb h h (le_refl h)) (own a ∙ sym (at_owner _ _ _ _ ∙ rw (eq-eqb h h refl)))

      in_zero : (u b : ℕ) → height l ≤ u → any (within (tier_order u) b) l ≡ true → b ≡ 0
      in_zero u b le t = let (x, i, r) = any_in_lem (within (tier_order u) b) l t in
          sym (within_only (tier_order u) b x r) ∙ fits_base u x (look (height_fits (low w) le) i)

      same : (m f : ℕ) → IsField f → (m ≡ number_in os (suc h) 0 → ⊥) →
          both (any (within (tier_order h) 0) l) (both (eqb m (number_in os h 0)) (eqb f owner_field)) ≡ false →
          (o : Option Node) → get_or os m none ≡ o → tall_at (suc h) l (number_in os) o f ≡ tall_at h l (number_in os) o f
      same m f q ne s none r = refl
      same m f q ne s (some p) r =
          by_t (any (within (tier_order p.tier) p.number) l)
          (λ t. by_t (leb p.tier h)
          (λ le. rw (t, le, le-leb p.tier (suc h) (let g : p.tier ≤ h = leb-true _ _ le in omega arith))
          (fields t (leb-true _ _ le)))
          (λ gt. by_t (leb p.tier (suc h))
          (λ le. let g : p.tier ≤ suc h = leb-true _ _ le in
          let g' : h < p.tier = leb-false _ _ gt in
          let u : p.tier ≡ suc h = omega arith in
          let b : p.number ≡ 0 = in_zero p.tier p.number (omega arith) t in
          absurd (ne (tall_spot w m p r ∙ ap₂ (number_in os) u b)))
          (λ gt'. rw (gt, gt'))))
          (λ t. rw (t, both_no, both_no))
        where
          owners : any (within (tier_order p.tier) p.number) l ≡ true → p.tier ≤ h →
              both (any (within (tier_order h) 0) l) (both (eqb m (number_in os h 0)) true) ≡ false →
              owner_under (suc h) (number_in os) p.tier p.number ≡ owner_under h (number_in os) p.tier p.number
          owners t le s =
              by_t (eqb p.tier h)
              (λ u. let u≡ : p.tier ≡ h = eqb-true _ _ u in
              let b : p.number ≡ 0 = in_zero p.tier p.number (omega arith) t in
              let t' : any (within (tier_order h) 0) l ≡ true = subst
              (λ (x : ℕ). any (within (tier_order x) 0) l ≡ true) u≡
              (subst (λ (x : ℕ). any (within (tier_order p.tier) x) l ≡ true) b t) in
              absurd (clash {b = both (any (within (tier_order h) 0) l) (both (eqb m (number_in os h 0)) true)}
              (rw (t', eq-eqb m (number_in os h 0) (tall_spot w m p r ∙ ap₂ (number_in os) u≡ b))) s))
              (λ u. rw (u, ne_eqb p.tier (suc h) (omega arith)))

          fields : any (within (tier_order p.tier) p.number) l ≡ true → p.tier ≤ h →
              field_under l (number_in os) (suc h) p.tier p.number f ≡ field_under l (number_in os) h p.tier
              p.number f
          fields t le =
              by_field (λ f. both (any (within (tier_order h) 0) l) (both (eqb m (number_in os h 0)) (eqb f owner_field)) ≡
              false → field_under l (number_in os) (suc h) p.tier p.number f ≡ field_under l (number_in os) h
              p.tier p.number f)
              (λ _. at_shift _ _ _ _ ∙ sym (at_shift _ _ _ _))
              (λ s. at_owner _ _ _ _ ∙ (owners t le s ∙ sym (at_owner _ _ _ _)))
              (λ _. at_filled _ _ _ (slot_word l (number_in os) p.tier p.number) ∙ sym
              (at_filled _ _ _ (slot_word l (number_in os) p.tier p.number)))
              (λ x g _. at_mark _ _ (mark_word l (number_in os) p.tier p.number) _ x g ∙ sym
              (at_mark _ _ (mark_word l (number_in os) p.tier p.number) _ x g))
              (λ o g _. at_slot _ _ _ (slot_word l (number_in os) p.tier p.number) o ∙ sym
              (at_slot _ _ _ (slot_word l (number_in os) p.tier p.number) o)) f q s

-- WHAT THE CODE SEES of the head node n of tier h
module _ {k h : ℕ} {l : List Entry} {os : Places} {ws : List ℕ} (w₀ : Tall k h l os ws) (pos : 1 ≤ h)
    (there₀ : any (within (tier_order h) 0) l ≡ true) {n : ℕ} (num₀ : n ≡ number_in os h 0) where
  up : h ≡ suc (h - 1)
  up = omega arith

  wide : Tall k (suc (h - 1)) l os ws
  wide = subst (λ (x : ℕ). Tall k x l os ws) up w₀

  there₁ : any (within (tier_order (suc (h - 1))) 0) l ≡ true
  there₁ = subst (λ (x : ℕ). any (within (tier_order x) 0) l ≡ true) up there₀

  num₁ : n ≡ number_in os (suc (h - 1)) 0
  num₁ = num₀ ∙ ap (λ (x : ℕ). number_in os x 0) up

  pub under_fits : (last_place n < length ws) × (n < max_nodes) × (n < get_or ws count_word 0)
  under_fits = let a : number_in os h 0 < k = (tall_at_lem w₀ h 0 (le_refl h) there₀).0 in
      (omega (arith, w₀.size), omega (arith, w₀.small), omega (arith, w₀.first))

  under_slot : (o : ℕ) → o < slots → get_or ws (slot_place n o) 0 ≡ slot l (number_in os) (h - 1) o
  under_slot o lt = rw num₁ (tall_slot wide (h - 1) 0 o (le_refl (suc (h - 1))) there₁ lt ∙ ap
      (slot l (number_in os) (h - 1)) (omega arith))

  under_filled : get_or ws (filled_place n) 0 ≡ filled_of (slot l (number_in os) (h - 1))
  under_filled = rw num₁ (tall_filled wide (h - 1) 0 (le_refl (suc (h - 1))) there₁ ∙
      filled_same (slot l (number_in os) (h - 1)) (λ o. slot l (number_in os) (h - 1) (slots * 0 + o))
      (λ o _. ap (slot l (number_in os) (h - 1)) (omega arith)))

  -- not all its slots hold 0
  not_all : ((d : ℕ) → d < slots → slot l (number_in os) (h - 1) d ≡ 0) → ⊥
  not_all z = clash there₁ (node_empty l (number_in os) (h - 1) 0 (sorted_ok w₀.valid) (λ d y. z d (omega arith)))

  -- the head stays
  stay : (height l ≤ h - 1 → ⊥) → ws ≡ render l (prune l os) k
  stay f = by_t (leb (height l) (h - 1)) (λ t. absurd (f (leb-true _ _ t)))
      (λ t. let g : h - 1 < height l = leb-false _ _ t in tall_words w₀ (omega (arith, w₀.fit)))

  pub stay_filled : (get_or ws (filled_place n) 0 ≡ 1 → ⊥) → ws ≡ render l (prune l os) k
  stay_filled f =
      stay (λ le. f (under_filled ∙ filled_first (slot l (number_in os) (h - 1))
      (λ z. not_all (λ d _. by_t (eqb d 0) (λ t. let e : d ≡ 0 = eqb-true _ _ t in rw e z)
      (λ t. let e : d ≡ 0 → ⊥ = eqb-false _ _ t in rest le d (omega arith))))
      (λ d p _. rest le d p)))
    where
      rest : height l ≤ h - 1 → (d : ℕ) → 1 ≤ d → slot l (number_in os) (h - 1) d ≡ 0
      rest le d p = shrunk l w₀.valid (low w₀) (number_in os) (h - 1) le d p

  module _ {x : ℕ} {s : Slot} (r : x ≡ get_or ws (slot_place n 0) 0) (q : s ≡ slot_of x) where
    word_is : x ≡ slot l (number_in os) (h - 1) 0
    word_is = r ∙ under_slot 0 (omega arith)

    seen_0 : View l (number_in os) (h - 1) 0 s
    seen_0 = rw (q ∙ ap slot_of word_is) (view l (number_in os) (h - 1) 0 (sorted_ok w₀.valid))

    pub under_child : (m : ℕ) → s ≡ Child m → (any (within (tier_order (h - 1)) 0) l ≡ true) ×
        (m ≡ number_in os (h - 1) 0) × (last_place m < length ws) × (m ≡ n → ⊥)
    under_child m e =
        let (t, y) = view_child m seen_0 e in
        let a : number_in os (h - 1) 0 < k = (tall_at_lem w₀ (h - 1) 0 (omega arith) t).0 in
        (t, y, omega (arith, w₀.size), λ z. apart t (sym y ∙ (z ∙ num₀)))
      where
        apart : any (within (tier_order (h - 1)) 0) l ≡ true → number_in os (h - 1) 0 ≡ number_in os h 0 → ⊥
        apart t z =
            let d : some (nd (h - 1) 0) ≡ some (nd h 0) = sym (tall_at_lem w₀ (h - 1) 0 (omega arith) t).1 ∙
            (ap (λ (x : ℕ). get_or os x none) z ∙ (tall_at_lem w₀ h 0 (le_refl h) there₀).1) in
            let e : nd (h - 1) 0 ≡ nd h 0 = cc in
            let u : h - 1 ≡ h = ap (λ (p : Node). p.tier) e in
            omega arith

    -- an entry of order 6 or more in slot 0 keeps the head
    pub stay_held : (s ≡ Held) ⊎ (s ≡ Reserved) → (h ≡ 1 → ⊥) → ws ≡ render l (prune l os) k
    stay_held e ne =
        let (y, t, c, b) = view_held seen_0 e in
        let m : In y l = (first_yes (covers (0 * 2 ^ (tier_order (h - 1)))) (each l (λ x m. m)) c).1 in
        stay (λ le.
        let f : fits (h - 1) y ≡ true = look (height_fits (low w₀) le) m in
        clash (in_any (within (tier_order (h - 1)) 0) m
        (rw (
          lt-ltb y.order (tier_order (h - 1)) (omega (arith, fits_order (h - 1) y f)),
          eq-eqb _ _ (fits_base (h - 1) y f),
        ))) t)

    pub not_sibling : (j : ℕ) → s ≡ Sibling j → ⊥
    not_sibling j e =
        let (y, t, c, b, d) = view_sibling j seen_0 e in
        let (cv, m) = first_yes (covers (0 * 2 ^ (tier_order (h - 1)))) (each l (λ x m. m)) c in
        let z : 0 * 2 ^ (tier_order (h - 1)) ≡ 0 = zero-mul (2 ^ (tier_order (h - 1))) in
        let le : y.base ≤ 0 * 2 ^ (tier_order (h - 1)) = covers_lo y (0 * 2 ^ (tier_order (h - 1)))
        (look (sorted_ok w₀.valid) m) cv in
        let y0 : y.base ≡ 0 = omega arith in
        b (ap (block (tier_order (h - 1))) y0 ∙ zero-div (2 ^ (tier_order (h - 1))))

    -- slot 0 is empty, and another is not
    pub stay_empty : s ≡ Empty → get_or ws (filled_place n) 0 ≡ 1 → ws ≡ render l (prune l os) k
    stay_empty e single =
        let (t, c) = view_empty seen_0 e in
        stay (λ le.
        let z : filled_of (slot l (number_in os) (h - 1)) ≡ 0 = filled_none (slot l (number_in os) (h - 1))
        (λ d _. by_t (eqb d 0) (λ f. let y : d ≡ 0 = eqb-true _ _ f in rw y (slot_none l (number_in os) (h - 1) 0 t c))
        (λ f. let y : d ≡ 0 → ⊥ = eqb-false _ _ f in
        shrunk l w₀.valid (low w₀) (number_in os) (h - 1) le d (omega arith))) in
        let y : ◌≡◌ {A = ℕ} 1 0 = sym single ∙ (under_filled ∙ z) in
        omega arith)

    module _ (single : get_or ws (filled_place n) 0 ≡ 1) where
      -- what shows something in slot 0 is alone
      alone : (s ≡ Empty → ⊥) → (d : ℕ) → 1 ≤ d → d < slots → slot l (number_in os) (h - 1) d ≡ 0
      alone ne =
          filled_one (slot l (number_in os) (h - 1)) (sym under_filled ∙ single)
          (λ z. ne (q ∙ (ap slot_of (word_is ∙ z) ∙ slot_empty)))

      lows : (s ≡ Empty → ⊥) → (any (within (tier_order (h - 1)) 0) l ≡ true) ⊎ (h - 1 ≡ 0) → height l ≤ h - 1
      lows ne c = drop_fit wide there₁ (alone ne) c

      pub drop_child : (m : ℕ) → s ≡ Child m → {ws' : List ℕ} → length ws' ≡ length ws →
          ((j : ℕ) → pool_words n ≤ j → j < node_end n → get_or ws' j 0 ≡ 0) →
          (m ≢ n → get_or ws' (owner_place m) 0 ≡ 0) → get_or ws' head_word 0 ≡ x →
          ((j : ℕ) → (pool_words n ≤ j → j < node_end n → ⊥) → j ≢ owner_place m → j ≢ head_word →
          get_or ws' j 0 ≡ get_or ws j 0) → Tall k (h - 1) l os ws'
      drop_child m e {ws'} len gone own head rest =
          let (t, y, _, ne) = under_child m e in
          drop wide there₁ (lows (λ z. clash t (view_empty seen_0 z).0) (inl t)) len (rest count_word (λ p q. omega arith) (omega arith) (omega arith))
          (head ∙ word_is) (rest marks_word (λ p q. omega arith) (omega arith) (omega arith))
          (rest spare_word (λ p q. omega arith) (omega arith) (omega arith))
          (λ f lt. subst (λ (z : ℕ). get_or ws' (place z f) 0 ≡ 0) num₁ (gone (place n f) (omega arith) (omega arith)))
          (λ _. subst (λ (z : ℕ). get_or ws' (owner_place z) 0 ≡ 0) y (own ne))
          (λ i f p lt a b. rest (place i f) (λ c d. a (omega (arith, num₁))) (λ c. b t (omega arith) (omega arith))
          (omega arith))

      pub drop_held : (s ≡ Held) ⊎ (s ≡ Reserved) → h ≡ 1 → {ws' : List ℕ} → length ws' ≡ length ws →
          ((j : ℕ) → pool_words n ≤ j → j < node_end n → get_or ws' j 0 ≡ 0) → get_or ws' head_word 0 ≡ x →
          ((j : ℕ) → (pool_words n ≤ j → j < node_end n → ⊥) → j ≢ head_word → get_or ws' j 0 ≡ get_or ws j 0) →
          Tall k (h - 1) l os ws'
      drop_held e one {ws'} len gone head rest =
          let (y, _, c, _) = view_held seen_0 e in
          drop wide there₁ (lows (λ z. none_some (sym (view_empty seen_0 z).1 ∙ c)) (inr (omega arith))) len
          (rest count_word (λ p q. omega arith) (omega arith)) (head ∙ word_is)
          (rest marks_word (λ p q. omega arith) (omega arith)) (rest spare_word (λ p q. omega arith) (omega arith))
          (λ f lt. subst (λ (z : ℕ). get_or ws' (place z f) 0 ≡ 0) num₁ (gone (place n f) (omega arith) (omega arith)))
          (λ t. absurd (clash t (view_held seen_0 e).1))
          (λ i f p lt a b. rest (place i f) (λ c d. a (omega (arith, num₁))) (omega arith))

module _ {k h : ℕ} {l : List Entry} {os : Places} {ws : List ℕ} (w₀ : Tall k h l os ws) (pos : 1 ≤ h) {x : ℕ}
    {s : Slot} (r : x ≡ get_or ws head_word 0) (q : s ≡ slot_of x) where
  up₁ : suc (h - 1) ≡ h
  up₁ = omega arith

  w₁ : Tall k (suc (h - 1)) l os ws
  w₁ = subst (λ (x : ℕ). Tall k x l os ws) (sym up₁) w₀

  pub top_child : (m : ℕ) → s ≡ Child m → (any (within (tier_order h) 0) l ≡ true) × (m ≡ number_in os h 0)
  top_child m e = let (t, y) = head_child w₁ r q m e in
      (subst (λ (x : ℕ). any (within (tier_order x) 0) l ≡ true) up₁ t, y ∙ ap (λ (x : ℕ). number_in os x 0) up₁)

  pub top_empty : s ≡ Empty → ws ≡ render l (prune l os) k
  top_empty e = head_empty w₁ r q e

  pub top_held : (s ≡ Held) ⊎ (s ≡ Reserved) → ⊥
  top_held e = head_held w₁ r q e

  pub top_sibling : (j : ℕ) → s ≡ Sibling j → ⊥
  top_sibling j e = head_sibling w₁ r q j e

  -- no node is the head
  bare_at : (x : Slot) → s ≡ x → ((m : ℕ) → s ≡ Child m → ⊥) → ws ≡ render l (prune l os) k
  bare_at Empty e f = top_empty e
  bare_at Reserved e f = absurd (top_held (inr e))
  bare_at Held e f = absurd (top_held (inl e))
  bare_at (Sibling j) e f = absurd (top_sibling j e)
  bare_at (Child m) e f = absurd (f m e)

  pub top_bare : ((m : ℕ) → s ≡ Child m → ⊥) → ws ≡ render l (prune l os) k
  top_bare f = bare_at s refl f

pub tall_flat : {k h : ℕ} {l : List Entry} {os : Places} {ws : List ℕ} → Tall k h l os ws → h ≡ 0 →
    ws ≡ render l (prune l os) k
tall_flat w z = tall_words w (omega (arith, w.fit))
