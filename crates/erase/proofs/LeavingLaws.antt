-- Erasing an entry without marks: the fields that change, and the way up.
use Prim.Native.Nat.{ℕ, zero, suc, ◌+◌, ◌*◌, ◌-◌, ◌/◌, ◌%◌, ◌^◌, ◌≤◌, ◌<◌}
use mathlib.Core.Path.{◌≡◌, refl, sym, ap, ap₂, subst, ◌∙◌}
use mathlib.Core.Bool.{true, false}
use mathlib.Core.List.{List}
use mathlib.Core.Option.{Option, none, some}
use mathlib.Core.Logic.{◌⊎◌, inl, inr, ◌≢◌}
use native.Mathlib.Omega.{arith}
use native.Mathlib.Nat.{le_refl, zero-add, zero-div, lt_of_mul-lt-mul_right}
use lib.Dec.{leb, ltb, eqb}
use lib.ListN.{length, get_or}
use borrow.Author.Tests.{leb-true, leb-false, eqb-true, eqb-false, ltb-true, ltb-false, le-leb, lt-leb, eq-eqb, ne_eqb}
use Rattle.blocks.specs.Choice.{pick}
use Rattle.blocks.specs.Lists.{any, All, In}
use Rattle.blocks.specs.Blocks.{block}
use Rattle.blocks.proofs.BoolLaws.{clash, by_t, both_l, both_r, both_no, either_yes}
use Rattle.blocks.proofs.ListLaws.{All-map, All-without, any_split, first_no, look, each, any_in_lem}
use Rattle.blocks.proofs.BlockLaws.{block_up, block_at, block_mono}
use Rattle.blocks.proofs.BitLaws.{bits_same}
use Rattle.model.specs.declared.Entry.{Entry}
use Rattle.model.specs.Model.{EntryOk, Valid, covers, covering, within, has_mark, marks_of, erase}
use Rattle.model.specs.ByBlock.{clear}
use Rattle.model.proofs.RangeLaws.{Room, Apart, Inside, apart_up, clear_apart}
use Rattle.model.proofs.ValidLaws.{
  room_some,
  unique,
  covers_self,
  covers_lo,
  covers_hi,
  sorted_ok,
  erase_clear,
  erase_valid,
}
use Rattle.tree.specs.Slots.{slot, Numbering}
use Rattle.tree.specs.Tree.{slot_mark, has, height, fits, Node, tier_order, slots, top_tier}
use Rattle.tree.proofs.StoreLaws.{within_only}
use Rattle.tree.proofs.HeightLaws.{height_fits, fits_base, fits_order, height_most}
use Rattle.tree.proofs.SlotLaws.{tier_up, node_empty, empty_node, within_up, zero_within, zero_covering}
use Rattle.tree.proofs.EraseLaws.{clear_slot_apart, clear_slot_inside, clear_slot_path, height_clear}
use Rattle.layout.proofs.FieldLaws.{by_field, filled_same, under_shift, under_owner, under_filled, under_mark, under_slot}
use Rattle.layout.proofs.NodeLaws.{get_owner, get_filled}
use Rattle.layout.specs.Words.{
  field_at,
  field_under,
  field_slot,
  filled_field,
  filled_of,
  slot_word,
  node_end,
  place,
  pool_words,
  max_nodes,
  marks_word,
  head_word,
  count_word,
  spare_word,
  owner_place,
  filled_place,
  last_place,
  slot_place,
  IsField,
}
use Rattle.layout.proofs.OwnerLaws.{parent}
use Rattle.layout.specs.WellFormed.{WellFormed, num}
use Rattle.layout.proofs.NumberLaws.{nd}
use Rattle.lookup.specs.Views.{AtNode, Holds, Stands}
use Rattle.lookup.proofs.WordLaws.{node_at}
use Rattle.lookup.proofs.StandLaws.{covers_slot, after_is, wid_fits}
use Rattle.marks.proofs.MarkLaws.{entry_in, entry_covers, one_apart, mark_old}
use Rattle.erase.proofs.FilledLaws.{filled_none, filled_zero, filled_run, filled_under}
use Rattle.erase.specs.Tall.{tall_at, Tall}
use Rattle.erase.specs.Leaving.{cut_at, Cut, Unmarked}
use Rattle.tree.proofs.NodeListLaws.{has_within, has_tier, has_low}
use Rattle.layout.proofs.RenderWordLaws.{pool_length_lem, place_of, pool_anchor, pool_node}

-- field f of a node tells of its slot o
abbrev pub Tells : ℕ → ℕ → Type 0
Tells o f = (f ≡ field_slot o) ⊎ (f ≡ filled_field)

by_tells : (o f : ℕ) → Tells o f → (f ≡ field_slot o → ⊥) → (f ≡ filled_field → ⊥) → ⊥
by_tells o f (inl z) a b = a z
by_tells o f (inr z) a b = b z

module _ (l : List Entry) (val : Valid l) (i : ℕ) (e : Entry) (q : covering l i ≡ some e) (lone : e.marks ≡ 0) where
  is_clear : erase l i ≡ clear l i e.order
  is_clear = erase_clear i val q

  no_mark : (m : ℕ) → has_mark m e ≡ false
  no_mark m = rw lone (ne_eqb (0 / 2 ^ m % 2) 1 (omega (arith, zero-div (2 ^ m))))

  pub marks_stay : (m u c : ℕ) → slot_mark (erase l i) m u c ≡ slot_mark l m u c
  marks_stay m u c = sym (mark_old l val i e q m u c ∙ rw (no_mark m, both_no))

  pub anchor_marks : marks_of l ≡ marks_of (erase l i)
  anchor_marks = rw (one 0, one 1, one 2)
    where
      one : (m : ℕ) → any (has_mark m) l ≡ any (has_mark m) (erase l i)
      one m = one_apart l val i e q (has_mark m) ∙ rw (no_mark m)

  room : All (Room i e.order) l
  room = room_some i val q

  pub slot_stays : (ν : Numbering) (u c : ℕ) → Apart i e.order (tier_order u) c →
      slot (erase l i) ν u c ≡ slot l ν u c
  slot_stays ν u c a = rw is_clear (clear_slot_apart i e.order l room ν ν u c a (λ _. refl))

  pub slot_goes : (ν : Numbering) (u c : ℕ) → Inside i e.order (tier_order u) c → slot (erase l i) ν u c ≡ 0
  slot_goes ν u c a = rw is_clear (clear_slot_inside i e.order l room ν u c a)

  pub slot_path : (ν : Numbering) (u : ℕ) → any (within (tier_order u) (block (tier_order u) i)) (erase l i) ≡ false →
      slot (erase l i) ν u (block (tier_order u) i) ≡ 0
  slot_path ν u t = rw is_clear (clear_slot_path i e.order l room ν u ∙ rw (rw is_clear at t))

  pub within_stays : (u b : ℕ) → Apart i e.order (tier_order u) b →
      any (within (tier_order u) b) (erase l i) ≡ any (within (tier_order u) b) l
  within_stays u b a = rw is_clear (clear_apart i e.order l (within (tier_order u) b) (tier_order u) b
      (within_only (tier_order u) b) a)

  within_was : (u b : ℕ) → any (within (tier_order u) b) (erase l i) ≡ true → any (within (tier_order u) b) l ≡ true
  within_was u b t = sym (any_split (within (tier_order u) b) (covers i) l) ∙ rw (t, either_yes)

  slot_kept : (ν : Numbering) (u c : ℕ) → any (within (tier_order u) c) (erase l i) ≡ true →
      slot (erase l i) ν u c ≡ slot l ν u c
  unfolding slot
  slot_kept ν u c t = rw (t, within_was u c t)

  fields_same : (h : ℕ) (ν : Numbering) (u b f : ℕ) → IsField f → ((o : ℕ) → o < slots → Tells o f →
      slot (erase l i) ν (u - 1) (slots * b + o) ≡ slot l ν (u - 1) (slots * b + o)) →
      field_under (erase l i) ν h u b f ≡ field_under l ν h u b f
  fields_same h ν u b =
      by_field (λ f. ((o : ℕ) → o < slots → Tells o f →
      slot (erase l i) ν (u - 1) (slots * b + o) ≡ slot l ν (u - 1) (slots * b + o)) →
      field_under (erase l i) ν h u b f ≡ field_under l ν h u b f)
      (λ _. under_shift (erase l i) ν u b h ∙ sym (under_shift l ν u b h))
      (λ _. under_owner (erase l i) ν u b h ∙ sym (under_owner l ν u b h))
      (λ s. under_filled (erase l i) ν u b h ∙ (filled_same (slot_word l ν u b) (slot_word (erase l i) ν u b)
      (λ o g. s o g (inr refl)) ∙ sym (under_filled l ν u b h)))
      (λ x g _. under_mark (erase l i) ν u b h x g ∙ (bits_same (λ j. slot_mark (erase l i) x (u - 1) (slots * b + j))
      (λ j. slot_mark l x (u - 1) (slots * b + j)) slots (λ j _. marks_stay x (u - 1) (slots * b + j)) ∙ sym
      (under_mark l ν u b h x g)))
      (λ o g s. under_slot (erase l i) ν u b h o ∙ (s o g (inl refl) ∙ sym (under_slot l ν u b h o)))

  -- a node off the entry's path lies apart from its run
  node_apart : (u b : ℕ) → any (within (tier_order u) b) l ≡ true →
      (e.order < tier_order u → b ≡ block (tier_order u) i → ⊥) → Apart i e.order (tier_order u) b
  node_apart u b t ne =
      by_t (ltb e.order (tier_order u))
      (λ s. let g : e.order < tier_order u = ltb-true _ _ s in apart_up i e.order (tier_order u) b (omega arith)
      (ne g))
      (λ s. let g : tier_order u ≤ e.order = ltb-false _ _ s in λ y z r.
      let (x, m, k) = any_in_lem (within (tier_order u) b) l t in
      let o : x.order < tier_order u = ltb-true _ _ (both_l (ltb x.order (tier_order u)) _ k) in
      let c : covers x.base e ≡ true = eq-eqb _ _ (block_up {j = tier_order u} {k = e.order} x.base y g
      (within_only (tier_order u) b x k ∙ sym z) ∙ (r ∙ eqb-true _ _ (entry_covers l val i e q))) in
      let w : x.order ≡ e.order = ap (λ (z : Entry). z.order)
      (unique x.base val m (entry_in l val i e q) (covers_self x) c) in
      omega arith)

  slot_apart : (u b d : ℕ) → 0 < u → Apart i e.order (tier_order u) b → d / slots ≡ b →
      Apart i e.order (tier_order (u - 1)) d
  slot_apart u b d pos a z y w = a y (let s : suc (u - 1) ≡ u = omega arith in
      ap (λ (x : ℕ). block (tier_order x) y) (sym s) ∙ (tier_up (u - 1) y ∙ (ap (λ (x : ℕ). x / slots) w ∙ z)))

  pub off_path : (h : ℕ) (ν : Numbering) (u b f : ℕ) → 0 < u → any (within (tier_order u) b) l ≡ true →
      (e.order < tier_order u → b ≡ block (tier_order u) i → ⊥) → IsField f →
      field_under (erase l i) ν h u b f ≡ field_under l ν h u b f
  off_path h ν u b f pos t ne lt =
      fields_same h ν u b f lt (λ o g _. slot_stays ν (u - 1) (slots * b + o)
      (slot_apart u b (slots * b + o) pos (node_apart u b t ne) (omega arith)))

  pub off_tall : (h : ℕ) (ν : Numbering) (u b f : ℕ) → 0 < u → u ≤ h → any (within (tier_order u) b) l ≡ true →
      (e.order < tier_order u → b ≡ block (tier_order u) i → ⊥) → tall_at h (erase l i) ν (some (nd u b)) f ≡ field_under
      (erase l i) ν h u b f
  off_tall h ν u b f pos le t ne = rw (le-leb u h le, within_stays u b (node_apart u b t ne), t)

  -- a node on the path, above the entry's: only the path's slot may change, and with it the count
  pub on_path_lem : (h : ℕ) (ν : Numbering) (u f : ℕ) → 0 < u → e.order ≤ tier_order (u - 1) → IsField f →
      (Tells (block (tier_order (u - 1)) i % slots) f → any (within (tier_order (u - 1)) (block (tier_order (u - 1)) i))
      (erase l i) ≡ true) →
      field_under (erase l i) ν h u (block (tier_order u) i) f ≡ field_under l ν h u (block (tier_order u) i) f
  on_path_lem h ν u f pos le lt path =
      fields_same h ν u (block (tier_order u) i) f lt (λ o g f≡.
      let s : suc (u - 1) ≡ u = omega arith in
      let y : block (tier_order u) i ≡ block (tier_order (u - 1)) i / slots = ap (λ (x : ℕ). block (tier_order x) i)
      (sym s) ∙ tier_up (u - 1) i in
      by_t (eqb (slots * block (tier_order u) i + o) (block (tier_order (u - 1)) i))
      (λ t. let d : slots * block (tier_order u) i + o ≡ block (tier_order (u - 1)) i = eqb-true _ _ t in
      let o≡ : o ≡ block (tier_order (u - 1)) i % slots = omega arith in
      rw d (slot_kept ν (u - 1) (block (tier_order (u - 1)) i) (path (subst (λ (x : ℕ). Tells x f) o≡ f≡))))
      (λ t. slot_stays ν (u - 1) (slots * block (tier_order u) i + o)
      (apart_up i e.order (tier_order (u - 1)) (slots * block (tier_order u) i + o) le (eqb-false _ _ t))))

  -- where the path's slot is emptied, the count is one less
  pub path_counted : (h : ℕ) (ν : Numbering) (u : ℕ) → e.order ≤ tier_order u →
      any (within (tier_order u) (block (tier_order u) i)) l ≡ true →
      any (within (tier_order u) (block (tier_order u) i)) (erase l i) ≡ false →
      field_under (erase l i) ν h (suc u) (block (tier_order (suc u)) i) filled_field + 1 ≡
      field_under l ν h (suc u) (block (tier_order (suc u)) i) filled_field
  path_counted h ν u le was gone =
      ap (λ (x : ℕ). x + 1) (filled_under (erase l i) ν h u (block (tier_order (suc u)) i)) ∙
      (filled_run (λ o. slot l ν u (slots * block (tier_order (suc u)) i + o))
      (λ o. slot (erase l i) ν u (slots * block (tier_order (suc u)) i + o)) (block (tier_order u) i % slots) 1
      (omega arith)
      (λ o lt out. slot_stays ν u (slots * block (tier_order (suc u)) i + o)
      (apart_up i e.order (tier_order u) (slots * block (tier_order (suc u)) i + o) le
      (λ z. out (omega (arith, y)) (omega (arith, y)))))
      (λ t lt z. clash was (zero_within l ν u (block (tier_order u) i) (sorted_ok val) (rw (at_path t lt) at z)))
      (λ t lt. rw (at_path t lt) (slot_path ν u gone))
      ∙ sym (filled_under l ν h u (block (tier_order (suc u)) i)))
    where
      y : block (tier_order (suc u)) i ≡ block (tier_order u) i / slots
      y = tier_up u i

      at_path : (t : ℕ) → t < 1 →
          slots * block (tier_order (suc u)) i + (block (tier_order u) i % slots + t) ≡ block (tier_order u) i
      at_path t lt = omega (arith, y)

  -- what stays at one tier stays above
  pub path_up : (v d : ℕ) → any (within (tier_order v) (block (tier_order v) i)) (erase l i) ≡ true →
      any (within (tier_order (d + v)) (block (tier_order (d + v)) i)) (erase l i) ≡ true
  path_up v zero t = rw zero-add t
  path_up v (suc d) t =
      let s : suc d + v ≡ suc (d + v) = omega arith in
      rw s (subst (λ (b : ℕ). any (within (tier_order (suc (d + v))) b) (erase l i) ≡ true) (sym (tier_up (d + v) i))
      (within_up (erase l i) (d + v) (block (tier_order (d + v)) i) (path_up v d t)))

  pub path_above : (v u : ℕ) → v ≤ u → any (within (tier_order v) (block (tier_order v) i)) (erase l i) ≡ true →
      any (within (tier_order u) (block (tier_order u) i)) (erase l i) ≡ true
  path_above v u le t = let s : u - v + v ≡ u = omega arith in
      subst (λ (x : ℕ). any (within (tier_order x) (block (tier_order x) i)) (erase l i) ≡ true) s (path_up v (u - v) t)

  pub head_zero : block (tier_order (height l)) i ≡ 0
  head_zero =
      let f : fits (height l) e ≡ true = look (height_fits
      (All-map (λ x o. (o.order_le, o.in_range)) (sorted_ok val)) (le_refl (height l))) (entry_in l val i e q)
      in
      block_up {j = e.order} {k = tier_order (height l)} i e.base (omega (arith, fits_order (height l) e f))
      (eqb-true _ _ (entry_covers l val i e q)) ∙ fits_base (height l) e f

-- THE WAY UP
module _ {ws₀ : List ℕ} (s : WellFormed ws₀) {i v n : ℕ} {ws : List ℕ} (c : Cut s i v n ws) where
  abbrev N : Numbering
  N = num s

  pub cut_fits : (last_place n < length ws) × (n < max_nodes) × (v < top_tier) × (n < get_or ws count_word 0)
  cut_fits =
      let h : n < s.n = (node_at s c.at_node_lem).0 in
      let t : suc v ≤ top_tier = has_low s.list (suc v) (block (tier_order (suc v)) i) c.at_node_lem.there
      in
      (omega (arith, c.size), omega (arith, s.most), omega arith, omega (arith, c.anchor count_word (omega arith)))

  cut_field : (f : ℕ) → IsField f → get_or ws (place n f) 0 ≡ field_under (erase s.list i) (num s)
      (height s.list) (suc v) (block (tier_order (suc v)) i) f
  cut_field f lt = let (a, b) = node_at s c.at_node_lem in
      c.node n f a lt ∙ rw (b, lt-leb (suc v) v (le_refl (suc v)), le-leb (suc v) (suc v) (le_refl (suc v))) refl

  pub cut_owner : get_or ws (owner_place n) 0 ≡ pick (eqb (suc v) (height s.list)) 0
      (1 + slots * num s (suc (suc v)) (block (tier_order (suc v)) i / slots) + block (tier_order (suc v)) i % slots)
  cut_owner = get_owner ws n (erase s.list i) (num s) (height s.list) v (block (tier_order (suc v)) i) cut_field

  ok' : All EntryOk (erase s.list i)
  ok' = sorted_ok (erase_valid i s.valid)

  cut_count : get_or ws (filled_place n) 0 ≡ filled_of (λ o. slot (erase s.list i) (num s) v
      (slots * block (tier_order (suc v)) i + o))
  cut_count = get_filled ws n (erase s.list i) (num s) (height s.list) v (block (tier_order (suc v)) i) cut_field

  pub cut_empty : get_or ws (filled_place n) 0 ≡ 0 →
      any (within (tier_order (suc v)) (block (tier_order (suc v)) i)) (erase s.list i) ≡ false
  cut_empty z =
      node_empty (erase s.list i) (num s) v (block (tier_order (suc v)) i) ok'
      (λ d y. let e : slots * block (tier_order (suc v)) i + d % slots ≡ d = omega arith in
      subst (λ (x : ℕ). slot (erase s.list i) (num s) v x ≡ 0) e
      (filled_zero (λ o. slot (erase s.list i) (num s) v (slots * block (tier_order (suc v)) i + o))
      (sym cut_count ∙ z) (d % slots) (omega arith)))

  pub cut_filled : (get_or ws (filled_place n) 0 ≡ 0 → ⊥) →
      any (within (tier_order (suc v)) (block (tier_order (suc v)) i)) (erase s.list i) ≡ true
  cut_filled f =
      by_t (any (within (tier_order (suc v)) (block (tier_order (suc v)) i)) (erase s.list i)) (λ t. t)
      (λ t. absurd (f (cut_count ∙ filled_none (λ o. slot (erase s.list i) (num s) v
      (slots * block (tier_order (suc v)) i + o)) (λ j lt. empty_node (erase s.list i) (num s) v
      (block (tier_order (suc v)) i) t none_over (slots * block (tier_order (suc v)) i + j) (omega arith)))))
    where
      none_over : All (λ x. tier_order (suc v) ≤ x.order →
          covers (block (tier_order (suc v)) i * 2 ^ (tier_order (suc v))) x ≡ true → ⊥) (erase s.list i)
      none_over =
          All-map (λ x (k : (covers i x ≡ false) × In x s.list) o t.
          clash (eq-eqb _ _ (block_up {j = tier_order (suc v)} {k = x.order} i
          (block (tier_order (suc v)) i * 2 ^ (tier_order (suc v))) o
          (sym (block_at (tier_order (suc v)) (block (tier_order (suc v)) i))) ∙ eqb-true _ _ t)) k.0)
          (All-without (covers i) (each s.list (λ x m. m)))

  -- the words of the new list under the old head
  make : {ws' : List ℕ} → length ws' ≡ length ws → get_or ws' count_word 0 ≡ get_or ws count_word 0 →
      get_or ws' head_word 0 ≡ slot (erase s.list i) (num s) (height s.list) 0 →
      get_or ws' marks_word 0 ≡ get_or ws marks_word 0 →
      get_or ws' spare_word 0 ≡ get_or ws spare_word 0 →
      ((m f : ℕ) → m < s.n → IsField f → get_or ws' (place m f) 0 ≡ tall_at (height s.list) (erase s.list i)
      (num s) (get_or s.places m none) f) → Tall s.n (height s.list) (erase s.list i) s.places ws'
  unfolding has
  make len e₀ e₁ e₂ e₃ node' = record {
    valid = erase_valid i s.valid;
    small = s.most;
    high = height_most s.list;
    fit = height_clear (covers i) s.list;
    count = s.placed.size;
    once = s.placed.once;
    full = λ p t. s.placed.full p (rw (both_l (leb p.tier (height s.list))
        (any (within (tier_order p.tier) p.number) (erase s.list i)) t)
        (within_was s.list s.valid i c.entry c.covering_is c.unmarked p.tier p.number
        (both_r (leb p.tier (height s.list)) (any (within (tier_order p.tier) p.number)
        (erase s.list i)) t)));
    size = len ∙ c.size;
    first = e₀ ∙ c.anchor 0 (omega arith);
    head = e₁;
    marks = e₂ ∙ (c.anchor 2 (omega arith) ∙ anchor_marks s.list s.valid i c.entry c.covering_is
        c.unmarked);
    last = e₃ ∙ c.anchor 3 (omega arith);
    node = node';
  }

  -- what stands at a number, by its place
  was_there : (u b : ℕ) → has s.list u b ≡ true → any (within (tier_order u) b) s.list ≡ true
  unfolding has
  was_there u b t = both_r (leb u (height s.list)) (any (within (tier_order u) b) s.list) t

  -- (1) something is left in the node: all is done
  pub cut_done : any (within (tier_order (suc v)) (block (tier_order (suc v)) i)) (erase s.list i) ≡ true →
      Tall s.n (height s.list) (erase s.list i) s.places ws
  cut_done left = make refl refl head refl refl (λ m f p lt. c.node m f p lt ∙ go m f lt (get_or s.places m none)
      refl)
    where
      top : suc v ≤ height s.list
      top = (has_tier s.list (suc v) (block (tier_order (suc v)) i) c.at_node_lem.there).1

      head : get_or ws head_word 0 ≡ slot (erase s.list i) (num s) (height s.list) 0
      head =
          let z : block (tier_order (height s.list)) i ≡ 0 = head_zero s.list s.valid i c.entry
          c.covering_is c.unmarked in
          let t : any (within (tier_order (height s.list)) 0) (erase s.list i) ≡ true = subst
          (λ (b : ℕ). any (within (tier_order (height s.list)) b) (erase s.list i) ≡ true) z
          (path_above s.list s.valid i c.entry c.covering_is c.unmarked (suc v) (height s.list)
          top left) in
          c.anchor 1 (omega arith) ∙ sym (slot_kept s.list s.valid i c.entry c.covering_is c.unmarked
          (num s) (height s.list) 0 t)

      go : (m f : ℕ) → IsField f → (o : Option Node) → get_or s.places m none ≡ o →
          cut_at s.list (erase s.list i) (num s) v o f ≡ tall_at (height s.list) (erase s.list i) (num s) o
          f
      go m f lt none r = refl
      go m f lt (some p) r =
          let (y, t) = place_of s m p r in
          let (pos, le) = has_tier s.list p.tier p.number t in
          let a : any (within (tier_order p.tier) p.number) s.list ≡ true = was_there p.tier p.number t
          in
          by_t (leb p.tier v) (λ g. rw g)
          (λ g. let g' : v < p.tier = leb-false _ _ g in
          by_t (leb p.tier (suc v))
          (λ k. rw (g, k) (by_t (eqb p.number (block (tier_order p.tier) i))
          (λ b. let b' : p.number ≡ block (tier_order p.tier) i = eqb-true _ _ b in
          let a' : any (within (tier_order p.tier) p.number) (erase s.list i) ≡ true = subst
          (λ (x : ℕ). any (within (tier_order p.tier) x) (erase s.list i) ≡ true) (sym b')
          (path_above s.list s.valid i c.entry c.covering_is c.unmarked (suc v) p.tier g'
          left) in
          rw (a', le-leb p.tier (height s.list) le))
          (λ b. sym (off_tall s.list s.valid i c.entry c.covering_is c.unmarked (height s.list)
          (num s) p.tier p.number f pos le a (λ _ z. eqb-false _ _ b z)))))
          (λ k. let k' : suc v < p.tier = leb-false _ _ k in
          rw (g, k) (by_t (eqb p.number (block (tier_order p.tier) i))
          (λ b. let b' : p.number ≡ block (tier_order p.tier) i = eqb-true _ _ b in
          let a' : any (within (tier_order p.tier) p.number) (erase s.list i) ≡ true = subst
          (λ (x : ℕ). any (within (tier_order p.tier) x) (erase s.list i) ≡ true) (sym b')
          (path_above s.list s.valid i c.entry c.covering_is c.unmarked (suc v) p.tier g'
          left) in
          rw (a', le-leb p.tier (height s.list) le, b')
          (sym (on_path_lem s.list s.valid i c.entry c.covering_is c.unmarked (height s.list)
          (num s) p.tier f pos (omega (arith, c.low)) lt
          (λ _. path_above s.list s.valid i c.entry c.covering_is c.unmarked (suc v)
          (p.tier - 1) (omega arith) left))))
          (λ b. sym (off_tall s.list s.valid i c.entry c.covering_is c.unmarked (height s.list)
          (num s) p.tier p.number f pos le a (λ _ z. eqb-false _ _ b z) ∙ off_path s.list s.valid
          i c.entry c.covering_is c.unmarked (height s.list) (num s) p.tier p.number f pos a
          (λ _ z. eqb-false _ _ b z) lt)))))

  module _ (gone : any (within (tier_order (suc v)) (block (tier_order (suc v)) i)) (erase s.list i) ≡ false) where
    -- a node of the tier that is not the path's
    beside : (m f : ℕ) → IsField f → (m ≡ n → ⊥) → (p : Node) → get_or s.places m none ≡ some p →
        p.tier ≡ suc v → field_under (erase s.list i) (num s) (height s.list) p.tier p.number f ≡ tall_at
        (height s.list) (erase s.list i) (num s) (some p) f
    beside m f lt ne p r u =
        let (y, t) = place_of s m p r in
        let (pos, le) = has_tier s.list p.tier p.number t in
        sym (off_tall s.list s.valid i c.entry c.covering_is c.unmarked (height s.list) (num s)
        p.tier p.number f pos le (was_there p.tier p.number t)
        (λ _ z. ne (y ∙ (ap₂ (num s) u (z ∙ ap (λ (x : ℕ). block (tier_order x) i) u) ∙ sym
        c.at_node_lem.number))))

    none_left : (m f : ℕ) → m ≡ n → tall_at (height s.list) (erase s.list i) (num s) (get_or s.places m none)
        f ≡ 0
    none_left m f e = rw (e, (node_at s c.at_node_lem).1, gone, both_no)

    -- (2) the head itself is empty
    pub cut_top : {ws' : List ℕ} → get_or ws (owner_place n) 0 ≡ 0 → length ws' ≡ length ws →
        ((j : ℕ) → pool_words n ≤ j → j < node_end n → get_or ws' j 0 ≡ 0) → get_or ws' head_word 0 ≡ 0 →
        ((j : ℕ) → (pool_words n ≤ j → j < node_end n → ⊥) → j ≢ head_word → get_or ws' j 0 ≡ get_or ws j 0) →
        Tall s.n (height s.list) (erase s.list i) s.places ws'
    cut_top {ws'} own len zeros head rest =
        make len (rest count_word (λ p q. omega arith) (omega arith)) (head ∙ sym top_slot)
        (rest marks_word (λ p q. omega arith) (omega arith)) (rest spare_word (λ p q. omega arith) (omega arith))
        (λ m f p lt. by_t (eqb m n) (λ t. let e : m ≡ n = eqb-true _ _ t in
        zeros (place m f) (omega arith) (omega arith) ∙ sym (none_left m f e))
        (λ t. let ne : m ≡ n → ⊥ = eqb-false _ _ t in rest (place m f) (λ a b. ne (omega arith)) (omega arith) ∙
        (c.node m f p lt ∙ go m f lt ne (get_or s.places m none) refl)))
      where
        top : suc v ≡ height s.list
        top =
            by_t (eqb (suc v) (height s.list)) (λ t. eqb-true _ _ t)
            (λ t. let w : 0 ≡ 1 + slots * num s (suc (suc v)) (block (tier_order (suc v)) i / slots) + block
            (tier_order (suc v)) i % slots = sym own ∙ (cut_owner ∙ rw t refl) in absurd (omega arith))

        top_slot : slot (erase s.list i) (num s) (height s.list) 0 ≡ 0
        top_slot =
            let z : block (tier_order (height s.list)) i ≡ 0 = head_zero s.list s.valid i c.entry
            c.covering_is c.unmarked in
            subst (λ (b : ℕ). slot (erase s.list i) (num s) (height s.list) b ≡ 0) z
            (slot_path s.list s.valid i c.entry c.covering_is c.unmarked (num s) (height s.list)
            (subst (λ (u : ℕ). any (within (tier_order u) (block (tier_order u) i)) (erase s.list i) ≡ false) top
            gone))

        go : (m f : ℕ) → IsField f → (m ≡ n → ⊥) → (o : Option Node) → get_or s.places m none ≡ o →
            cut_at s.list (erase s.list i) (num s) v o f ≡ tall_at (height s.list) (erase s.list i) (num s)
            o f
        go m f lt ne none r = refl
        go m f lt ne (some p) r =
            let (pos, le) = has_tier s.list p.tier p.number (place_of s m p r).1 in
            by_t (leb p.tier v) (λ g. rw g)
            (λ g. let g' : v < p.tier = leb-false _ _ g in
            let u : p.tier ≡ suc v = omega (arith, top) in
            rw (g, le-leb p.tier (suc v) (omega arith)) (beside m f lt ne p r u))

    -- (3) the node is freed, and its slot in the node over it is 0
    module _ (p : ℕ) (r : p ≡ get_or ws (owner_place n) 0) (ne₀ : p ≡ 0 → ⊥) where
      not_top : suc v ≡ height s.list → ⊥
      not_top z = ne₀ (r ∙ (cut_owner ∙ rw (eq-eqb (suc v) (height s.list) z) refl))

      owner_is : p ≡ 1 + slots * num s (suc (suc v)) (block (tier_order (suc v)) i / slots) + block (tier_order (suc v))
          i % slots
      owner_is = r ∙ (cut_owner ∙ rw (ne_eqb (suc v) (height s.list) not_top) refl)

      pub over : AtNode s.list (num s) (suc v) (block (tier_order (suc (suc v))) i) ((p - 1) / slots)
      over =
          let y : block (tier_order (suc (suc v))) i ≡ block (tier_order (suc v)) i / slots = tier_up (suc v) i in
          let o = owner_is in
          record {
            there = rw y (parent s.list (suc v) (block (tier_order (suc v)) i) c.at_node_lem.there
                (let t : suc v ≤ height s.list = (has_tier s.list (suc v) (block (tier_order (suc v)) i)
                c.at_node_lem.there).1 in let z : suc v ≡ height s.list → ⊥ = not_top in omega arith));
            number = rw y
                (omega arith);
          }

      pub over_slot : (p - 1) % slots ≡ block (tier_order (suc v)) i % slots
      over_slot = let o = owner_is in omega arith

      pub over_fits : (last_place ((p - 1) / slots) < length ws) × ((p - 1) / slots ≡ n → ⊥)
      over_fits = (
        omega (arith, (node_at s over).0, c.size),
        λ z. let d : some (nd (suc (suc v)) (block (tier_order (suc (suc v))) i)) ≡ some
            (nd (suc v) (block (tier_order (suc v)) i)) = sym (node_at s over).1 ∙
            (ap (λ (x : ℕ). get_or s.places x none) z ∙ (node_at s c.at_node_lem).1) in
            let e : nd (suc (suc v)) (block (tier_order (suc (suc v))) i) ≡ nd (suc v) (block (tier_order (suc v)) i) =
            cc
            in
            let u : suc (suc v) ≡ suc v = ap (λ (p : Node). p.tier) e in omega arith,
      )

      -- the count of the node over it, which is one less without it
      over_filled : field_under (erase s.list i) (num s) (height s.list) (suc (suc v))
          (block (tier_order (suc (suc v))) i) filled_field + 1 ≡ get_or ws (filled_place ((p - 1) / slots)) 0
      over_filled =
          path_counted s.list s.valid i c.entry c.covering_is c.unmarked (height s.list) (num s)
          (suc v) (omega (arith, c.low)) (was_there (suc v) (block (tier_order (suc v)) i) c.at_node_lem.there) gone ∙
          sym (c.node ((p - 1) / slots) filled_field (node_at s over).0 (omega arith) ∙ rw (
            (node_at s over).1,
            lt-leb (suc (suc v)) v (omega arith),
            lt-leb (suc (suc v)) (suc v) (le_refl (suc (suc v))),
          ) refl)

      pub over_counted : 1 ≤ get_or ws (filled_place ((p - 1) / slots)) 0
      over_counted = omega (arith, over_filled)

      pub cut_next : {ws' : List ℕ} → length ws' ≡ length ws →
          ((j : ℕ) → pool_words n ≤ j → j < node_end n → get_or ws' j 0 ≡ 0) →
          get_or ws' (slot_place ((p - 1) / slots) ((p - 1) % slots)) 0 ≡ 0 →
          get_or ws' (filled_place ((p - 1) / slots)) 0 + 1 ≡ get_or ws (filled_place ((p - 1) / slots)) 0 →
          ((j : ℕ) → (pool_words n ≤ j → j < node_end n → ⊥) →
          j ≢ slot_place ((p - 1) / slots) ((p - 1) % slots) → j ≢ filled_place ((p - 1) / slots) →
          get_or ws' j 0 ≡ get_or ws j 0) →
          Cut s i (suc v) ((p - 1) / slots) ws'
      cut_next {ws'} len zeros slot₀ less rest = record {
        entry = c.entry;
        covering_is = c.covering_is;
        unmarked = c.unmarked;
        low = omega (arith, c.low);
        at_node_lem = over;
        size = len ∙ c.size;
        anchor = λ k lt. rest k (λ a b. omega arith) (omega arith) (omega arith) ∙ c.anchor k lt;
        node = λ m f q lt. by_t (eqb m n) (λ t. let e : m ≡ n = eqb-true _ _ t in
            zeros (place m f) (omega arith) (omega arith) ∙ sym (freed m f e))
            (λ t. let ne : m ≡ n → ⊥ = eqb-false _ _ t in
            by_t (eqb m ((p - 1) / slots))
            (λ k. let m≡ : m ≡ (p - 1) / slots = eqb-true _ _ k in
            by_t (eqb f (field_slot ((p - 1) % slots)))
            (λ a. let f≡ : f ≡ field_slot ((p - 1) % slots) = eqb-true _ _ a in rw (m≡, f≡) (slot₀ ∙ sym cleared))
            (λ a. let fs : f ≡ field_slot ((p - 1) % slots) → ⊥ = eqb-false _ _ a in
            by_t (eqb f filled_field)
            (λ b. let f≡ : f ≡ filled_field = eqb-true _ _ b in rw (m≡, f≡) counted)
            (λ b. let ff : f ≡ filled_field → ⊥ = eqb-false _ _ b in
            rest (place m f) (λ a b. ne (omega arith)) (λ z. fs (omega arith)) (λ z. ff (omega arith)) ∙
            (c.node m f q lt ∙ go m f lt ne (λ _ z. by_tells ((p - 1) % slots) f z fs ff) (get_or s.places m none) refl))))
            (λ k. let nm : m ≡ (p - 1) / slots → ⊥ = eqb-false _ _ k in
            rest (place m f) (λ a b. ne (omega arith)) (λ z. nm (omega arith)) (λ z. nm (omega arith)) ∙
            (c.node m f q lt ∙ go m f lt ne (λ x. absurd (nm x)) (get_or s.places m none) refl)));
      }
        where
          freed : (m f : ℕ) → m ≡ n → cut_at s.list (erase s.list i) (num s) (suc v) (get_or s.places m none)
              f ≡ 0
          freed m f e = rw (e, (node_at s c.at_node_lem).1, le-leb (suc v) (suc v) (le_refl (suc v)), gone, both_no)

          cleared : cut_at s.list (erase s.list i) (num s) (suc v) (get_or s.places ((p - 1) / slots) none)
              (field_slot ((p - 1) % slots)) ≡ 0
          cleared =
              let y : block (tier_order (suc (suc v))) i ≡ block (tier_order (suc v)) i / slots = tier_up (suc v) i in
              let o : (p - 1) % slots ≡ block (tier_order (suc v)) i % slots = over_slot in
              let d : slots * block (tier_order (suc (suc v))) i + (p - 1) % slots ≡ block (tier_order (suc v)) i =
              omega arith in
              let w : suc (suc v) - 1 ≡ suc v = omega arith in
              rw (
                (node_at s over).1,
                lt-leb (suc (suc v)) (suc v) (le_refl (suc (suc v))),
                le-leb (suc (suc v)) (suc (suc v)) (le_refl (suc (suc v))),
              )
              (under_slot (erase s.list i) (num s) (suc (suc v)) (block (tier_order (suc (suc v))) i)
              (height s.list) ((p - 1) % slots) ∙ rw (w, d)
              (slot_path s.list s.valid i c.entry c.covering_is c.unmarked (num s) (suc v) gone))

          counted : get_or ws' (filled_place ((p - 1) / slots)) 0 ≡ cut_at s.list (erase s.list i) (num s) (suc v)
              (get_or s.places ((p - 1) / slots) none) filled_field
          counted =
              rw (
                (node_at s over).1,
                lt-leb (suc (suc v)) (suc v) (le_refl (suc (suc v))),
                le-leb (suc (suc v)) (suc (suc v)) (le_refl (suc (suc v))),
              )
              (omega (arith, less, over_filled))

          go : (m f : ℕ) → IsField f → (m ≡ n → ⊥) → (m ≡ (p - 1) / slots → Tells ((p - 1) % slots) f → ⊥) →
              (o : Option Node) → get_or s.places m none ≡ o → cut_at s.list (erase s.list i) (num s) v o f ≡
              cut_at s.list (erase s.list i) (num s) (suc v) o f
          go m f lt ne out none r = refl
          go m f lt ne out (some x) r =
              let (y, t) = place_of s m x r in
              let (pos, le) = has_tier s.list x.tier x.number t in
              by_t (leb x.tier v) (λ g. let g' : x.tier ≤ v = leb-true _ _ g in
              rw (g, le-leb x.tier (suc v) (omega arith)))
              (λ g. let g' : v < x.tier = leb-false _ _ g in
              by_t (leb x.tier (suc v))
              (λ k. let k' : x.tier ≤ suc v = leb-true _ _ k in rw (g, k) (beside m f lt ne x r (omega arith)))
              (λ k. let k' : suc v < x.tier = leb-false _ _ k in
              by_t (leb x.tier (suc (suc v)))
              (λ j. let j' : x.tier ≤ suc (suc v) = leb-true _ _ j in
              let u : x.tier ≡ suc (suc v) = omega arith in
              rw (g, k, j) (by_t (eqb x.number (block (tier_order x.tier) i))
              (λ b. let b' : x.number ≡ block (tier_order x.tier) i = eqb-true _ _ b in
              let m≡ : m ≡ (p - 1) / slots = y ∙ (ap₂ (num s) u (b' ∙ ap (λ (z : ℕ). block (tier_order z) i) u) ∙
              sym over.number) in
              let w : x.tier - 1 ≡ suc v = omega arith in
              rw b' (sym (on_path_lem s.list s.valid i c.entry c.covering_is c.unmarked
              (height s.list) (num s) x.tier f pos (omega (arith, c.low)) lt
              (λ z. absurd (out m≡ (subst (λ (a : ℕ). Tells a f)
              (ap (λ (a : ℕ). block (tier_order a) i % slots) w ∙ sym over_slot) z))))))
              (λ b. sym (off_path s.list s.valid i c.entry c.covering_is c.unmarked
              (height s.list) (num s) x.tier x.number f pos (was_there x.tier x.number t)
              (λ _ z. eqb-false _ _ b z) lt))))
              (λ j. rw (g, k, j))))

-- THE RUN SET TO 0
module _ {ws₀ : List ℕ} (s : WellFormed ws₀) {i v n o : ℕ} (h : Holds s.list (num s) i n v o)
    (un : Unmarked s.list i) where
  bare₀ : h.entry.marks ≡ 0
  bare₀ = un h.entry h.covering_is

  mem₀ : In h.entry s.list
  mem₀ = entry_in s.list s.valid i h.entry h.covering_is

  pub run_stands : Stands s.list v (block (tier_order v) h.entry.base) h.entry
  run_stands = record { inside = mem₀; low = h.low; high = h.high; slot_is = refl }

  same_block : block (tier_order (suc v)) h.entry.base ≡ block (tier_order (suc v)) i
  same_block = sym (block_up {j = h.entry.order} {k = tier_order (suc v)} i h.entry.base (omega (arith, h.high))
      (eqb-true _ _ (entry_covers s.list s.valid i h.entry h.covering_is)))

  pub run_at : AtNode s.list (num s) v (block (tier_order v) h.entry.base / slots) n
  run_at = subst (λ (b : ℕ). AtNode s.list (num s) v b n) (tier_up v h.entry.base) h.at_node_lem

  at_i : AtNode s.list (num s) v (block (tier_order (suc v)) i) n
  at_i = subst (λ (b : ℕ). AtNode s.list (num s) v b n) same_block h.at_node_lem

  pub run_fits : (last_place n < length ws₀) × (n < max_nodes) × (o < slots) × (v < top_tier)
  run_fits =
      let a : n < s.n = (node_at s h.at_node_lem).0 in
      let t : suc v ≤ top_tier = has_low s.list (suc v) (block (tier_order (suc v)) h.entry.base)
      h.at_node_lem.there in
      (omega (arith, pool_length_lem s), omega (arith, s.most), omega (arith, h.slot_is), omega arith)

  module _ (r : ℕ) (r-is : h.entry.order ≡ tier_order v + r) where
    pub run_small : r < slots
    run_small = omega (arith, h.high)

    pub run_wide : o + 2 ^ r ≤ slots
    run_wide =
        let d : h.entry.order - tier_order v ≡ r = omega arith in
        let w : block (tier_order v) h.entry.base % slots + 2 ^ (h.entry.order - tier_order v) ≤ slots = wid_fits
        s.valid run_stands in
        let w' : block (tier_order v) h.entry.base % slots + 2 ^ r ≤ slots = rw d at w in
        omega (arith, h.slot_is)

    in_run_lem : (d : ℕ) → block (tier_order v) h.entry.base ≤ d → d < block (tier_order v) h.entry.base + 2 ^ r →
        Inside i h.entry.order (tier_order v) d
    in_run_lem d a b y z =
        let w : h.entry.order - tier_order v ≡ r = omega arith in
        let k : covers (d * 2 ^ (tier_order v)) h.entry ≡ true = covers_slot s.valid run_stands d a (rw w b) in
        block_up {j = tier_order v} {k = h.entry.order} y (d * 2 ^ (tier_order v)) h.low
        (z ∙ sym (block_at (tier_order v) d)) ∙ (eqb-true _ _ k ∙ sym
        (eqb-true _ _ (entry_covers s.list s.valid i h.entry h.covering_is)))

    out_run : (d : ℕ) → (block (tier_order v) h.entry.base ≤ d → d < block (tier_order v) h.entry.base + 2 ^ r →
        ⊥) → Apart i h.entry.order (tier_order v) d
    out_run d f y z g =
        let w : h.entry.order - tier_order v ≡ r = omega arith in
        let k : covers (d * 2 ^ (tier_order v)) h.entry ≡ true = eq-eqb _ _
        (sym (block_up {j = tier_order v} {k = h.entry.order} y (d * 2 ^ (tier_order v)) h.low
        (z ∙ sym (block_at (tier_order v) d))) ∙ (g ∙ eqb-true _ _
        (entry_covers s.list s.valid i h.entry h.covering_is))) in
        let ok : EntryOk h.entry = look (sorted_ok s.valid) mem₀ in
        let lo : h.entry.base ≤ d * 2 ^ (tier_order v) = covers_lo h.entry (d * 2 ^ (tier_order v)) ok k in
        let hi : d * 2 ^ (tier_order v) < h.entry.base + 2 ^ h.entry.order = covers_hi h.entry
        (d * 2 ^ (tier_order v)) ok k in
        let hi' : d * 2 ^ (tier_order v) < (block (tier_order v) h.entry.base + 2 ^ (h.entry.order - tier_order v))
        * 2 ^ (tier_order v) = rw (after_is s.valid run_stands) at hi in
        let a : block (tier_order v) h.entry.base ≤ d = subst (λ (x : ℕ). block (tier_order v) h.entry.base ≤ x)
        (block_at (tier_order v) d) (block_mono (tier_order v) lo) in
        let b : d < block (tier_order v) h.entry.base + 2 ^ (h.entry.order - tier_order v) =
        lt_of_mul-lt-mul_right (2 ^ (tier_order v)) hi' in
        f a (rw w at b)

    B≡ : block (tier_order (suc v)) i ≡ block (tier_order v) h.entry.base / slots
    B≡ = sym same_block ∙ tier_up v h.entry.base

    -- all its slots are filled
    run_filled : (t : ℕ) → t < 2 ^ r → slot s.list (num s) v (slots * block (tier_order (suc v)) i + (o + t)) ≡ 0 → ⊥
    run_filled t t< z =
        let w : h.entry.order - tier_order v ≡ r = omega arith in
        let d : ℕ = slots * block (tier_order (suc v)) i + (o + t) in
        let k : covers (d * 2 ^ (tier_order v)) h.entry ≡ true = covers_slot s.valid run_stands d
        (omega (arith, B≡, h.slot_is)) (rw w (omega (arith, B≡, h.slot_is))) in
        clash k (look (first_no (covers (d * 2 ^ (tier_order v))) s.list
        (zero_covering s.list (num s) v d (sorted_ok s.valid) z)) mem₀)

    -- without it the node's count is less by as many
    run_count : field_under (erase s.list i) (num s) (height s.list) (suc v) (block (tier_order (suc v)) i)
        filled_field + 2 ^ r ≡ get_or ws₀ (filled_place n) 0
    run_count =
        ap (λ (x : ℕ). x + 2 ^ r) (filled_under (erase s.list i) (num s) (height s.list) v
        (block (tier_order (suc v)) i)) ∙
        (filled_run (λ j. slot s.list (num s) v (slots * block (tier_order (suc v)) i + j))
        (λ j. slot (erase s.list i) (num s) v (slots * block (tier_order (suc v)) i + j)) o (2 ^ r) run_wide
        (λ j lt out. slot_stays s.list s.valid i h.entry h.covering_is bare₀ (num s) v
        (slots * block (tier_order (suc v)) i + j) (out_run (slots * block (tier_order (suc v)) i + j)
        (λ x y. out (omega (arith, B≡, h.slot_is)) (omega (arith, B≡, h.slot_is)))))
        run_filled
        (λ t lt. slot_goes s.list s.valid i h.entry h.covering_is bare₀ (num s) v
        (slots * block (tier_order (suc v)) i + (o + t))
        (in_run_lem (slots * block (tier_order (suc v)) i + (o + t)) (omega (arith, B≡, h.slot_is))
        (omega (arith, B≡, h.slot_is))))
        ∙ sym (pool_node s n filled_field (node_at s at_i).0 (omega arith) ∙ (rw (node_at s at_i).1 refl ∙
        filled_under s.list (num s) (height s.list) v (block (tier_order (suc v)) i))))

    pub run_counted_lem : 2 ^ r ≤ get_or ws₀ (filled_place n) 0
    run_counted_lem = omega (arith, run_count)

    pub cut_start : {ws : List ℕ} → length ws ≡ length ws₀ →
        get_or ws (filled_place n) 0 + 2 ^ r ≡ get_or ws₀ (filled_place n) 0 →
        ((j : ℕ) → slot_place n o ≤ j → j < slot_place n o + 2 ^ r → get_or ws j 0 ≡ 0) →
        ((j : ℕ) → j < slot_place n o → j ≢ filled_place n → get_or ws j 0 ≡ get_or ws₀ j 0) →
        ((j : ℕ) → slot_place n o + 2 ^ r ≤ j → get_or ws j 0 ≡ get_or ws₀ j 0) → Cut s i v n ws
    cut_start {ws} len less z b a = record {
      entry = h.entry;
      covering_is = h.covering_is;
      unmarked = bare₀;
      low = h.high;
      at_node_lem = at_i;
      size = len ∙ pool_length_lem s;
      anchor = λ k lt. b k (omega arith) (omega arith) ∙ pool_anchor s k lt;
      node = λ m f p lt. by_t (ltb (place m f) (slot_place n o))
          (λ t. by_t (eqb (place m f) (filled_place n))
          (λ t'. let e : place m f ≡ filled_place n = eqb-true _ _ t' in
          let m≡ : m ≡ n = omega arith in
          let f≡ : f ≡ filled_field = omega arith in
          rw (m≡, f≡) counted)
          (λ t'. let ne : place m f ≡ filled_place n → ⊥ = eqb-false _ _ t' in
          b (place m f) (ltb-true _ _ t) ne ∙ (pool_node s m f p lt ∙ go m f lt
          (λ x w y. omega (arith, ltb-true, t)) (λ x y. ne (omega arith)) (get_or s.places m none) refl)))
          (λ t. by_t (ltb (place m f) (slot_place n o + 2 ^ r))
          (λ t'. inner m f lt (ltb-false _ _ t) (ltb-true _ _ t'))
          (λ t'. a (place m f) (ltb-false _ _ t') ∙ (pool_node s m f p lt ∙ go m f lt
          (λ x y w. omega (arith, ltb-false, t')) (λ x y. omega (arith, ltb-false, t')) (get_or s.places m none) refl)));
    }
      where
        counted : get_or ws (filled_place n) 0 ≡ cut_at s.list (erase s.list i) (num s) v (get_or s.places n none)
            filled_field
        counted =
            rw (
              (node_at s at_i).1,
              lt-leb (suc v) v (le_refl (suc v)),
              le-leb (suc v) (suc v) (le_refl (suc v)),
            )
            (omega (arith, less, run_count))

        slot_0 : (t : ℕ) → t < 2 ^ r → field_under (erase s.list i) (num s) (height s.list) (suc v)
            (block (tier_order (suc v)) i) (field_slot (o + t)) ≡ 0
        slot_0 t t< =
            let w : o + 2 ^ r ≤ slots = run_wide in
            let v≡ : suc v - 1 ≡ v = omega arith in
            under_slot (erase s.list i) (num s) (suc v) (block (tier_order (suc v)) i) (height s.list) (o + t) ∙
            rw v≡ (slot_goes s.list s.valid i h.entry h.covering_is bare₀ (num s) v
            (slots * block (tier_order (suc v)) i + (o + t))
            (in_run_lem (slots * block (tier_order (suc v)) i + (o + t)) (omega (arith, B≡, h.slot_is))
            (omega (arith, B≡, h.slot_is))))

        inner : (m f : ℕ) → IsField f → slot_place n o ≤ place m f →
            place m f < slot_place n o + 2 ^ r → get_or ws (place m f) 0 ≡ cut_at s.list (erase s.list i)
            (num s) v (get_or s.places m none) f
        inner m f lt x y =
            let w : o + 2 ^ r ≤ slots = run_wide in
            let m≡ : m ≡ n = omega arith in
            let t : ℕ = place m f - slot_place n o in
            let f≡ : field_slot (o + t) ≡ f = omega arith in
            let t< : t < 2 ^ r = omega arith in
            z (place m f) x y ∙ sym (rw (
              m≡,
              (node_at s at_i).1,
              lt-leb (suc v) v (le_refl (suc v)),
              le-leb (suc v) (suc v) (le_refl (suc v)),
            )
            (subst (λ (k : ℕ). field_under (erase s.list i) (num s) (height s.list) (suc v)
            (block (tier_order (suc v)) i) k ≡ 0) f≡ (slot_0 t t<)))

        go : (m f : ℕ) → IsField f → (m ≡ n → field_slot o ≤ f → f < field_slot o + 2 ^ r → ⊥) →
            (m ≡ n → f ≡ filled_field → ⊥) → (x : Option Node) → get_or s.places m none ≡ x →
            field_at s.list (num s) x f ≡ cut_at s.list (erase s.list i) (num s) v x f
        go m f lt out nf none e = refl
        go m f lt out nf (some p) e =
            let (y, t) = place_of s m p e in
            let (pos, le) = has_tier s.list p.tier p.number t in
            let a : any (within (tier_order p.tier) p.number) s.list ≡ true = has_within s.list p.tier
            p.number t in
            by_t (leb p.tier v)
            (λ g. let g' : p.tier ≤ v = leb-true _ _ g in
            rw g (sym (off_tall s.list s.valid i h.entry h.covering_is bare₀ (height s.list) (num s)
            p.tier p.number f pos le a (λ x _. omega (arith, h.low)) ∙ off_path s.list s.valid i
            h.entry h.covering_is bare₀ (height s.list) (num s) p.tier p.number f pos a
            (λ x _. omega (arith, h.low)) lt)))
            (λ g. let g' : v < p.tier = leb-false _ _ g in
            by_t (leb p.tier (suc v))
            (λ k. let k' : p.tier ≤ suc v = leb-true _ _ k in
            let u : p.tier ≡ suc v = omega arith in
            rw (g, k) (sym (by_t (eqb p.number (block (tier_order p.tier) i))
            (λ d. let d' : p.number ≡ block (tier_order (suc v)) i = eqb-true _ _ d ∙ ap
            (λ (x : ℕ). block (tier_order x) i) u in
            let m≡ : m ≡ n = y ∙ (ap₂ (num s) u d' ∙ sym at_i.number) in
            let w : p.tier - 1 ≡ v = omega arith in
            fields_same s.list s.valid i h.entry h.covering_is bare₀ (height s.list) (num s)
            p.tier p.number f lt (λ o' g₁ f≡. rw w
            (slot_stays s.list s.valid i h.entry h.covering_is bare₀ (num s) v
            (slots * p.number + o') (out_run (slots * p.number + o')
            (λ x z. by_tells o' f f≡ (λ f≡. out m≡ (omega (arith, f≡, B≡, d', h.slot_is))
            (omega (arith, f≡, B≡, d', h.slot_is))) (nf m≡))))))
            (λ d. off_path s.list s.valid i h.entry h.covering_is bare₀ (height s.list) (num s)
            p.tier p.number f pos a (λ _ z. eqb-false _ _ d z) lt))))
            (λ k. rw (g, k)))
