-- What setting or clearing a mark of one entry does to the slots' marks, the nodes' fields and the anchor.
use Prim.Native.Nat.{ℕ, zero, suc, ◌+◌, ◌*◌, ◌-◌, ◌/◌, ◌%◌, ◌^◌, ◌≤◌, ◌<◌}
use mathlib.Core.Path.{◌≡◌, refl, sym, ap, ap₂, subst, ◌∙◌}
use mathlib.Core.Bool.{Bool, true, false, not}
use mathlib.Core.List.{List, map}
use mathlib.Core.Option.{Option, none, some}
use mathlib.Core.Logic.{◌⊎◌, inl, inr}
use native.Mathlib.Omega.{arith}
use native.Mathlib.Nat.{le_refl, zero-add}
use lib.Dec.{eqb}
use borrow.Author.Tests.{eqb-true, eqb-false, eq-eqb, ne_eqb}
use Rattle.blocks.specs.Choice.{pick, both, either}
use Rattle.blocks.specs.Lists.{any, All, end, also, In}
use Rattle.blocks.specs.Blocks.{block, bit, bits_to, set_bit}
use Rattle.blocks.proofs.BoolLaws.{clash, by_t, is_false, iff, both_l, both_r, either_yes, either_no}
use Rattle.blocks.proofs.ListLaws.{
  All-map,
  All-without,
  any_none,
  any_same,
  any_split,
  any_keep_both,
  first_yes,
  look,
  each,
  any_in_lem,
  in_any,
}
use Rattle.blocks.proofs.BlockLaws.{block_up}
use Rattle.blocks.proofs.BitLaws.{bits_read, bits_same, bits_zero, bits_none}
use Rattle.model.specs.declared.Entry.{Entry}
use Rattle.model.specs.Model.{Valid, covers, covering, starts, within, has_mark, marks_of, with_mark, remark, erase, mark_count, reserved}
use Rattle.model.proofs.ValidLaws.{covers_self, sorted_ok, unique}
use Rattle.tree.specs.Slots.{slot, entry_word, Numbering, node_word}
use Rattle.tree.specs.Tree.{slot_mark, height, slots, tier_order}
use Rattle.tree.proofs.StoreLaws.{marked_only}
use Rattle.tree.proofs.HeightLaws.{Low, height_fits, fits_base}
use Rattle.tree.proofs.SlotLaws.{tier_up, mark_up, mark_down}
use Rattle.tree.proofs.RelabelLaws.{map_o, any_map, within_map, covering_map, height_map}
use Rattle.layout.specs.Words.{field, field_mark, slot_word, owner_under, anchor_word, marks_word, IsField}
use Rattle.layout.proofs.FieldLaws.{
  by_field,
  filled_same,
  field_shift,
  field_owner,
  field_filled,
  field_mark_lem,
  field_slot_lem,
  level_mark_lem,
}
use Rattle.marks.proofs.BitSetLaws.{set_bits}
use Rattle.model.proofs.MarkLaws.{marks_bits, marks_of_bits}
use Rattle.marks.specs.Climb.{Markable}
use Rattle.model.proofs.WordLaws.{reserved_bare}

-- a node's mark word is 0 where the slot that leads to the node has no mark
pub word_mark : (l : List Entry) (m v b : ℕ) → not (eqb (bits_to (λ j. slot_mark l m v (slots * b + j)) slots) 0) ≡
    slot_mark l m (suc v) b
word_mark l m v b =
    by_t (slot_mark l m (suc v) b)
    (λ t. let (d, q, r) = mark_up l m v b t in
    rw (
      t,
      ne_eqb (bits_to (λ j. slot_mark l m v (slots * b + j)) slots) 0
          (λ z. clash r (subst (λ (x : ℕ). slot_mark l m v x ≡ false) (omega arith)
          (bits_zero (λ j. slot_mark l m v (slots * b + j)) slots z (d % slots) (omega arith)))),
    ))
    (λ t. rw (
      t,
      bits_none (λ j. slot_mark l m v (slots * b + j)) slots
          (λ j h. is_false (λ s. clash (subst (λ (x : ℕ). slot_mark l m (suc v) x ≡ true) (omega arith)
          (mark_down l m v (slots * b + j) s)) t)),
    ))

-- ONE ENTRY APART
module _ (l : List Entry) (val : Valid l) (i : ℕ) (e : Entry) (q : covering l i ≡ some e) where
  pub entry_in : In e l
  entry_in = (first_yes (covers i) (each l (λ x m. m)) q).1

  pub entry_covers : covers i e ≡ true
  entry_covers = (first_yes (covers i) (each l (λ x m. m)) q).0

  pub one_apart : (p : Entry → Bool) → any p l ≡ either (p e) (any p (erase l i))
  one_apart p =
      sym (any_split p (covers i) l) ∙ ap (λ (t : Bool). either t (any p (erase l i))) (any_keep_both p (covers i) l ∙
      iff (any (λ x. both (covers i x) (p x)) l) (p e)
      (λ t. let (x, n, s) = any_in_lem (λ x. both (covers i x) (p x)) l t in
      subst (λ (y : Entry). p y ≡ true) (unique i val n entry_in (both_l (covers i x) (p x) s) entry_covers)
      (both_r (covers i x) (p x) s))
      (λ t. in_any (λ x. both (covers i x) (p x)) entry_in (rw (entry_covers, t))))

  -- nothing else starts in the entry's own slot
  pub alone : (v : ℕ) → tier_order v ≤ e.order → (m : ℕ) → slot_mark (erase l i) m v (block (tier_order v) e.base) ≡
      false
  unfolding slot_mark
  alone v h m =
      any_none (λ x. both (starts (tier_order v) (block (tier_order v) e.base) x) (has_mark m x))
      (All-map (λ x (f : (covers i x ≡ false) × In x l) t.
      let k : covers x.base e ≡ true = eq-eqb _ _ (block_up {j = tier_order v} {k = e.order} x.base e.base h
      (marked_only m (tier_order v) (block (tier_order v) e.base) x t)) in
      clash (subst (λ (y : Entry). covers i y ≡ true) (sym (unique x.base val f.1 entry_in (covers_self x) k))
      entry_covers) f.0)
      (All-without (covers i) (each l (λ x n. n))))

  pub mark_old : (m u c : ℕ) → slot_mark l m u c ≡ either (both (starts (tier_order u) c e) (has_mark m e))
      (slot_mark (erase l i) m u c)
  unfolding slot_mark
  mark_old m u c = one_apart (λ x. both (starts (tier_order u) c x) (has_mark m x))

  module _ (m : ℕ) (m< : m < mark_count) (b : Bool) (may : Markable e b) where
    abbrev f : Entry → Entry
    f = with_mark i m b

    abbrev l' : List Entry
    l' = remark l i m b

    fb : (x : Entry) → (f x).base ≡ x.base
    fb x = refl

    fo : (x : Entry) → (f x).order ≡ x.order
    fo x = refl

    pub one_new : (p : Entry → Bool) → any p l' ≡ either (p (f e)) (any p (erase l i))
    one_new p =
        any_map f fb fo p (λ x. p (f x)) (λ x. refl) l ∙ (one_apart (λ x. p (f x)) ∙ ap (either (p (f e)))
        (any_same (λ x. p (f x)) p (All-map (λ x (h : (covers i x ≡ false) × In x l). ap p (off x h.0))
        (All-without (covers i) (each l (λ x n. n))))))
      where
        off : (x : Entry) → covers i x ≡ false → f x ≡ x
        off x t = rw t refl

    pub mark_new : (k u c : ℕ) → slot_mark l' k u c ≡ either (both (starts (tier_order u) c e) (has_mark k (f e)))
        (slot_mark (erase l i) k u c)
    unfolding slot_mark
    mark_new k u c = one_new (λ x. both (starts (tier_order u) c x) (has_mark k x))

    -- the entry's own marks; clearing leaves a reservation as it is
    set_marks : (f e).marks ≡ set_bit m b e.marks
    set_marks = by_t (reserved e)
        (λ t. let z : e.marks ≡ 0 = (reserved_bare e (look (sorted_ok val) entry_in).word_ok t).1 in
        rw (entry_covers, t, may t, z) (sym (bare m)))
        (λ t. rw (entry_covers, t) refl)
      where
        bare : (m : ℕ) → set_bit m false 0 ≡ 0
        bare m = omega arith

    new_marks : (f e).marks ≡ bits_to (λ j. pick (eqb j m) b (has_mark j e)) 3
    new_marks =
        let g : ℕ → Bool = λ j. pick (eqb j m) b (has_mark j e) in
        let w : set_bit m (g m) (bits_to (λ j. has_mark j e) 3) ≡ bits_to g 3 = set_bits (λ j. has_mark j e) g m 3 m<
        (λ j lt ne. sym (rw (ne_eqb j m ne))) in
        let t : b ≡ pick (eqb m m) b (has_mark m e) = rw (eq-eqb m m refl) in
        set_marks ∙ (ap₂ (λ (t : Bool) (x : ℕ). set_bit m t x) t
        (sym (marks_bits e (look (sorted_ok val) entry_in).marks_fit)) ∙ w)

    pub has_new : (k : ℕ) → k < mark_count → has_mark k (f e) ≡ pick (eqb k m) b (has_mark k e)
    has_new k h =
        let r : bit k (f e).marks ≡ pick (pick (eqb k m) b (has_mark k e)) 1 0 = ap (bit k) new_marks ∙ bits_read
        (λ j. pick (eqb j m) b (has_mark j e)) 3 k h in
        by_t (pick (eqb k m) b (has_mark k e)) (λ t. rw t (eq-eqb _ _ (r ∙ rw t)))
        (λ t. rw t (ne_eqb _ _ (λ z. let y : 1 ≡ 0 = sym z ∙ (r ∙ rw t) in omega arith)))

    pub mark_off : (k u c : ℕ) → k < mark_count → (k ≡ m → c ≡ block (tier_order u) e.base → ⊥) →
        slot_mark l' k u c ≡ slot_mark l k u c
    mark_off k u c h ne =
        mark_new k u c ∙ (ap (λ (t : Bool). either t (slot_mark (erase l i) k u c)) own ∙ sym (mark_old k u c))
      where
        own : both (starts (tier_order u) c e) (has_mark k (f e)) ≡ both (starts (tier_order u) c e) (has_mark k e)
        own = by_t (eqb k m)
            (λ t. rw (ne_eqb (block (tier_order u) e.base) c (λ z. ne (eqb-true _ _ t) (sym z))))
            (λ t. ap (both (starts (tier_order u) c e)) (has_new k h ∙ rw t))

    pub mark_entry : (v : ℕ) → tier_order v ≤ e.order → slot_mark l' m v (block (tier_order v) e.base) ≡ b
    mark_entry v h =
        mark_new m v (block (tier_order v) e.base) ∙ rw
        (alone v h m, either_no, eq-eqb (block (tier_order v) e.base) (block (tier_order v) e.base) refl)
        (has_new m m< ∙ rw (eq-eqb m m refl))

    -- the rest is the same
    pub same_height : height l' ≡ height l
    same_height = height_map f fb fo l

    pub same_slot : (ν : Numbering) (u c : ℕ) → slot l' ν u c ≡ slot l ν u c
    unfolding slot
    same_slot ν u c = rw (within_map f fb fo (tier_order u) c l, covering_map f fb fo (c * 2 ^ (tier_order u)) l)
        (ap (pick (any (within (tier_order u) c) l) (node_word (ν u c))) (go (covering l (c * 2 ^ (tier_order u)))))
      where
        go : (o : Option Entry) → entry_word u c (map_o f o) ≡ entry_word u c o
        go none = refl
        go (some x) = refl

    pub field_off : (ν : Numbering) (u c k : ℕ) → 0 < u → IsField k →
        (k ≡ field_mark m → c ≡ block (tier_order u) e.base → ⊥) → field l' ν u c k ≡ field l ν u c k
    field_off ν u c k pos h =
        by_field (λ k. (k ≡ field_mark m → c ≡ block (tier_order u) e.base → ⊥) → field l' ν u c k ≡ field l ν u c k)
        (λ _. field_shift l' ν u c ∙ sym (field_shift l ν u c))
        (λ _. field_owner l' ν u c ∙ (ap (λ (x : ℕ). owner_under x ν u c) same_height ∙ sym (field_owner l ν u c)))
        (λ _. field_filled l' ν u c ∙ (filled_same (slot_word l ν u c) (slot_word l' ν u c)
        (λ o g. same_slot ν (u - 1) (slots * c + o)) ∙ sym (field_filled l ν u c)))
        (λ x g ne. field_mark_lem l' ν u c x g ∙ (bits_same (λ j. slot_mark l' x (u - 1) (slots * c + j))
        (λ j. slot_mark l x (u - 1) (slots * c + j)) slots
        (λ j lt. mark_off x (u - 1) (slots * c + j) g
        (λ a z. ne (ap field_mark a) (up (slots * c + j) z (omega arith)))) ∙ sym (field_mark_lem l ν u c x g)))
        (λ o g _. field_slot_lem l' ν u c o ∙ (same_slot ν (u - 1) (slots * c + o) ∙ sym (field_slot_lem l ν u c o))) k h
      where
        up : (d : ℕ) → d ≡ block (tier_order (u - 1)) e.base → c ≡ d / slots → c ≡ block (tier_order u) e.base
        up d z y = let s : suc (u - 1) ≡ u = omega arith in
            y ∙ (ap (λ (x : ℕ). x / slots) z ∙ (sym (tier_up (u - 1) e.base) ∙ ap
            (λ (x : ℕ). block (tier_order x) e.base) s))

    pub field_on : (ν : Numbering) (v : ℕ) → set_bit (block (tier_order v) e.base % slots)
        (slot_mark l' m v (block (tier_order v) e.base))
        (field l ν (suc v) (block (tier_order (suc v)) e.base) (field_mark m)) ≡ field l' ν (suc v)
        (block (tier_order (suc v)) e.base) (field_mark m)
    field_on ν v =
        let B : ℕ = block (tier_order (suc v)) e.base in
        let c : ℕ = block (tier_order v) e.base in
        let y : block (tier_order (suc v)) e.base ≡ block (tier_order v) e.base / slots = tier_up v e.base in
        let at : slots * block (tier_order (suc v)) e.base + block (tier_order v) e.base % slots ≡ block
        (tier_order v) e.base = omega arith in
        let F : (l : List Entry) → field l ν (suc v) B (field_mark m) ≡ bits_to (λ j. slot_mark l m v (slots * B + j))
        slots = λ l. level_mark_lem l ν v B m m< in
        rw (F l, F l') (ap (λ (x : ℕ). set_bit (c % slots) (slot_mark l' m v x)
        (bits_to (λ j. slot_mark l m v (slots * B + j)) slots)) (sym at) ∙
        set_bits (λ j. slot_mark l m v (slots * B + j)) (λ j. slot_mark l' m v (slots * B + j)) (c % slots) slots
        (omega arith) (λ j lt n. sym (mark_off m v (slots * B + j) m< (λ a z. n (omega arith)))))

    -- the anchor's
    pub anchor_off : (ν : Numbering) (n k : ℕ) → (k ≡ marks_word → ⊥) → anchor_word l' ν n k ≡ anchor_word l ν n k
    anchor_off ν n k ne = rw (ne_eqb k marks_word ne, same_height, same_slot)

    pub marks_on : set_bit m (any (has_mark m) l') (marks_of l) ≡ marks_of l'
    marks_on =
        rw (marks_of_bits l, marks_of_bits l') (set_bits (λ j. any (has_mark j) l) (λ j. any (has_mark j) l') m mark_count m<
        (λ j lt ne.
        let t : has_mark j (f e) ≡ has_mark j e = has_new j lt ∙ rw (ne_eqb j m ne) in
        one_apart (has_mark j) ∙ (ap (λ (t : Bool). either t (any (has_mark j) (erase l i))) (sym t) ∙ sym
        (one_new (has_mark j)))))

    pub marks_same : any (has_mark m) l' ≡ any (has_mark m) l → marks_of l' ≡ marks_of l
    marks_same h =
        rw (marks_of_bits l, marks_of_bits l') (bits_same (λ j. any (has_mark j) l') (λ j. any (has_mark j) l) mark_count
        (λ j lt. by_t (eqb j m) (λ t. let z : j ≡ m = eqb-true _ _ t in rw z h)
        (λ t. let k : has_mark j (f e) ≡ has_mark j e = has_new j lt ∙ rw t in
        one_new (has_mark j) ∙ (ap (λ (t : Bool). either t (any (has_mark j) (erase l i))) k ∙ sym
        (one_apart (has_mark j))))))

    -- at the head all entries start in block 0
    pub mark_top_lem : slot_mark l' m (height l) 0 ≡ any (has_mark m) l'
    unfolding slot_mark
    mark_top_lem =
        any_same (λ x. both (starts (tier_order (height l)) 0 x) (has_mark m x)) (has_mark m)
        (map_all (All-map (λ x fit. rw (fits_base (height l) x fit) refl) (height_fits low (le_refl (height l)))))
      where
        low : All Low l
        low = All-map (λ x o. (o.order_le, o.in_range)) (sorted_ok val)

        map_all : {s : List Entry} → All (λ x. both (starts (tier_order (height l)) 0 x) (has_mark m (f x)) ≡ has_mark m
            (f x)) s → All (λ x. both (starts (tier_order (height l)) 0 x) (has_mark m x) ≡ has_mark m x) (map f s)
        map_all end = end
        map_all (also h a) = also h (map_all a)

    -- where the mark of the path's slot does not change, it changes nowhere above
    either_or : (a b r : Bool) → either a r ≡ either b r → (a ≡ b) ⊎ (r ≡ true)
    either_or true true r e = inl refl
    either_or false false r e = inl refl
    either_or true false r e = inr (sym e)
    either_or false true r e = inr e

    rest_up : (v d : ℕ) → slot_mark (erase l i) m v (block (tier_order v) e.base) ≡ true →
        slot_mark (erase l i) m (d + v) (block (tier_order (d + v)) e.base) ≡ true
    rest_up v zero t = rw zero-add t
    rest_up v (suc d) t =
        let s : suc d + v ≡ suc (d + v) = omega arith in
        rw s (subst (λ (c : ℕ). slot_mark (erase l i) m (suc (d + v)) c ≡ true) (sym (tier_up (d + v) e.base))
        (mark_down (erase l i) m (d + v) (block (tier_order (d + v)) e.base) (rest_up v d t)))

    module _ (v : ℕ) (same : slot_mark l' m v (block (tier_order v) e.base) ≡ slot_mark l m v
        (block (tier_order v) e.base)) where
      choice : (has_mark m (f e) ≡ has_mark m e) ⊎ (slot_mark (erase l i) m v (block (tier_order v) e.base) ≡ true)
      choice =
          let s : starts (tier_order v) (block (tier_order v) e.base) e ≡ true = eq-eqb
          (block (tier_order v) e.base) (block (tier_order v) e.base) refl in
          either_or (has_mark m (f e)) (has_mark m e) (slot_mark (erase l i) m v (block (tier_order v) e.base))
          (ap (λ (t : Bool). either (both t (has_mark m (f e)))
          (slot_mark (erase l i) m v (block (tier_order v) e.base))) (sym s) ∙
          (sym (mark_new m v (block (tier_order v) e.base)) ∙
          (same ∙ (mark_old m v (block (tier_order v) e.base) ∙ ap
          (λ (t : Bool). either (both t (has_mark m e)) (slot_mark (erase l i) m v (block (tier_order v) e.base)))
          s))))

      pub settled : (u : ℕ) → v ≤ u → slot_mark l' m u (block (tier_order u) e.base) ≡ slot_mark l m u
          (block (tier_order u) e.base)
      settled u le = mark_new m u (block (tier_order u) e.base) ∙
          (go choice ∙ sym (mark_old m u (block (tier_order u) e.base)))
        where
          go : (has_mark m (f e) ≡ has_mark m e) ⊎ (slot_mark (erase l i) m v (block (tier_order v) e.base) ≡ true) →
              either (both (starts (tier_order u) (block (tier_order u) e.base) e) (has_mark m (f e)))
              (slot_mark (erase l i) m u (block (tier_order u) e.base)) ≡ either
              (both (starts (tier_order u) (block (tier_order u) e.base) e) (has_mark m e))
              (slot_mark (erase l i) m u (block (tier_order u) e.base))
          go (inl h) = ap (λ (t : Bool). either (both (starts (tier_order u) (block (tier_order u) e.base) e) t)
              (slot_mark (erase l i) m u (block (tier_order u) e.base))) h
          go (inr r) =
              let w : u - v + v ≡ u = omega arith in
              let r' : slot_mark (erase l i) m u (block (tier_order u) e.base) ≡ true = subst
              (λ (x : ℕ). slot_mark (erase l i) m x (block (tier_order x) e.base) ≡ true) w (rest_up v (u - v) r)
              in
              rw (r', either_yes, either_yes)

      pub settled_any : any (has_mark m) l' ≡ any (has_mark m) l
      unfolding slot_mark
      settled_any = one_new (has_mark m) ∙ (go choice ∙ sym (one_apart (has_mark m)))
        where
          go : (has_mark m (f e) ≡ has_mark m e) ⊎ (any (λ x. both
              (starts (tier_order v) (block (tier_order v) e.base) x) (has_mark m x)) (erase l i) ≡ true) →
              either (has_mark m (f e)) (any (has_mark m) (erase l i)) ≡ either (has_mark m e)
              (any (has_mark m) (erase l i))
          go (inl h) = ap (λ (t : Bool). either t (any (has_mark m) (erase l i))) h
          go (inr r) =
              let (x, n, k) = any_in_lem (λ x. both (starts (tier_order v) (block (tier_order v) e.base) x)
              (has_mark m x)) (erase l i) r in
              let r' : any (has_mark m) (erase l i) ≡ true = in_any (has_mark m) n
              (both_r (starts (tier_order v) (block (tier_order v) e.base) x) (has_mark m x) k) in
              rw (r', either_yes, either_yes)

      -- so the fields of the nodes above are the same
      pub field_settled : (ν : Numbering) (u k : ℕ) → v < u → IsField k →
          field l' ν u (block (tier_order u) e.base) k ≡ field l ν u (block (tier_order u) e.base) k
      field_settled ν u k lt h =
          by_t (eqb k (field_mark m))
          (λ t. let k≡ : k ≡ field_mark m = eqb-true _ _ t in
          let s : suc (u - 1) ≡ u = omega arith in
          let y : block (tier_order u) e.base ≡ block (tier_order (u - 1)) e.base / slots = ap
          (λ (x : ℕ). block (tier_order x) e.base) (sym s) ∙ tier_up (u - 1) e.base in
          rw k≡ (field_mark_lem l' ν u (block (tier_order u) e.base) m m< ∙ (bits_same (λ j. slot_mark l' m (u - 1) (slots * block (tier_order u) e.base + j))
          (λ j. slot_mark l m (u - 1) (slots * block (tier_order u) e.base + j)) slots (λ j j<.
          by_t (eqb (slots * block (tier_order u) e.base + j) (block (tier_order (u - 1)) e.base))
          (λ g. let g' : slots * block (tier_order u) e.base + j ≡ block (tier_order (u - 1)) e.base = eqb-true _
          _ g in rw g' (settled (u - 1) (omega arith)))
          (λ g. mark_off m (u - 1) (slots * block (tier_order u) e.base + j) m< (λ _ z. eqb-false _ _ g z)))
          ∙ sym (field_mark_lem l ν u (block (tier_order u) e.base) m m<))))
          (λ t. field_off ν u (block (tier_order u) e.base) k (omega arith) h (λ z _. eqb-false _ _ t z))
